-- A line that stands whole in a text is one of its lines.
use Rattle.std.proofs.Common.{◌≡◌, ℕ, ◌==◌, Bool, true, false, List, [], ◌∷◌, ◌++◌, if◌then◌else◌, refl, sym, ◌∙◌, ap, inl, inr, append_assoc}
use Rattle.text_lines.specs.Lines.{onto_first, lines_of}
use Rattle.text_lines.specs.Cutting.{EndsInFeed, Anything}
use Rattle.text_lines.specs.Whole.{AreWholeLines, HasLine}
use Rattle.text_lines.proofs.Joining.{joins_feed}

-- ---- behind a line feed

-- a text that is not empty has a first line
record HasFirst (text : List ℕ) : Type 0 where
  first : List ℕ
  rest : List (List ℕ)
  is : lines_of text ≡ first ∷ rest

first_onto : (b : ℕ) (lines : List (List ℕ)) → (first : List ℕ) × (rest : List (List ℕ)) × (onto_first b lines ≡ first ∷ rest)
first_onto b [] = (b ∷ [], [], refl)
first_onto b (line ∷ lines) = (b ∷ line, lines, refl)

has_first : (b : ℕ) (text : List ℕ) → HasFirst (b ∷ text)
has_first b text = by_feed (b == 10) refl
  where
    by_feed : (g : Bool) → (b == 10) ≡ g → HasFirst (b ∷ text)
    by_feed true feed = record { first = b ∷ []; rest = lines_of text; is = rw feed refl }
    by_feed false plain =
        let onto = first_onto b (lines_of text) in
        record { first = onto.0; rest = onto.1; is = rw plain onto.2 }

onto_more : (b : ℕ) (first : List ℕ) (lines rest more : List (List ℕ)) → lines ≡ first ∷ rest → onto_first b (lines ++ more) ≡ onto_first b lines ++ more
onto_more b first lines rest more is = rw is refl

joined : (b : ℕ) (g : Bool) (whole part more : List (List ℕ)) → whole ≡ part ++ more → onto_first b whole ≡ onto_first b part ++ more
    → (if g then (b ∷ []) ∷ whole else onto_first b whole) ≡ (if g then (b ∷ []) ∷ part else onto_first b part) ++ more
joined b true whole part more same onto = ap (λ lines. (b ∷ []) ∷ lines) same
joined b false whole part more same onto = onto

behind_feed : (front more : List ℕ) → lines_of (front ++ 10 ∷ more) ≡ lines_of (front ++ 10 ∷ []) ++ lines_of more
behind_feed [] more = refl
behind_feed (b ∷ front) more =
    let part = lines_of (front ++ 10 ∷ []) in
    let same = behind_feed front more in
    let first = not_empty front in
    joined b (b == 10) (lines_of (front ++ 10 ∷ more)) part (lines_of more) same
    (ap (onto_first b) same ∙ onto_more b first.first part first.rest (lines_of more) first.is)
  where
    not_empty : (front : List ℕ) → HasFirst (front ++ 10 ∷ [])
    not_empty [] = has_first 10 []
    not_empty (c ∷ front) = has_first c (front ++ 10 ∷ [])

pub behind_whole : (front more : List ℕ) → AreWholeLines front → lines_of (front ++ more) ≡ lines_of front ++ lines_of more
behind_whole front more (inl none) = rw none refl
behind_whole front more (inr ends) =
    ap (λ f. lines_of (f ++ more)) ends.1 ∙ ap lines_of (append_assoc ends.0 (10 ∷ []) more) ∙ behind_feed ends.0 more ∙ ap (λ f. lines_of f ++ lines_of more) (sym ends.1)

-- ---- a whole line

-- the lines of a text that has a whole line: those before it, it, and those behind it
pub record HasAmong (lines : List (List ℕ)) (line : List ℕ) : Type 0 where
  pub before : List (List ℕ)
  pub behind : List (List ℕ)
  pub is : lines ≡ before ++ (line ∷ behind)

pub line_of_text : (text line : List ℕ) → EndsInFeed line → HasLine text line → HasAmong (lines_of text) line
line_of_text text line ends has = record {
  before = lines_of has.front;
  behind = lines_of has.back;
  is = ap lines_of has.is ∙ behind_whole has.front (line ++ has.back) has.lines ∙ ap (λ lines. lines_of has.front ++ lines) ((joins_feed Anything line ends).lines has.back tt);
}

-- what goes on keeps its whole lines
pub goes_on : (text more line : List ℕ) → HasLine text line → HasLine (text ++ more) line
goes_on text more line has = record {
  front = has.front;
  back = has.back ++ more;
  is = ap (λ t. t ++ more) has.is ∙ append_assoc has.front (line ++ has.back) more ∙ ap (λ rest. has.front ++ rest) (append_assoc line has.back more);
  lines = has.lines;
}
