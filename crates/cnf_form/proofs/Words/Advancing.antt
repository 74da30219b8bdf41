-- The lines of a text, one after another.
use Rattle.std.proofs.Common.{◌≡◌, ℕ, ◌<◌, Bool, true, false, not, ◌⊎◌, ◌==◌, List, [], ◌∷◌, ◌++◌, length, filter, refl, sym, ◌∙◌, ap, arith, append_assoc, length-append, inl, inr}
use Rattle.std.specs.List.{flat_map}
use Rattle.std.proofs.lemmas.List.{append-nil}
use Rattle.std.proofs.lemmas.List.Concat.{flat_map-append}
use Rattle.std.proofs.lemmas.List.Elements.{filter-append}
use Rattle.std.proofs.lemmas.List.Folds.{list_all-append}
use Rattle.text_lines.specs.Lines.{lines_of}
use Rattle.cnf_form.specs.Forms.{is_gap, pieces, has_bytes, words, begins_with, told_lines}
use Rattle.text_lines.specs.Cutting.{HasNoFeed, EndsInFeed, IsUnfinished, AreLines, Anything}
use Rattle.cnf_form.specs.Passing.{AreComments, AreClauseLines, IsHead}
use Rattle.text_lines.proofs.Joining.{lines_feed, Feeds, feeds, not_both, single, Joins, joins_feed, joins_end}

-- ---- words and lines at a line feed

pieces_some : (bytes : List ℕ) → (first : List ℕ) × (rest : List (List ℕ)) × (pieces bytes ≡ first ∷ rest)
pieces_some [] = ([], [], refl)
pieces_some (b ∷ bs) = by_gap (is_gap b) refl (pieces_some bs)
  where
    by_gap : (g : Bool) → is_gap b ≡ g → (first : List ℕ) × (rest : List (List ℕ)) × (pieces bs ≡ first ∷ rest) → (first : List ℕ) × (rest : List (List ℕ)) × (pieces (b ∷ bs) ≡ first ∷ rest)
    by_gap true e some = ([], pieces bs, rw e refl)
    by_gap false e some = (b ∷ some.0, some.1, rw (e, some.2) refl)

pieces_feed : (xs ys : List ℕ) → pieces (xs ++ 10 ∷ ys) ≡ pieces xs ++ pieces ys
pieces_feed [] ys = refl
pieces_feed (x ∷ xs) ys = by_gap (is_gap x) refl (pieces_feed xs ys) (pieces_some xs)
  where
    by_gap : (g : Bool) → is_gap x ≡ g → pieces (xs ++ 10 ∷ ys) ≡ pieces xs ++ pieces ys → (first : List ℕ) × (rest : List (List ℕ)) × (pieces xs ≡ first ∷ rest) → pieces ((x ∷ xs) ++ 10 ∷ ys) ≡ pieces (x ∷ xs) ++ pieces ys
    by_gap true e same some = rw (e, same) refl
    by_gap false e same some = rw (e, same, some.2) refl

pub words_feed : (xs ys : List ℕ) → words (xs ++ 10 ∷ ys) ≡ words xs ++ words ys
words_feed xs ys = ap (filter has_bytes) (pieces_feed xs ys) ∙ filter-append has_bytes (pieces xs) (pieces ys)

-- the first line that is told
pub record NextTold (line more : List ℕ) : Type 0 where
  pub ending : List ℕ
  pub rest : List ℕ
  pub told : told_lines (line ++ more) ≡ (line ++ ending) ∷ told_lines rest
  pub closed : EndsInFeed line → ending ≡ []

pub begins_on : (c : ℕ) (line more : List ℕ) → 0 < length line → begins_with c (line ++ more) ≡ begins_with c line
begins_on c [] more some = absurd (omega (arith, some))
begins_on c (b ∷ bs) more some = refl

told_first : (line : List ℕ) (first : List ℕ) (rest : List (List ℕ)) (text : List ℕ) → lines_of text ≡ first ∷ rest → begins_with 99 first ≡ false → told_lines text ≡ first ∷ filter (λ line. not (begins_with 99 line)) rest
told_first line first rest text lines plain = rw (lines, plain) refl

pub next_told : (line more : List ℕ) → EndsInFeed line ⊎ IsUnfinished line → begins_with 99 line ≡ false → NextTold line more
next_told line more (inl ends) plain =
    let lines : lines_of (line ++ more) ≡ line ∷ lines_of more = ap (λ l. lines_of (l ++ more)) ends.is ∙ ap lines_of (append_assoc ends.visible (10 ∷ []) more) ∙ lines_feed ends.visible more ends.no_feed ∙ ap (λ l. l ∷ lines_of more) (sym ends.is) in
    record { ending = []; rest = more; told = told_first line line (lines_of more) (line ++ more) lines plain ∙ ap (λ l. l ∷ told_lines more) (sym (append-nil line)); closed = λ e. refl }
next_told line more (inr unfinished) plain = by_more (feeds more)
  where
    joined : (ys : List ℕ) → HasNoFeed ys → HasNoFeed (line ++ ys)
    joined ys no_feed = list_all-append (λ b. not (b == 10)) line ys ∙ rw (unfinished.no_feed, no_feed) refl

    by_more : HasNoFeed more ⊎ Feeds more → NextTold line more
    by_more (inl no_feed) =
        let lines = single (line ++ more) (omega (arith, unfinished.some, length-append line more)) (joined more no_feed) in
        record { ending = more; rest = []; told = told_first line (line ++ more) [] (line ++ more) lines (begins_on 99 line more unfinished.some ∙ plain); closed = λ e. absurd (not_both line e unfinished) }
    by_more (inr cut) =
        let ending : List ℕ = cut.visible ++ 10 ∷ [] in
        let whole : line ++ (cut.visible ++ 10 ∷ []) ≡ (line ++ cut.visible) ++ 10 ∷ [] = sym (append_assoc line cut.visible (10 ∷ [])) in
        let lines : lines_of (line ++ more) ≡ (line ++ (cut.visible ++ 10 ∷ [])) ∷ lines_of cut.rest =
        ap (λ m. lines_of (line ++ m)) cut.is ∙ ap lines_of (sym (append_assoc line cut.visible (10 ∷ cut.rest))) ∙ lines_feed (line ++ cut.visible) cut.rest (joined cut.visible cut.no_feed) ∙ ap (λ l. l ∷ lines_of cut.rest) (sym whole) in
        record { ending = cut.visible ++ 10 ∷ []; rest = cut.rest; told = told_first line (line ++ (cut.visible ++ 10 ∷ [])) (lines_of cut.rest) (line ++ more) lines (begins_on 99 line (cut.visible ++ 10 ∷ []) unfinished.some ∙ plain); closed = λ e. absurd (not_both line e unfinished) }

-- ---- one more line

-- a line, before what may follow it, and its words before those that follow
pub record Follows (May : List ℕ → Type 0) (line : List ℕ) : Type 0 where
  pub joins : Joins May line
  pub word : (more : List ℕ) → May more → words (line ++ more) ≡ words line ++ words more

pub follows_feed : (May : List ℕ → Type 0) (line : List ℕ) → EndsInFeed line → Follows May line
follows_feed May line ends = record {
  joins = joins_feed May line ends;
  word = λ more may. ap (λ l. words (l ++ more)) ends.is ∙ ap words (append_assoc ends.visible (10 ∷ []) more) ∙ words_feed ends.visible more ∙ ap (λ ws. ws ++ words more) (sym (append-nil (words ends.visible)) ∙ sym (words_feed ends.visible []) ∙ ap words (sym ends.is));
}

pub follows_end : (May : List ℕ → Type 0) (line : List ℕ) → IsUnfinished line → ((more : List ℕ) → May more → more ≡ []) → Follows May line
follows_end May line unfinished last = record {
  joins = joins_end May line unfinished last;
  word = λ more may. ap (λ m. words (line ++ m)) (last more may) ∙ ap words (append-nil line) ∙ sym (append-nil (words line)) ∙ ap (λ m. words line ++ words m) (sym (last more may));
}

pub told_with : (May : List ℕ → Type 0) (before more : List ℕ) (n : ℕ) → AreLines May before n → May more → told_lines (before ++ more) ≡ told_lines before ++ told_lines more
told_with May before more n lines may = ap (filter (λ line. not (begins_with 99 line))) (lines.whole more may) ∙ filter-append (λ line. not (begins_with 99 line)) (lines_of before) (lines_of more)

told_comment : (May : List ℕ → Type 0) (line : List ℕ) → Follows May line → begins_with 99 line ≡ true → told_lines line ≡ []
told_comment May line follows comment = rw (follows.joins.alone, comment) refl

pub told_plain : (May : List ℕ → Type 0) (line : List ℕ) → Follows May line → begins_with 99 line ≡ false → told_lines line ≡ line ∷ []
told_plain May line follows plain = rw (follows.joins.alone, plain) refl

pub one_comment : (May : List ℕ → Type 0) (before line : List ℕ) (n : ℕ) → AreLines Anything before n → Follows May line → begins_with 99 line ≡ true → AreComments before → AreComments (before ++ line)
one_comment May before line n lines follows comment comments = record {
  told = told_with Anything before line n lines tt ∙ ap (λ ls. ls ++ told_lines line) comments.told ∙ told_comment May line follows comment;
}

-- the head
pub one_head : (May : List ℕ → Type 0) (before line : List ℕ) (n variables count : ℕ) → AreLines Anything before n → Follows May line → begins_with 99 line ≡ false → AreComments before → IsHead line variables count
    → AreClauseLines May (before ++ line) variables count []
one_head May before line n variables count lines follows plain comments is = record {
  head = line;
  body = [];
  told = told_with Anything before line n lines tt ∙ ap (λ ls. ls ++ told_lines line) comments.told ∙ told_plain May line follows plain;
  is_head = is;
  follow = λ more may. refl;
}

-- a comment among the clauses
pub comment_between : (May : List ℕ → Type 0) (before line : List ℕ) (n variables count : ℕ) (seen : List (List ℕ)) → AreLines Anything before n → Follows May line → begins_with 99 line ≡ true → AreClauseLines Anything before variables count seen
    → AreClauseLines May (before ++ line) variables count seen
comment_between May before line n variables count seen lines follows comment clauses = record {
  head = clauses.head;
  body = clauses.body;
  told = told_with Anything before line n lines tt ∙ ap (λ ls. told_lines before ++ ls) (told_comment May line follows comment) ∙ append-nil (told_lines before) ∙ clauses.told;
  is_head = clauses.is_head;
  follow = λ more may. clauses.follow more tt;
}

-- a line of clauses
pub one_more : (May : List ℕ → Type 0) (before line : List ℕ) (n variables count : ℕ) (seen : List (List ℕ)) → AreLines Anything before n → Follows May line → begins_with 99 line ≡ false → AreClauseLines Anything before variables count seen
    → AreClauseLines May (before ++ line) variables count (seen ++ words line)
one_more May before line n variables count seen lines follows plain clauses = record {
  head = clauses.head;
  body = clauses.body ++ line ∷ [];
  told = told_with Anything before line n lines tt ∙ ap (λ ls. told_lines before ++ ls) (told_plain May line follows plain) ∙ ap (λ ls. ls ++ line ∷ []) clauses.told;
  is_head = clauses.is_head;
  follow = λ more may.
      ap (λ b. words (b ++ more)) (flat_map-append (λ (line : List ℕ). line) clauses.body (line ∷ []) ∙ ap (λ b. flat_map (λ line. line) clauses.body ++ b) (append-nil line))
      ∙ ap words (append_assoc (flat_map (λ line. line) clauses.body) line more) ∙ clauses.follow (line ++ more) tt ∙ ap (λ ws. seen ++ ws) (follows.word more may) ∙ sym (append_assoc seen (words line) (words more));
}
