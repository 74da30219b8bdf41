-- The line at which a text leaves a form.
use Rattle.std.proofs.Common.{◌≡◌, ℕ, suc, zero, ◌+◌, ◌<◌, Bool, true, false, ◌==◌, List, [], ◌∷◌, ◌++◌, length, take, drop, refl, sym, ◌∙◌, ap, subst, arith, append_assoc, length-append, eqb-true}
use Rattle.std.specs.List.{flat_map}
use Rattle.std.proofs.lemmas.List.{append-nil, take-append-le, take-append-drop, take_at}
use Rattle.std.proofs.lemmas.Bool.{false≢true}
use Rattle.std.proofs.lemmas.List.Concat.{flat_map-append}
use Rattle.text_lines.specs.Lines.{onto_first, lines_of, Begins, LeavesAt}
use Rattle.text_lines.specs.Cutting.{AreLines, Anything}

concat_onto : (b : ℕ) (lines : List (List ℕ)) → flat_map (λ line. line) (onto_first b lines) ≡ b ∷ flat_map (λ line. line) lines
concat_onto b [] = refl
concat_onto b (line ∷ lines) = refl

-- the lines of a text make the text
pub concat_lines : (text : List ℕ) → flat_map (λ line. line) (lines_of text) ≡ text
concat_lines [] = refl
concat_lines (b ∷ bs) = by_first (b == 10) refl (concat_lines bs)
  where
    by_first : (g : Bool) → (b == 10) ≡ g → flat_map (λ line. line) (lines_of bs) ≡ bs → flat_map (λ line. line) (lines_of (b ∷ bs)) ≡ b ∷ bs
    by_first true e rest = rw e (ap (λ t. b ∷ t) rest)
    by_first false e rest = rw e (concat_onto b (lines_of bs) ∙ ap (λ t. b ∷ t) rest)

pub begins_front : (IsText : List ℕ → Type 0) (a b : List ℕ) → Begins IsText (a ++ b) → Begins IsText a
begins_front IsText a b begins = record { more = b ++ begins.more; whole = subst IsText (append_assoc a b begins.more) begins.whole }

begins_lines : (IsText : List ℕ → Type 0) (text : List ℕ) (k : ℕ) → Begins IsText text → Begins IsText (flat_map (λ line. line) (take k (lines_of text)))
begins_lines IsText text k begins =
    begins_front IsText (flat_map (λ line. line) (take k (lines_of text))) (flat_map (λ line. line) (drop k (lines_of text)))
    (subst (Begins IsText) (sym (sym (flat_map-append (λ (line : List ℕ). line) (take k (lines_of text)) (drop k (lines_of text))) ∙ ap (flat_map (λ line. line)) (take-append-drop k (lines_of text)) ∙ concat_lines text)) begins)

-- at the line behind those before it
pub leaves_here : (IsText : List ℕ → Type 0) (text before line rest : List ℕ) (n : ℕ) → text ≡ before ++ (line ++ rest) → AreLines Anything before n → lines_of line ≡ line ∷ [] → lines_of (line ++ rest) ≡ line ∷ lines_of rest
    → Begins IsText before → ¬ Begins IsText (before ++ line) → LeavesAt IsText text n
leaves_here IsText text before line rest n split lines alone joined begins stuck = record {
  none = λ is. stuck (record { more = rest; whole = subst IsText (split ∙ sym (append_assoc before line rest)) is });
  within = omega (arith, ap length all, length-append (lines_of before) (line ∷ lines_of rest), lines.count);
  before = λ j less. subst (Begins IsText) (ap (flat_map (λ line. line)) (sym (ap (take (j + 1)) all ∙ take-append-le (j + 1) (lines_of before) (line ∷ lines_of rest) (omega (arith, lines.count, less))))) (begins_lines IsText before (j + 1) begins);
  here = λ less begun. stuck (subst (Begins IsText) (ap (flat_map (λ line. line)) (ap (take (n + 1)) up_to ∙ take_at (lines_of before ++ line ∷ []) (lines_of rest) (n + 1) (omega (arith, length-append (lines_of before) (line ∷ []), lines.count))) ∙ whole) begun);
}
  where
    all : lines_of text ≡ lines_of before ++ line ∷ lines_of rest
    all = ap lines_of split ∙ lines.whole (line ++ rest) tt ∙ ap (λ ls. lines_of before ++ ls) joined

    up_to : lines_of text ≡ (lines_of before ++ line ∷ []) ++ lines_of rest
    up_to = all ∙ sym (append_assoc (lines_of before) (line ∷ []) (lines_of rest))

    whole : flat_map (λ line. line) (lines_of before ++ line ∷ []) ≡ before ++ line
    whole = flat_map-append (λ (line : List ℕ). line) (lines_of before) (line ∷ []) ∙ ap (λ b. b ++ (line ++ [])) (concat_lines before) ∙ ap (λ l. before ++ l) (append-nil line)

-- at its end
pub leaves_end : (IsText : List ℕ → Type 0) (text : List ℕ) (n : ℕ) → ¬ IsText text → Begins IsText text → length (lines_of text) ≡ n → LeavesAt IsText text n
leaves_end IsText text n none begins count = record {
  none = none;
  within = omega (arith, count);
  before = λ j less. begins_lines IsText text (j + 1) begins;
  here = λ less. absurd (omega (arith, count, less));
}

pub not_empty : (n : ℕ) (test : Bool) → test ≡ (n == 0) → test ≡ false → 0 < n
not_empty zero test is no_more = absurd (false≢true (sym no_more ∙ is))
not_empty (suc n) test is no_more = omega arith

pub is_empty : (n : ℕ) (test : Bool) → test ≡ (n == 0) → test ≡ true → n ≡ 0
is_empty n test is yes_more = eqb-true n 0 (sym is ∙ yes_more)
