-- Written numbers, and the words and lines that they make.
use Rattle.std.proofs.Common.{◌≡◌, ◌==◌, ℕ, ℤ, pos, negsuc, suc, ◌+◌, ◌%◌, ◌<◌, ◌≤◌, ◌^◌, true, false, List, [], ◌∷◌, ◌++◌, length, filter, unsigned_abs, refl, ap, arith, length-append}
use Rattle.std.specs.Fmt.{decimal, signed_decimal}
use Rattle.std.proofs.lemmas.Fmt.{decimal_by_steps}
use Rattle.std.proofs.lemmas.Bool.Decides.{nat_tests}
use Rattle.cnf_form.specs.Literals.{most}
use Rattle.text_lines.specs.Lines.{lines_of}
use Rattle.cnf_form.specs.Forms.{is_gap, pieces, has_bytes, words, begins_with}

-- each byte is a sign or a digit
abbrev pub AllNumeric : List ℕ → Type 0
AllNumeric [] = Unit {0}
AllNumeric (b ∷ bs) = (45 ≤ b) × (b ≤ 57) × AllNumeric bs

AllNumeric-append : (xs ys : List ℕ) → AllNumeric xs → AllNumeric ys → AllNumeric (xs ++ ys)
AllNumeric-append [] ys one other = other
AllNumeric-append (x ∷ xs) ys one other = (one.0, one.1, AllNumeric-append xs ys one.2 other)

-- a text of signs and digits, and not empty
pub record IsNumeric (text : List ℕ) : Type 0 where
  pub some : 0 < length text
  pub each : AllNumeric text

pub IsNumeric-decimal : (n : ℕ) → n < 2 ^ 64 → IsNumeric (decimal n)
IsNumeric-decimal n small = decimal_by_steps (λ _ ds. IsNumeric ds)
    (λ m h. record { some = omega arith; each = (omega arith, omega arith, tt) })
    (λ m ds h front. record { some = omega (arith, front.some, length-append ds ((48 + m % 10) ∷ [])); each = AllNumeric-append ds ((48 + m % 10) ∷ []) front.each (omega arith, omega arith, tt) })
    n small

pub IsNumeric-signed : (l : ℤ) → unsigned_abs l ≤ most → IsNumeric (signed_decimal l)
IsNumeric-signed (pos n) small = IsNumeric-decimal n (omega arith)
IsNumeric-signed (negsuc n) small =
    let number = IsNumeric-decimal (suc n) (omega arith) in
    record { some = omega arith; each = (omega arith, omega arith, number.each) }

pub not_gap : (b : ℕ) → 45 ≤ b → is_gap b ≡ false
not_gap b h = grind (arith, nat_tests)

-- a word ends at a gap
pieces-word : (w : List ℕ) (g : ℕ) (rest : List ℕ) → AllNumeric w → is_gap g ≡ true → pieces (w ++ g ∷ rest) ≡ w ∷ pieces rest
pieces-word [] g rest numeric gap = rw gap refl
pieces-word (b ∷ bs) g rest numeric gap = rw (not_gap b numeric.0, pieces-word bs g rest numeric.2 gap) refl

pub words-word : (w : List ℕ) (g : ℕ) (rest : List ℕ) → IsNumeric w → is_gap g ≡ true → words (w ++ g ∷ rest) ≡ w ∷ words rest
words-word [] g rest numeric gap = absurd (omega (arith, numeric.some))
words-word (b ∷ bs) g rest numeric gap = ap (filter has_bytes) (pieces-word (b ∷ bs) g rest numeric.each gap)

-- it does not begin with c
pub begins_not : (w rest : List ℕ) → IsNumeric w → begins_with 99 (w ++ rest) ≡ false
begins_not [] rest numeric = absurd (omega (arith, numeric.some))
begins_not (b ∷ bs) rest numeric = let low : b ≤ 57 = numeric.each.1 in grind (arith, nat_tests)

-- no byte is a line feed
abbrev pub AllVisible : List ℕ → Type 0
AllVisible [] = Unit {0}
AllVisible (b ∷ bs) = (32 ≤ b) × AllVisible bs

pub AllVisible-append : (xs ys : List ℕ) → AllVisible xs → AllVisible ys → AllVisible (xs ++ ys)
AllVisible-append [] ys one other = other
AllVisible-append (x ∷ xs) ys one other = (one.0, AllVisible-append xs ys one.1 other)

pub AllVisible-numeric : (xs : List ℕ) → AllNumeric xs → AllVisible xs
AllVisible-numeric [] numeric = tt
AllVisible-numeric (x ∷ xs) numeric = (omega (arith, numeric.0), AllVisible-numeric xs numeric.2)

not_feed : (b : ℕ) → 32 ≤ b → (b == 10) ≡ false
not_feed b h = grind (arith, nat_tests)

-- a line ends at its line feed
pub lines_of-line : (line rest : List ℕ) → AllVisible line → lines_of (line ++ 10 ∷ rest) ≡ (line ++ 10 ∷ []) ∷ lines_of rest
lines_of-line [] rest visible = refl
lines_of-line (b ∷ bs) rest visible = rw (not_feed b visible.0, lines_of-line bs rest visible.1) refl
