-- What an assignment says of the inputs, and an assignment that says given ones.
use Rattle.std.proofs.Common.{◌≡◌, ◌==◌, ℕ, zero, suc, ◌+◌, ◌-◌, ◌*◌, ◌/◌, ◌%◌, ◌^◌, ◌<◌, ◌≤◌, ℤ, pos, negsuc, Bool, true, false, not, List, [], ◌∷◌, ◌++◌, length, Option, Some, None, slice_get, append_assoc, length-append, FitsSigned, Fits, rules, refl, sym, ap, ◌∙◌, subst, arith}
use Rattle.std.specs.List.{slice_index_or, AllZip}
use Rattle.std.specs.Int.{cast_signed, cast_unsigned, w32, FitsUnsigned}
use Rattle.std.proofs.Math.Nat.{mod-eq_of_lt, mod-lt, div-add-mod}
use Rattle.std.proofs.Math.Seq.{get_or-append_seam}
use Rattle.std.proofs.lemmas.Nat.{pow_pos}
use Rattle.std.proofs.lemmas.Bool.{ltb-true}
use Rattle.std.proofs.lemmas.Bool.Decides.{nat_tests}
use Rattle.std.proofs.lemmas.Int.{ints, to_z-of_z, of_z-to_z}
use mir.Facts.{sfits_to_z}
use Rattle.cnf_form.specs.Truth.{literal_true}
use Rattle.bv_term.specs.Words.{flag}
use Rattle.bv_term.specs.Stores.{bits_of, input_word}
use Rattle.bit_circuits.proofs.Formulas.Fitting.{FitsInput, FitsInputs}
use Rattle.bit_circuits.specs.Words.{word_value}
use Rattle.bit_circuits.specs.Formula.{variables_from, first_of, input_bits, number_read, decoded_from, decoded_words}
use Rattle.bit_circuits.proofs.Circuits.Building.{IsBelow, Below}
use Rattle.bit_circuits.proofs.WordArithmetic.Values.{flag-lt, twice, word_value-lt}
use Rattle.bit_circuits.proofs.WordArithmetic.Shifts.{take_step}
use Rattle.bit_circuits.proofs.WordArithmetic.Terms.{bit_step, Below-variables, length-variables}
use Rattle.bit_circuits.proofs.Formulas.Extending.{word_value-same}
use Rattle.plain_laws.proofs.Lists.{length-push}

-- ---- numbers and their words

signed_fits : (z : ℤ) → FitsInput true z → FitsSigned w32 z
signed_fits (pos n) h = record { sfits = ltb-true n (2 ^ 31) h }
signed_fits (negsuc n) h = record { sfits = ltb-true n (2 ^ 31) h }

fits_signed : (z : ℤ) → FitsSigned w32 z → FitsInput true z
fits_signed (pos n) f = let l : n < 2 ^ 31 = f.sfits in grind (arith, nat_tests)
fits_signed (negsuc n) f = let l : n < 2 ^ 31 = f.sfits in grind (arith, nat_tests)

read_back : (signed : Bool) (z : ℤ) → FitsInput signed z → number_read signed (cast_unsigned w32 z) ≡ z
read_back true z fits = to_z-of_z w32 z (signed_fits z fits)
read_back false (pos n) fits = refl
read_back false (negsuc n) fits = absurd (cc fits)

word_fits : (signed : Bool) (z : ℤ) → FitsInput signed z → cast_unsigned w32 z < 2 ^ 32
word_fits true (pos n) fits = omega (arith, ltb-true n (2 ^ 31) fits)
word_fits true (negsuc n) fits = omega arith
word_fits false (pos n) fits = omega (arith, ltb-true n (2 ^ 32) fits)
word_fits false (negsuc n) fits = omega arith

number_fits : (signed : Bool) (x : ℕ) → x < 2 ^ 32 → FitsInput signed (number_read signed x)
number_fits true x h = fits_signed (cast_signed w32 x) (sfits_to_z {w = w32} (record { fits = h }))
number_fits false x h = grind (arith, nat_tests)

word_read : (signed : Bool) (x : ℕ) → x < 2 ^ 32 → cast_unsigned w32 (number_read signed x) ≡ x
word_read true x h = of_z-to_z w32 x h
word_read false x h = refl

-- ---- the word of an input

input_bits-lt : (v : ℤ → Bool) (n : ℕ) → word_value v (input_bits n) < 2 ^ 32
input_bits-lt v n = subst (λ k. word_value v (input_bits n) < 2 ^ k) (length-variables 32 (first_of n)) (word_value-lt v (input_bits n))

pub decoded_words-fits : (values : List Bool) (n : ℕ) (inputs : List Bool) → FitsInputs inputs (decoded_from values n inputs)
decoded_words-fits values n [] = tt
decoded_words-fits values n (signed ∷ inputs) = (number_fits signed (word_value (literal_true values) (input_bits n)) (input_bits-lt (literal_true values) n), decoded_words-fits values (suc n) inputs)

-- what the terms read is what is decoded
pub decoded_words-read : (values : List Bool) (n : ℕ) (inputs : List Bool) (k : ℕ) → k < length inputs → word_value (literal_true values) (input_bits (n + k)) ≡ input_word (decoded_from values n inputs) k
decoded_words-read values n [] k h = absurd (omega arith)
decoded_words-read values n (signed ∷ inputs) zero h =
    ap (λ j. word_value (literal_true values) (input_bits j)) (omega arith) ∙ sym (word_read signed (word_value (literal_true values) (input_bits n)) (input_bits-lt (literal_true values) n))
decoded_words-read values n (signed ∷ inputs) (suc k) h =
    ap (λ j. word_value (literal_true values) (input_bits j)) (omega arith) ∙ decoded_words-read values (suc n) inputs k (omega arith)

-- ---- an assignment for given inputs

-- the lowest k bits of a number
pub bits_of_number : ℕ → ℕ → List Bool
bits_of_number zero x = []
bits_of_number (suc k) x = not (x % 2 == 0) ∷ bits_of_number k (x / 2)

pub bits_of_inputs : List ℤ → List Bool
bits_of_inputs [] = []
bits_of_inputs (z ∷ zs) = bits_of_number 32 (cast_unsigned w32 z) ++ bits_of_inputs zs

length-bits : (k x : ℕ) → length (bits_of_number k x) ≡ k
unfolding bits_of_number
length-bits zero x = refl
length-bits (suc k) x = ap suc (length-bits k (x / 2))

pub length-inputs : (zs : List ℤ) → length (bits_of_inputs zs) ≡ 32 * length zs
unfolding bits_of_inputs
length-inputs [] = refl
length-inputs (z ∷ zs) = length-append (bits_of_number 32 (cast_unsigned w32 z)) (bits_of_inputs zs) ∙ omega (arith, length-bits 32 (cast_unsigned w32 z), length-inputs zs)

-- the variables behind some values have those that come next
bits-read : (before : List Bool) (k x : ℕ) (after : List Bool) → word_value (literal_true (before ++ (bits_of_number k x ++ after))) (variables_from k (suc (length before))) ≡ x % 2 ^ k
unfolding bits_of_number
bits-read before zero x after = omega arith
bits-read before (suc k) x after =
    let b = not (x % 2 == 0) in
    let rest = bits_of_number k (x / 2) ++ after in
    let first : literal_true (before ++ (b ∷ rest)) (pos (suc (length before))) ≡ b = get_or-append_seam before b rest false in
    let moved : (before ++ (b ∷ [])) ++ rest ≡ before ++ (b ∷ rest) = append_assoc before (b ∷ []) rest in
    let later : word_value (literal_true (before ++ (b ∷ rest))) (variables_from k (suc (suc (length before)))) ≡ (x / 2) % 2 ^ k =
    ap (λ vs. word_value (literal_true vs) (variables_from k (suc (suc (length before))))) (sym moved)
    ∙ ap (λ j. word_value (literal_true ((before ++ (b ∷ [])) ++ rest)) (variables_from k (suc j))) (sym (length-push before b))
    ∙ bits-read (before ++ (b ∷ [])) k (x / 2) after in
    ap (λ z. flag z + 2 * word_value (literal_true (before ++ (b ∷ rest))) (variables_from k (suc (suc (length before))))) first
    ∙ ap (λ z. flag b + 2 * z) later
    ∙ take_step (flag b) (x / 2) (2 ^ k) (2 ^ suc k) (pow_pos k) (twice k) (flag-lt b)
    ∙ ap (λ z. z % 2 ^ suc k) (bit_step (x % 2 == 0) true x refl)

pub decoded_words-given : (before : List Bool) (n : ℕ) (inputs : List Bool) (zs : List ℤ) → suc (length before) ≡ first_of n → FitsInputs inputs zs → decoded_from (before ++ bits_of_inputs zs) n inputs ≡ zs
unfolding bits_of_inputs
decoded_words-given before n [] [] e fits = refl
decoded_words-given before n [] (z ∷ zs) e fits = absurd fits
decoded_words-given before n (s ∷ inputs) [] e fits = absurd fits
decoded_words-given before n (s ∷ inputs) (z ∷ zs) e fits =
    let bits = bits_of_number 32 (cast_unsigned w32 z) in
    let word : word_value (literal_true (before ++ (bits ++ bits_of_inputs zs))) (input_bits n) ≡ cast_unsigned w32 z =
    ap (λ j. word_value (literal_true (before ++ (bits ++ bits_of_inputs zs))) (variables_from 32 j)) (sym e)
    ∙ bits-read before 32 (cast_unsigned w32 z) (bits_of_inputs zs) ∙ mod-eq_of_lt (word_fits s z fits.0) in
    let moved : (before ++ bits) ++ bits_of_inputs zs ≡ before ++ (bits ++ bits_of_inputs zs) = append_assoc before bits (bits_of_inputs zs) in
    let size : suc (length (before ++ bits)) ≡ first_of (suc n) = omega (arith, length-append before bits, length-bits 32 (cast_unsigned w32 z)) in
    let rest : decoded_from (before ++ (bits ++ bits_of_inputs zs)) (suc n) inputs ≡ zs =
    ap (λ vs. decoded_from vs (suc n) inputs) (sym moved) ∙ decoded_words-given (before ++ bits) (suc n) inputs zs size fits.1 in
    ap (λ x. number_read s x ∷ decoded_from (before ++ (bits ++ bits_of_inputs zs)) (suc n) inputs) word
    ∙ ap (λ y. y ∷ decoded_from (before ++ (bits ++ bits_of_inputs zs)) (suc n) inputs) (read_back s z fits.0)
    ∙ ap (λ ys. z ∷ ys) rest

-- assignments that agree on the inputs' variables say the same inputs
pub decoded_words-same : (values others : List Bool) (m n : ℕ) (inputs : List Bool) → first_of (n + length inputs) ≤ m → ((l : ℤ) → IsBelow m l → literal_true values l ≡ literal_true others l) → decoded_from values n inputs ≡ decoded_from others n inputs
decoded_words-same values others m n [] le same = refl
decoded_words-same values others m n (s ∷ inputs) le same =
    ap (λ x. number_read s x ∷ decoded_from values (suc n) inputs)
    (word_value-same (literal_true values) (literal_true others) m (input_bits n) (Below-variables m 32 (first_of n) (omega arith) (omega arith)) same)
    ∙ ap (λ ys. number_read s (word_value (literal_true others) (input_bits n)) ∷ ys) (decoded_words-same values others m (suc n) inputs (omega arith) same)

pub length-fits : (inputs : List Bool) (zs : List ℤ) → FitsInputs inputs zs → length zs ≡ length inputs
length-fits [] [] fits = refl
length-fits [] (z ∷ zs) fits = absurd fits
length-fits (s ∷ inputs) [] fits = absurd fits
length-fits (s ∷ inputs) (z ∷ zs) fits = ap suc (length-fits inputs zs fits.1)
