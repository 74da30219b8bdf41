-- The numbers of inputs, read from an assignment.
use Rattle.std.proofs.Common.{◌≡◌, ℕ, zero, suc, ◌+◌, ◌-◌, ◌*◌, ◌^◌, ◌<◌, ◌≤◌, ℤ, pos, Bool, true, false, List, [], ◌∷◌, ◌++◌, length, get_or, take, drop, append_assoc, refl, sym, ap, ◌∙◌, subst, arith}
use Rattle.std.specs.Prelude.{slice_set}
use Rattle.std.specs.List.{slice_index_or}
use Rattle.std.proofs.Math.Seq.{drop-cons}
use Rattle.std.proofs.Math.Pow.{pow_mono}
use Rattle.std.proofs.lemmas.List.{drop_all, length-drop, take_all, take_more_set}
use Rattle.cnf_form.specs.Truth.{literal_true}
use Rattle.bv_term.specs.Words.{flag}
use Rattle.bit_circuits.specs.Words.{word_value}
use Rattle.bit_circuits.specs.Formula.{variables_from, first_of, input_bits, number_read, decoded_from}
use Rattle.bit_circuits.proofs.WordArithmetic.Values.{word_value-lt}
use Rattle.bit_circuits.proofs.WordArithmetic.Terms.{length-variables}

-- ---- the word of an input

variable-at : (k n i : ℕ) (d : ℤ) → i < k → get_or (variables_from k n) i d ≡ pos (n + i)
variable-at zero n i d h = absurd (omega arith)
variable-at (suc k) n zero d h = ap (λ m. pos m) (omega arith)
variable-at (suc k) n (suc i) d h = variable-at k (suc n) i d (omega arith) ∙ ap (λ m. pos m) (omega arith)

-- the bits of an input's word from one on
abbrev pub bits_from : ℕ → ℕ → List ℤ
bits_from n i = drop i (input_bits n)

word-more : (values : List Bool) (n i : ℕ) → i < 32 → word_value (literal_true values) (bits_from n i) ≡ flag (slice_index_or values (1 + 32 * n + i) false) + 2 * word_value (literal_true values) (bits_from n (suc i))
word-more values n i h =
    let v = literal_true values in
    let x : get_or (input_bits n) i (pos 0) ≡ pos (suc (1 + 32 * n + i)) = variable-at 32 (first_of n) i (pos 0) h ∙ ap (λ m. pos m) (omega arith) in
    ap (word_value v) (drop-cons (input_bits n) i (pos 0) (omega (arith, h, length-variables 32 (first_of n))))
    ∙ ap (λ l. flag (v l) + 2 * word_value v (drop (suc i) (input_bits n))) x

-- one bit more, where b - 1 bits are left
pub word-step : (values : List Bool) (n b word f : ℕ) (bit : Bool) → 0 < b → b ≤ 32 → word ≡ word_value (literal_true values) (bits_from n b) → f ≡ flag bit → bit ≡ slice_index_or values (1 + 32 * n + (b - 1)) false
    → 2 * word + f ≡ word_value (literal_true values) (bits_from n (b - 1))
word-step values n b word f bit some le is f-is bit-is =
    let W = λ (k : ℕ). word_value (literal_true values) (bits_from n k) in
    let e : suc (b - 1) ≡ b = omega arith in
    let g = slice_index_or values (1 + 32 * n + (b - 1)) false in
    let more : W (b - 1) ≡ flag g + 2 * W b = word-more values n (b - 1) (omega arith) ∙ ap (λ k. flag g + 2 * W k) e in
    add-last word f (W b) (flag g) (W (b - 1)) is (f-is ∙ ap flag bit-is) more
  where
    add-last : (word f w g next : ℕ) → word ≡ w → f ≡ g → next ≡ g + 2 * w → 2 * word + f ≡ next
    add-last word f w g next a b c = omega arith

pub word-half : (values : List Bool) (n b word : ℕ) → 0 < b → word ≡ word_value (literal_true values) (bits_from n b) → word < 2 ^ 31
word-half values n b word some is =
    let wide : length (bits_from n b) ≤ 31 = omega (arith, length-drop b (input_bits n), length-variables 32 (first_of n), some) in
    bounded word (word_value (literal_true values) (bits_from n b)) (2 ^ length (bits_from n b)) is (word_value-lt (literal_true values) (bits_from n b)) (pow_mono wide)
  where
    bounded : (word w p : ℕ) → word ≡ w → w < p → p ≤ 2 ^ 31 → word < 2 ^ 31
    bounded word w p a b c = omega arith

pub word-end : (values : List Bool) (n b word : ℕ) → b ≤ 0 → word ≡ word_value (literal_true values) (bits_from n b) → word ≡ word_value (literal_true values) (input_bits n)
word-end values n b word none is = let e : b ≡ 0 = omega arith in is ∙ ap (λ k. word_value (literal_true values) (bits_from n k)) e

-- ---- the numbers of all inputs

taken : {A : Type 0} (xs : List A) (i : ℕ) (x d : A) → i < length xs → x ≡ get_or xs i d → drop i xs ≡ x ∷ drop (suc i) xs
taken xs i x d h is = drop-cons xs i d h ∙ ap (λ y. y ∷ drop (suc i) xs) (sym is)

pub decoded-more : (values : List Bool) (inputs : List Bool) (all old new : List ℤ) (i : ℕ) (s d : Bool) (z : ℤ) → i < length inputs → length old ≡ length inputs → s ≡ get_or inputs i d → new ≡ slice_set old i z
    → z ≡ number_read s (word_value (literal_true values) (input_bits i)) → all ≡ take i old ++ decoded_from values i (drop i inputs) → all ≡ take (i + 1) new ++ decoded_from values (i + 1) (drop (i + 1) inputs)
decoded-more values inputs all old new i s d z h size is new-is z-is whole =
    let one : suc i ≡ i + 1 = omega arith in
    let rest = decoded_from values (suc i) (drop (suc i) inputs) in
    let within : i < length old = omega (arith, size, h) in
    whole
    ∙ ap (λ l. take i old ++ decoded_from values i l) (taken inputs i s d h is)
    ∙ ap (λ x. take i old ++ (x ∷ rest)) (sym z-is)
    ∙ sym (append_assoc (take i old) (z ∷ []) rest)
    ∙ ap (λ l. l ++ rest) (sym (take_more_set old i z within))
    ∙ ap (λ l. take (i + 1) l ++ rest) (sym new-is)
    ∙ ap (λ k. take (i + 1) new ++ decoded_from values k (drop k inputs)) one

pub decoded-end : (values : List Bool) (inputs : List Bool) (all old : List ℤ) (i : ℕ) → length inputs ≤ i → length old ≡ length inputs → all ≡ take i old ++ decoded_from values i (drop i inputs) → old ≡ all
decoded-end values inputs all old i h size whole =
    sym (whole ∙ ap (λ l. take i old ++ decoded_from values i l) (drop_all i inputs h) ∙ append-nothing (take i old) ∙ take_all i old (omega (arith, size, h)))
  where
    append-nothing : (xs : List ℤ) → xs ++ [] ≡ xs
    append-nothing [] = refl
    append-nothing (x ∷ xs) = ap (λ l. x ∷ l) (append-nothing xs)
