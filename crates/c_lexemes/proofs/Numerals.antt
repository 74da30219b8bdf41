-- The value of a numeral, digit by digit.
use Rattle.std.proofs.Common.{◌≡◌, ℕ, ◌+◌, ◌*◌, ◌^◌, ◌<◌, ◌≤◌, Bool, true, false, cond, not, eqb, ltb, ◌&&◌, List, [], ◌∷◌, length, drop, get_or, Option, Some, None, refl, sym, ◌∙◌, arith, lt-ltb, le-ltb}
use Rattle.std.specs.Prelude.{option_and_then}
use Rattle.std.proofs.lemmas.Bool.{ltb-false}
use Rattle.std.specs.List.{list_all}
use Rattle.std.specs.Char.{digit_value}
use Rattle.std.specs.Str.Parse.{digits_value, digits_value_after}
use Rattle.std.proofs.Math.ListN.{drop_of_length-le}
use Rattle.std.proofs.Math.Nat.{mul-le-mul_left}
use Rattle.std.proofs.lemmas.List.{at_drop_more}
use Rattle.c_tree.specs.Tokens.TokenKinds.{is_numeral, base_of, digits_of, number_kind, constant_in}
use Rattle.c_tree.specs.declared.token.Kind.TheVariants.{Number}

-- what 64 bits hold of a numeral
abbrev pub held : ℕ → List ℕ → Option ℕ
held base digits = cond (is_numeral base digits && ltb (digits_value base digits) (2 ^ 64)) (Some (digits_value base digits)) None

digits_value_after-le : (base n : ℕ) (ds : List ℕ) → 1 ≤ base → n ≤ digits_value_after base n ds
digits_value_after-le base n [] h = omega arith
digits_value_after-le base n (d ∷ ds) h =
    let m = digits_value_after-le base (n * base + digit_value d) ds h in
    let l : n * 1 ≤ n * base = mul-le-mul_left n h in
    omega arith

pub held-whole : (base value : ℕ) (digits : List ℕ) → value < 2 ^ 64 → 0 < length digits → list_all (λ c. ltb (digit_value c) base) digits ≡ true → value ≡ digits_value base digits → Some value ≡ held base digits
unfolding is_numeral
held-whole base value digits small some all is = rw (sym is, all, lt-ltb 0 (length digits) some, lt-ltb value (2 ^ 64) small) refl

pub held-large : (base : ℕ) (digits : List ℕ) → 2 ^ 64 ≤ digits_value base digits → None ≡ held base digits
held-large base digits large = by_test (is_numeral base digits) (le-ltb (digits_value base digits) (2 ^ 64) large)
  where
    by_test : (b : Bool) → ltb (digits_value base digits) (2 ^ 64) ≡ false → None ≡ cond (b && ltb (digits_value base digits) (2 ^ 64)) (Some (digits_value base digits)) None
    by_test true e = rw e refl
    by_test false e = refl

-- the digits so far are too large already
pub held-over : (base value i : ℕ) (digits : List ℕ) → 8 ≤ base → i < length digits → digits_value_after base value (drop i digits) ≡ digits_value base digits
    → 2 ^ 64 ≤ value * base + digit_value (get_or digits i 0) → None ≡ held base digits
held-over base value i digits low in_range so_far over =
    let here = at_drop_more (λ ds. digits_value_after base value ds) digits i 0 in_range in
    let more = digits_value_after-le base (value * base + digit_value (get_or digits i 0)) (drop (i + 1) digits) (omega arith) in
    held-large base digits (omega arith)

-- no digit stands there
pub held-stray : (base i : ℕ) (digits : List ℕ) → i < length digits → list_all (λ c. ltb (digit_value c) base) (drop i digits) ≡ list_all (λ c. ltb (digit_value c) base) digits
    → ltb (digit_value (get_or digits i 0)) base ≡ false → None ≡ held base digits
unfolding is_numeral
held-stray base i digits in_range so_far stray =
    let here = at_drop_more (λ ds. list_all (λ c. ltb (digit_value c) base) ds) digits i 0 in_range in
    let none : list_all (λ c. ltb (digit_value c) base) digits ≡ false = sym so_far ∙ here ∙ rw stray refl in
    rw (none, lt-ltb 0 (length digits) (omega arith)) refl

-- no digit is left
pub held-end : (base value i : ℕ) (digits : List ℕ) → value < 2 ^ 64 → 0 < length digits → length digits ≤ i → digits_value_after base value (drop i digits) ≡ digits_value base digits
    → list_all (λ c. ltb (digit_value c) base) (drop i digits) ≡ list_all (λ c. ltb (digit_value c) base) digits → Some value ≡ held base digits
held-end base value i digits small some end is all =
    let none : drop i digits ≡ [] = drop_of_length-le digits end in
    held-whole base value digits small some (sym (rw none at all)) (rw none at is)

number_kind-large : (suffixed : Bool) (base value : ℕ) → 2 ^ 64 ≤ value → number_kind suffixed base value ≡ None
unfolding number_kind
number_kind-large true base value large = rw (le-ltb value (2 ^ 32) (omega arith)) refl
number_kind-large false base value large = rw (le-ltb value (2 ^ 31) (omega arith), le-ltb value (2 ^ 32) (omega arith)) (by_test (not (eqb base 10)))
  where
    by_test : (b : Bool) → cond (b && false) (Some (Number true value)) None ≡ None
    by_test true = refl
    by_test false = refl

-- the constant, by what 64 bits hold of its numeral
pub constant_in_held : (suffixed : Bool) (bytes : List ℕ) (r : Option ℕ) → r ≡ held (base_of bytes) (digits_of bytes) → constant_in suffixed bytes ≡ option_and_then (number_kind suffixed (base_of bytes)) r
unfolding constant_in
constant_in_held suffixed bytes r is = rw is (by_tests (is_numeral (base_of bytes) (digits_of bytes)) (ltb value (2 ^ 64)) refl)
  where
    value : ℕ
    value = digits_value (base_of bytes) (digits_of bytes)

    by_tests : (numeral small : Bool) → ltb value (2 ^ 64) ≡ small
        → cond numeral (number_kind suffixed (base_of bytes) value) None ≡ option_and_then (number_kind suffixed (base_of bytes)) (cond (numeral && small) (Some value) None)
    by_tests true true e = refl
    by_tests true false e = number_kind-large suffixed (base_of bytes) value (ltb-false value (2 ^ 64) e)
    by_tests false small e = refl
