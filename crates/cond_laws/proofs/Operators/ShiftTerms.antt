-- The terms of shifts.
use Rattle.std.proofs.Common.{◌≡◌, ℕ, suc, ◌+◌, ◌-◌, ◌*◌, ◌/◌, ◌%◌, ◌^◌, ◌<◌, ◌≤◌, Bool, true, false, if◌then◌else◌, [], ◌∷◌, Option, Some, None, ℤ, pos, negsuc, refl, sym, ap, ◌∙◌, arith}
use Rattle.std.specs.Prelude.{◌==◌, ◌&&◌, not, nat_lt}
use Rattle.std.specs.Int.{cast_signed, cast_unsigned, w32, int_shr}
use Rattle.std.proofs.lemmas.Int.{ints, to_z-of_z}
use Rattle.std.proofs.lemmas.Bool.Decides.{nat_tests}
use Rattle.std.proofs.lemmas.Bool.{ltb-true, lt-ltb}
use lib.Signed.{mag}
use Rattle.c_tree.specs.declared.tree.Ty.{Ty}
use Rattle.c_tree.specs.declared.tree.Ty.TheVariants as ty
use Rattle.c_tree.specs.declared.value.Value.TheVariants.{Int, Unsigned}
use Rattle.c_tree.specs.declared.value.Value.{Value}
use Rattle.c_tree.specs.Meaning.Values.{of_word}
use Rattle.c_tree.specs.Meaning.Operators as c
use Rattle.bv_term.specs.Words.{flag}
use Rattle.bv_term.specs.Scripts.{Always}
use Rattle.cond_laws.specs.Judged.{judged_term}
use Rattle.cond_laws.specs.TermOperators as spec
use Rattle.cond_laws.proofs.Judging.{Stands, judged_int, stands}
use Rattle.std.specs.Prelude.{option_and_then}
use lib.Signed.{mag_shr}
use Rattle.std.proofs.lemmas.Nat.{pow-add, pow_pos}
use Rattle.std.proofs.Math.Nat.{mul-div_cancel_left, div-le_self, lt_of_mul-lt-mul_left, mul-lt-mul_of_pos_left}
use Rattle.plain_laws.proofs.Booleans.{and-true}
use Rattle.plain_laws.proofs.Numbers.{not_below}

-- ---- counts

count_of : (u : Ty) (y : ℕ) → y < 2 ^ 32 → c.shift_count (of_word u y) ≡ (if nat_lt y 32 then Some y else None)
count_of ty.Unsigned y h = refl
count_of ty.Int y h = by_sign (nat_lt y (2 ^ 31)) refl
  where
    large : (k : ℕ) → 2 ^ 31 ≤ k → nat_lt k 32 ≡ false
    large k h = grind (arith, nat_tests)

    by_sign : (t : Bool) → nat_lt y (2 ^ 31) ≡ t → c.shift_count (Int (if t then pos y else negsuc (2 ^ 32 - suc y))) ≡ (if nat_lt y 32 then Some y else None)
    by_sign true e = refl
    by_sign false e = sym (ap (λ b. if b then Some y else None) (large y (not_below y (2 ^ 31) e)))

pub flag_test : (b : Bool) (d : ℕ) → d ≡ flag b → not (d == 0) ≡ b
flag_test true d e = ap (λ d. not (d == 0)) e
flag_test false d e = ap (λ d. not (d == 0)) e

-- ---- to the left

same_test : (m n k l : ℕ) → (m < n → k < l) → (k < l → m < n) → nat_lt m n ≡ nat_lt k l
same_test m n k l f g = grind (arith, nat_tests)

-- the product is in range exactly where the number is below the quotient of 2^31 by the power
left_in : (x y : ℕ) → y < 32 → nat_lt x (2 ^ 31 / 2 ^ y) ≡ nat_lt (x * 2 ^ y) (2 ^ 31)
left_in x y h =
    let rest : ℕ = 31 - y in
    let sum : y + rest ≡ 31 = omega arith in
    let power : 2 ^ 31 ≡ 2 ^ y * 2 ^ rest = ap (λ n. 2 ^ n) (sym sum) ∙ pow-add 2 y rest in
    let quotient : 2 ^ 31 / 2 ^ y ≡ 2 ^ rest = ap (λ n. n / 2 ^ y) power ∙ mul-div_cancel_left (2 ^ rest) (pow_pos y) in
    ap (nat_lt x) quotient ∙ (same_test x (2 ^ rest) (2 ^ y * x) (2 ^ y * 2 ^ rest) (λ k. mul-lt-mul_of_pos_left k (pow_pos y)) (λ k. lt_of_mul-lt-mul_left (2 ^ y) k) ∙ (ap (nat_lt (2 ^ y * x)) (sym power) ∙ ap (λ n. nat_lt n (2 ^ 31)) (turned x (2 ^ y))))
  where
    turned : (a b : ℕ) → b * a ≡ a * b
    turned a b = grind arith

left_value : (x y r d : ℕ) → y < 32 → r ≡ (x * 2 ^ y) % 2 ^ 32 → d ≡ flag (nat_lt x (2 ^ 31 / 2 ^ y)) → c.shifted_left (Int (cast_signed w32 x)) y ≡ (if not (d == 0) && true then Some (Int (cast_signed w32 r)) else None)
left_value x y r d hy er ed = by_sign (nat_lt x (2 ^ 31)) refl
  where
    product : ℤ
    product = pos (x * 2 ^ y)

    test : (not (d == 0) && true) ≡ nat_lt (x * 2 ^ y) (2 ^ 31)
    test = and-true (not (d == 0)) ∙ (flag_test (nat_lt x (2 ^ 31 / 2 ^ y)) d ed ∙ left_in x y hy)

    kept : (p r : ℕ) → p < 2 ^ 31 → r ≡ p % 2 ^ 32 → pos p ≡ cast_signed w32 r
    kept p r h e = grind (arith, ints)

    large : (n k : ℕ) → 2 ^ 31 ≤ n → k ≤ 2 ^ 31 → nat_lt n k ≡ false
    large n k h l = grind (arith, nat_tests)

    by_sign : (t : Bool) → nat_lt x (2 ^ 31) ≡ t → c.shifted_left (Int (if t then pos x else negsuc (2 ^ 32 - suc x))) y ≡ (if not (d == 0) && true then Some (Int (cast_signed w32 r)) else None)
    by_sign true e = judged_int (pos (x * 2 ^ y)) r (not (d == 0) && true) (λ h. ltb-true (x * 2 ^ y) (2 ^ 31) (sym test ∙ h)) (λ h. test ∙ lt-ltb (x * 2 ^ y) (2 ^ 31) h) (λ h. kept (x * 2 ^ y) r h er)
    by_sign false e = sym (ap (λ b. if b then Some (Int (cast_signed w32 r)) else None) (and-true (not (d == 0)) ∙ (flag_test (nat_lt x (2 ^ 31 / 2 ^ y)) d ed ∙ large x (2 ^ 31 / 2 ^ y) (not_below x (2 ^ 31) e) (div-le_self (2 ^ 31) (2 ^ y)))))

small_count : (y : ℕ) → y < 32 → y % 32 ≡ y
small_count y h = omega arith

-- a shift of any kind: its value is there where the count is below 32, and there it is told by what the count is
with_count : (o : ℕ → Option Value) (p : Option Value) (u : Ty) (y k : ℕ) → y < 2 ^ 32 → k ≡ flag (nat_lt y 32) → (y < 32 → o y ≡ p) → option_and_then o (c.shift_count (of_word u y)) ≡ (if not (k == 0) then p else None)
with_count o p u y k hy ek h =
    ap (option_and_then o) (count_of u y hy) ∙ (by_test (nat_lt y 32) (λ e. h (ltb-true y 32 e)) ∙ ap (λ b. if b then p else None) (sym (flag_test (nat_lt y 32) k ek)))
  where
    by_test : (t : Bool) → (t ≡ true → o y ≡ p) → option_and_then o (if t then Some y else None) ≡ (if t then p else None)
    by_test true h = h refl
    by_test false h = refl

choose_both : (a b : Bool) (v : Value) → (if a then (if b then Some v else None) else None) ≡ (if a && b then Some v else None)
choose_both true b v = refl
choose_both false b v = refl

pub int_left : (input at : ℕ → ℕ) (a b : ℕ) (u : Ty) → at a < 2 ^ 32 → at b < 2 ^ 32 → Always input at (spec.left_shift_term ty.Int a b) (Stands at (option_and_then (c.shifted_left (Int (cast_signed w32 (at a)))) (c.shift_count (of_word u (at b)))) ty.Int)
int_left input at a b u ha hb r er w ew k ek m em s es d ed =
    let ek' : at k ≡ flag (nat_lt (at b) 32) = ek ∙ ap (λ w. flag (nat_lt (at b) w)) ew in
    let value = λ (h : at b < 32). left_value (at a) (at b) (at r) (at d) h (er ∙ ap (λ n. (at a * 2 ^ n) % 2 ^ 32) (small_count (at b) h)) (ed ∙ (ap (λ s. flag (nat_lt (at a) s)) es ∙ (ap (λ m. flag (nat_lt (at a) (m / 2 ^ (at b % 32)))) em ∙ ap (λ n. flag (nat_lt (at a) (2 ^ 31 / 2 ^ n))) (small_count (at b) h)))) in
    stands at (option_and_then (c.shifted_left (Int (cast_signed w32 (at a)))) (c.shift_count (of_word u (at b)))) (judged_term ty.Int r (k ∷ d ∷ [])) (with_count (c.shifted_left (Int (cast_signed w32 (at a)))) (if not (at d == 0) && true then Some (Int (cast_signed w32 (at r))) else None) u (at b) (at k) hb ek' value ∙ choose_both (not (at k == 0)) (not (at d == 0) && true) (Int (cast_signed w32 (at r))))

pub unsigned_left : (input at : ℕ → ℕ) (a b : ℕ) (u : Ty) → at b < 2 ^ 32 → Always input at (spec.left_shift_term ty.Unsigned a b) (Stands at (option_and_then (c.shifted_left (Unsigned (at a))) (c.shift_count (of_word u (at b)))) ty.Unsigned)
unsigned_left input at a b u hb r er w ew k ek =
    let ek' : at k ≡ flag (nat_lt (at b) 32) = ek ∙ ap (λ w. flag (nat_lt (at b) w)) ew in
    let value = λ (h : at b < 32). ap (λ n. Some (Unsigned n)) (sym (er ∙ ap (λ n. (at a * 2 ^ n) % 2 ^ 32) (small_count (at b) h))) in
    stands at (option_and_then (c.shifted_left (Unsigned (at a))) (c.shift_count (of_word u (at b)))) (judged_term ty.Unsigned r (k ∷ [])) (with_count (c.shifted_left (Unsigned (at a))) (Some (Unsigned (at r))) u (at b) (at k) hb ek' value ∙ ap (λ b. if b then Some (Unsigned (at r)) else None) (sym (and-true (not (at k == 0)))))

-- ---- to the right

right_word : (x y r : ℕ) → x < 2 ^ 32 → y < 32 → r ≡ cast_unsigned w32 (int_shr (cast_signed w32 x) (y % 32)) → int_shr (cast_signed w32 x) y ≡ cast_signed w32 r
right_word x y r hx hy er =
    let z : ℤ = int_shr (cast_signed w32 x) y in
    let m : mag (cast_signed w32 x) < 2 ^ 31 = signed_mag x hx in
    let h : mag z < 2 ^ 31 = omega (arith, m, mag_shr (cast_signed w32 x) (2 ^ y)) in
    sym (ap (cast_signed w32) (er ∙ ap (λ n. cast_unsigned w32 (int_shr (cast_signed w32 x) n)) (small_count y hy)) ∙ to_z-of_z w32 z (record { sfits = h }))
  where
    signed_mag : (n : ℕ) → n < 2 ^ 32 → mag (cast_signed w32 n) < 2 ^ 31
    signed_mag n h = grind (arith, ints)

pub int_right : (input at : ℕ → ℕ) (a b : ℕ) (u : Ty) → at a < 2 ^ 32 → at b < 2 ^ 32 → Always input at (spec.right_shift_term ty.Int a b) (Stands at (option_and_then (c.shifted_right (Int (cast_signed w32 (at a)))) (c.shift_count (of_word u (at b)))) ty.Int)
int_right input at a b u ha hb r er w ew k ek =
    let ek' : at k ≡ flag (nat_lt (at b) 32) = ek ∙ ap (λ w. flag (nat_lt (at b) w)) ew in
    let value = λ (h : at b < 32). ap (λ z. Some (Int z)) (right_word (at a) (at b) (at r) ha h er) in
    stands at (option_and_then (c.shifted_right (Int (cast_signed w32 (at a)))) (c.shift_count (of_word u (at b)))) (judged_term ty.Int r (k ∷ [])) (with_count (c.shifted_right (Int (cast_signed w32 (at a)))) (Some (Int (cast_signed w32 (at r)))) u (at b) (at k) hb ek' value ∙ ap (λ b. if b then Some (Int (cast_signed w32 (at r))) else None) (sym (and-true (not (at k == 0)))))

pub unsigned_right : (input at : ℕ → ℕ) (a b : ℕ) (u : Ty) → at b < 2 ^ 32 → Always input at (spec.right_shift_term ty.Unsigned a b) (Stands at (option_and_then (c.shifted_right (Unsigned (at a))) (c.shift_count (of_word u (at b)))) ty.Unsigned)
unsigned_right input at a b u hb r er w ew k ek =
    let ek' : at k ≡ flag (nat_lt (at b) 32) = ek ∙ ap (λ w. flag (nat_lt (at b) w)) ew in
    let value = λ (h : at b < 32). ap (λ n. Some (Unsigned n)) (sym (er ∙ ap (λ n. at a / 2 ^ n) (small_count (at b) h))) in
    stands at (option_and_then (c.shifted_right (Unsigned (at a))) (c.shift_count (of_word u (at b)))) (judged_term ty.Unsigned r (k ∷ [])) (with_count (c.shifted_right (Unsigned (at a))) (Some (Unsigned (at r))) u (at b) (at k) hb ek' value ∙ ap (λ b. if b then Some (Unsigned (at r)) else None) (sym (and-true (not (at k == 0)))))
