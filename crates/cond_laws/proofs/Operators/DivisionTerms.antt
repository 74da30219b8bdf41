-- The terms of quotients and remainders.
use Rattle.std.proofs.Common.{◌≡◌, ℕ, zero, suc, ◌+◌, ◌-◌, ◌*◌, ◌/◌, ◌^◌, ◌<◌, ◌≤◌, Bool, true, false, if◌then◌else◌, [], ◌∷◌, Some, None, ℤ, pos, negsuc, refl, sym, ap, ◌∙◌, subst, arith}
use Rattle.std.specs.Prelude.{◌==◌, ◌&&◌, not, nat_lt, int_div, int_rem, bit_and, bit_xor, bit_or}
use Rattle.std.specs.Int.{cast_signed, cast_unsigned, w32}
use Rattle.std.proofs.lemmas.Int.{ints, of_z-to_z, to_z-of_z}
use Rattle.std.proofs.lemmas.Bool.Decides.{nat_tests}
use Rattle.std.proofs.lemmas.Bool.{ltb-true, lt-ltb}
use lib.Signed.{mag}
use Rattle.c_tree.specs.declared.tree.Ty.TheVariants as ty
use Rattle.c_tree.specs.declared.value.Value.TheVariants.{Int, Unsigned}
use Rattle.c_tree.specs.declared.value.Value.{Value}
use Rattle.c_tree.specs.Meaning.Operators as c
use Rattle.bv_term.specs.declared.op.Op.TheVariants as op
use Rattle.bv_term.specs.Scripts.{Always}
use Rattle.plain_laws.proofs.Booleans.{and-true}
use Rattle.cond_laws.specs.Judged.{judged_term}
use Rattle.cond_laws.specs.TermOperators as spec
use Rattle.cond_laws.proofs.Judging.{Stands, judged_int, stands}
use Rattle.std.proofs.lemmas.Nat.{and_le_l, and_comm, le_or_l, le_or_r}
use Rattle.std.specs.Int.Bits.{xor_add_and, xor_self}
use Rattle.std.proofs.Math.Nat.{div-le_self}
use Rattle.bv_term.specs.Words.{word_quotient as divided, word_remainder as left_over, signed_quotient as divided_signed, signed_remainder as left_over_signed}
use lib.Signed.{mag_rem}
use lib.IntN.{neg_ℤ}
use Rattle.plain_laws.proofs.Numbers.{successor_is_not_zero}
use Rattle.c_tree.proofs.Keeping.Ranges.{signed_mag}

pub apart : (x m : ℕ) → bit_xor x m ≡ 0 → x ≡ m
apart x m h =
    let e : bit_xor x m + bit_and x m * 2 ≡ x + m = xor_add_and x m in
    let l : bit_and x m ≤ x = and_le_l x m in
    let r : bit_and m x ≤ m = and_le_l m x in
    let s : bit_and x m ≡ bit_and m x = and_comm x m in
    omega arith

-- ---- the test

is_worst : ℕ → ℕ → Bool
is_worst x y = (x == 2 ^ 31) && (y == 2 ^ 32 - 1)

worst_test : (x y m u n d : ℕ) → y < 2 ^ 32 → m ≡ 2 ^ 31 → u ≡ bit_xor x m → n ≡ 2 ^ 32 - 1 - y → d ≡ bit_or u n → (d == 0) ≡ is_worst x y
unfolding is_worst
worst_test x y m u n d hy em eu en ed = by_zero (d == 0) refl
  where
    above_zero : (k : ℕ) → (k == 0) ≡ false → 0 < k
    above_zero k h = grind (arith, nat_tests)

    is_zero : (k : ℕ) → (k == 0) ≡ true → k ≡ 0
    is_zero k h = grind (arith, nat_tests)

    or_less : u ≤ d
    or_less = subst (λ d. u ≤ d) (sym ed) (le_or_l u n)

    or_less_right : n ≤ d
    or_less_right = subst (λ d. n ≤ d) (sym ed) (le_or_r u n)

    when_zero : d ≡ 0 → ((x == 2 ^ 31) && (y == 2 ^ 32 - 1)) ≡ true
    when_zero h =
        let zero_u : bit_xor x m ≡ 0 = sym eu ∙ (omega (arith, or_less)) in
        let same : x ≡ m = apart x m zero_u in
        let zero_n : n ≡ 0 = omega (arith, or_less_right) in
        grind (arith, nat_tests)

    other : 0 < d → ((x == 2 ^ 31) && (y == 2 ^ 32 - 1)) ≡ true → ⊥
    other h k =
        let both : (x ≡ 2 ^ 31) × (y ≡ 2 ^ 32 - 1) = split x y k in
        let zero_u : u ≡ 0 = eu ∙ (ap (λ m. bit_xor x m) em ∙ (ap (λ x. bit_xor x (2 ^ 31)) both.0 ∙ xor_self (2 ^ 31))) in
        let zero_n : n ≡ 0 = omega arith in
        let zero_d : d ≡ 0 = ed ∙ (ap (λ u. bit_or u n) zero_u ∙ ap (λ n. bit_or 0 n) zero_n) in
        omega arith
      where
        split : (x y : ℕ) → ((x == 2 ^ 31) && (y == 2 ^ 32 - 1)) ≡ true → (x ≡ 2 ^ 31) × (y ≡ 2 ^ 32 - 1)
        split x y k = grind (arith, nat_tests)

    not_true : (b : Bool) → (b ≡ true → ⊥) → false ≡ b
    not_true true h = absurd (h refl)
    not_true false h = refl

    by_zero : (t : Bool) → (d == 0) ≡ t → t ≡ ((x == 2 ^ 31) && (y == 2 ^ 32 - 1))
    by_zero true e = sym (when_zero (is_zero d e))
    by_zero false e = not_true ((x == 2 ^ 31) && (y == 2 ^ 32 - 1)) (other (above_zero d e))

-- the quotient of two numbers of `int` is in range but for -2^31 by -1
below : (k : ℕ) → k < 2 ^ 31 → not false ≡ nat_lt k (2 ^ 31)
below k h = sym (lt-ltb k (2 ^ 31) h)

worst_range : (x y : ℤ) (m n : ℕ) → mag x < 2 ^ 31 → mag y < 2 ^ 31 → m ≡ cast_unsigned w32 x → n ≡ cast_unsigned w32 y → not (is_worst m n) ≡ nat_lt (mag (int_div x y)) (2 ^ 31)
unfolding is_worst
worst_range (pos a) (pos b) m n hx hy em en =
    let e : ((m == 2 ^ 31) && (n == 2 ^ 32 - 1)) ≡ false = grind (arith, nat_tests) in
    let l : a / b ≤ a = div-le_self a b in
    ap not e ∙ below (a / b) (omega arith)
worst_range (pos a) (negsuc b) m n hx hy em en =
    let e : ((m == 2 ^ 31) && (n == 2 ^ 32 - 1)) ≡ false = grind (arith, nat_tests) in
    let l : a / suc b ≤ a = div-le_self a (suc b) in
    ap not e ∙ below (mag (neg_ℤ (pos (a / suc b)))) (small (a / suc b) (omega arith))
  where
    small : (k : ℕ) → k < 2 ^ 31 → mag (neg_ℤ (pos k)) < 2 ^ 31
    small zero h = h
    small (suc k) h = omega arith
worst_range (negsuc a) (pos b) m n hx hy em en =
    let e : ((m == 2 ^ 31) && (n == 2 ^ 32 - 1)) ≡ false = grind (arith, nat_tests) in
    let l : suc a / b ≤ suc a = div-le_self (suc a) b in
    ap not e ∙ below (mag (neg_ℤ (pos (suc a / b)))) (small (suc a / b) (omega arith))
  where
    small : (k : ℕ) → k ≤ 2 ^ 31 → mag (neg_ℤ (pos k)) < 2 ^ 31
    small zero h = omega arith
    small (suc k) h = omega arith
worst_range (negsuc a) (negsuc zero) m n hx hy em en = grind (arith, nat_tests)
worst_range (negsuc a) (negsuc (suc b)) m n hx hy em en =
    let e : ((m == 2 ^ 31) && (n == 2 ^ 32 - 1)) ≡ false = grind (arith, nat_tests) in
    let l : suc a / suc (suc b) < 2 ^ 31 = grind arith in
    ap not e ∙ below (suc a / suc (suc b)) l

-- ---- `int`

signed_zero : (n : ℕ) → suc n < 2 ^ 32 → c.int_same (cast_signed w32 (suc n)) (pos 0) ≡ false
signed_zero n h = grind (arith, ints, nat_tests)

range_test : (x y : ℕ) → x < 2 ^ 32 → y < 2 ^ 32 → not (is_worst x y) ≡ nat_lt (mag (int_div (cast_signed w32 x) (cast_signed w32 y))) (2 ^ 31)
range_test x y hx hy = worst_range (cast_signed w32 x) (cast_signed w32 y) x y (signed_mag x hx) (signed_mag y hy) (sym (of_z-to_z w32 x hx)) (sym (of_z-to_z w32 y hy))

quotient_of : (x y r d : ℕ) → x < 2 ^ 32 → y < 2 ^ 32 → r ≡ divided_signed x y → (d == 0) ≡ is_worst x y → c.int_quotient (cast_signed w32 x) (cast_signed w32 y) ≡ (if not (y == 0) && (not (d == 0) && true) then Some (Int (cast_signed w32 r)) else None)
quotient_of x zero r d hx hy er ed = refl
quotient_of x (suc y) r d hx hy er ed =
    let z : ℤ = int_div (cast_signed w32 x) (cast_signed w32 (suc y)) in
    let test : (not (d == 0) && true) ≡ nat_lt (mag z) (2 ^ 31) = and-true (not (d == 0)) ∙ (ap not ed ∙ range_test x (suc y) hx hy) in
    ap (λ b. if b then None else c.int z) (signed_zero y hy) ∙ (judged_int z r (not (d == 0) && true) (λ h. ltb-true (mag z) (2 ^ 31) (sym test ∙ h)) (λ h. test ∙ lt-ltb (mag z) (2 ^ 31) h) (λ h. sym (ap (cast_signed w32) er ∙ to_z-of_z w32 z (record { sfits = h }))) ∙ ap (λ b. if not b && (not (d == 0) && true) then Some (Int (cast_signed w32 r)) else None) (sym (successor_is_not_zero y)))

after_test : (b : Bool) (u v w : Value) → v ≡ w → c.only_after (if b then Some u else None) v ≡ (if b then Some w else None)
after_test true u v w e = ap (λ v. Some v) e
after_test false u v w e = refl

remainder_word : (x y r : ℕ) → x < 2 ^ 32 → y < 2 ^ 32 → r ≡ left_over_signed x (suc y) → Int (int_rem (cast_signed w32 x) (cast_signed w32 (suc y))) ≡ Int (cast_signed w32 r)
remainder_word x y r hx hy er =
    let z : ℤ = int_rem (cast_signed w32 x) (cast_signed w32 (suc y)) in
    let h : mag z < 2 ^ 31 = omega (arith, mag_rem (cast_signed w32 x) (cast_signed w32 (suc y)), signed_mag x hx) in
    ap (λ z. Int z) (sym (ap (cast_signed w32) er ∙ to_z-of_z w32 z (record { sfits = h })))

remainder_of : (x y r d : ℕ) → x < 2 ^ 32 → y < 2 ^ 32 → r ≡ left_over_signed x y → (d == 0) ≡ is_worst x y → c.int_remainder (cast_signed w32 x) (cast_signed w32 y) ≡ (if not (y == 0) && (not (d == 0) && true) then Some (Int (cast_signed w32 r)) else None)
remainder_of x zero r d hx hy er ed = refl
remainder_of x (suc y) r d hx hy er ed =
    ap (λ o. c.only_after o (Int (int_rem (cast_signed w32 x) (cast_signed w32 (suc y))))) (quotient_of x (suc y) (divided_signed x (suc y)) d hx hy refl ed) ∙ after_test (not (suc y == 0) && (not (d == 0) && true)) (Int (cast_signed w32 (divided_signed x (suc y)))) (Int (int_rem (cast_signed w32 x) (cast_signed w32 (suc y)))) (Int (cast_signed w32 r)) (remainder_word x y r hx (omega (arith, hy)) er)

pub int_divided : (input at : ℕ → ℕ) (a b : ℕ) → at a < 2 ^ 32 → at b < 2 ^ 32 → Always input at (spec.division_term op.DivS op.DivU ty.Int a b) (Stands at (c.int_quotient (cast_signed w32 (at a)) (cast_signed w32 (at b))) ty.Int)
int_divided input at a b ha hb r er m em x ex n en d ed =
    stands at (c.int_quotient (cast_signed w32 (at a)) (cast_signed w32 (at b))) (judged_term ty.Int r (b ∷ d ∷ [])) (quotient_of (at a) (at b) (at r) (at d) ha hb er (worst_test (at a) (at b) (at m) (at x) (at n) (at d) hb em ex en ed))

pub int_left_over : (input at : ℕ → ℕ) (a b : ℕ) → at a < 2 ^ 32 → at b < 2 ^ 32 → Always input at (spec.division_term op.RemS op.RemU ty.Int a b) (Stands at (c.int_remainder (cast_signed w32 (at a)) (cast_signed w32 (at b))) ty.Int)
int_left_over input at a b ha hb r er m em x ex n en d ed =
    stands at (c.int_remainder (cast_signed w32 (at a)) (cast_signed w32 (at b))) (judged_term ty.Int r (b ∷ d ∷ [])) (remainder_of (at a) (at b) (at r) (at d) ha hb er (worst_test (at a) (at b) (at m) (at x) (at n) (at d) hb em ex en ed))

-- ---- `unsigned`

unsigned_quotient_of : (x y r : ℕ) → r ≡ divided x y → c.quotient x y ≡ (if not (y == 0) && true then Some (Unsigned r) else None)
unsigned_quotient_of x zero r er = refl
unsigned_quotient_of x (suc y) r er =
    ap (λ n. Some (Unsigned n)) (sym er) ∙ ap (λ b. if not b && true then Some (Unsigned r) else None) (sym (successor_is_not_zero y))

unsigned_remainder_of : (x y r : ℕ) → r ≡ left_over x y → c.remainder x y ≡ (if not (y == 0) && true then Some (Unsigned r) else None)
unsigned_remainder_of x zero r er = refl
unsigned_remainder_of x (suc y) r er =
    ap (λ n. Some (Unsigned n)) (sym er) ∙ ap (λ b. if not b && true then Some (Unsigned r) else None) (sym (successor_is_not_zero y))

pub unsigned_divided : (input at : ℕ → ℕ) (a b : ℕ) → Always input at (spec.division_term op.DivS op.DivU ty.Unsigned a b) (Stands at (c.quotient (at a) (at b)) ty.Unsigned)
unsigned_divided input at a b r er =
    stands at (c.quotient (at a) (at b)) (judged_term ty.Unsigned r (b ∷ [])) (unsigned_quotient_of (at a) (at b) (at r) er)

pub unsigned_left_over : (input at : ℕ → ℕ) (a b : ℕ) → Always input at (spec.division_term op.RemS op.RemU ty.Unsigned a b) (Stands at (c.remainder (at a) (at b)) ty.Unsigned)
unsigned_left_over input at a b r er =
    stands at (c.remainder (at a) (at b)) (judged_term ty.Unsigned r (b ∷ [])) (unsigned_remainder_of (at a) (at b) (at r) er)
