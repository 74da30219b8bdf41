-- The terms of sums, differences and negatives.
use Rattle.std.proofs.Common.{◌≡◌, ℕ, ◌+◌, ◌-◌, ◌%◌, ◌^◌, ◌<◌, true, [], ◌∷◌, Some, sym, ap, arith}
use Rattle.std.specs.Prelude.{◌==◌, ◌&&◌, not, ◌+ℤ◌, ◌-ℤ◌}
use Rattle.std.specs.Int.{cast_signed, w32}
use Rattle.std.proofs.lemmas.Int.{ints}
use Rattle.std.proofs.lemmas.Bool.Decides.{nat_tests}
use lib.Signed.{mag}
use Rattle.c_tree.specs.declared.tree.Ty.TheVariants as ty
use Rattle.c_tree.specs.declared.value.Value.TheVariants.{Unsigned}
use Rattle.c_tree.specs.Meaning.Operators as c
use Rattle.bv_term.specs.Words.{flag, is_less_signed}
use Rattle.bv_term.specs.Scripts.{Always}
use Rattle.cond_laws.specs.Judged.{judged_term, sure}
use Rattle.cond_laws.specs.TermOperators as spec
use Rattle.cond_laws.proofs.Judging.{Stands, judged_int, stands}

-- ---- sums

sum_in : (x y r z n l d : ℕ) → x < 2 ^ 32 → y < 2 ^ 32 → r ≡ (x + y) % 2 ^ 32 → z ≡ 0 → n ≡ flag (is_less_signed y z) → l ≡ flag (is_less_signed r x) → d ≡ flag (n == l) → (not (d == 0) && true) ≡ true → mag (cast_signed w32 x +ℤ cast_signed w32 y) < 2 ^ 31
sum_in x y r z n l d hx hy er ez en el ed h = grind (arith, ints, nat_tests)

sum_out : (x y r z n l d : ℕ) → x < 2 ^ 32 → y < 2 ^ 32 → r ≡ (x + y) % 2 ^ 32 → z ≡ 0 → n ≡ flag (is_less_signed y z) → l ≡ flag (is_less_signed r x) → d ≡ flag (n == l) → mag (cast_signed w32 x +ℤ cast_signed w32 y) < 2 ^ 31 → (not (d == 0) && true) ≡ true
sum_out x y r z n l d hx hy er ez en el ed h = grind (arith, ints, nat_tests)

sum_word : (x y r : ℕ) → x < 2 ^ 32 → y < 2 ^ 32 → r ≡ (x + y) % 2 ^ 32 → mag (cast_signed w32 x +ℤ cast_signed w32 y) < 2 ^ 31 → cast_signed w32 x +ℤ cast_signed w32 y ≡ cast_signed w32 r
sum_word x y r hx hy e h = grind (arith, ints)

pub int_sum : (input at : ℕ → ℕ) (a b : ℕ) → at a < 2 ^ 32 → at b < 2 ^ 32 → Always input at (spec.sum_term ty.Int a b) (Stands at (c.int (cast_signed w32 (at a) +ℤ cast_signed w32 (at b))) ty.Int)
int_sum input at a b ha hb r er z ez n en l el d ed =
    stands at (c.int (cast_signed w32 (at a) +ℤ cast_signed w32 (at b))) (judged_term ty.Int r (d ∷ [])) (judged_int (cast_signed w32 (at a) +ℤ cast_signed w32 (at b)) (at r) (not (at d == 0) && true) (sum_in (at a) (at b) (at r) (at z) (at n) (at l) (at d) ha hb er ez en el ed) (sum_out (at a) (at b) (at r) (at z) (at n) (at l) (at d) ha hb er ez en el ed) (sum_word (at a) (at b) (at r) ha hb er))

pub unsigned_sum : (input at : ℕ → ℕ) (a b : ℕ) → Always input at (spec.sum_term ty.Unsigned a b) (Stands at (c.wrapped_unsigned (at a + at b)) ty.Unsigned)
unsigned_sum input at a b r er =
    stands at (c.wrapped_unsigned (at a + at b)) (sure ty.Unsigned r) (ap (λ n. Some (Unsigned n)) (sym er))

-- ---- differences

difference_in : (x y r z n l d : ℕ) → x < 2 ^ 32 → y < 2 ^ 32 → r ≡ (x + 2 ^ 32 - y) % 2 ^ 32 → z ≡ 0 → n ≡ flag (is_less_signed z y) → l ≡ flag (is_less_signed r x) → d ≡ flag (n == l) → (not (d == 0) && true) ≡ true → mag (cast_signed w32 x -ℤ cast_signed w32 y) < 2 ^ 31
difference_in x y r z n l d hx hy er ez en el ed h = grind (arith, ints, nat_tests)

difference_out : (x y r z n l d : ℕ) → x < 2 ^ 32 → y < 2 ^ 32 → r ≡ (x + 2 ^ 32 - y) % 2 ^ 32 → z ≡ 0 → n ≡ flag (is_less_signed z y) → l ≡ flag (is_less_signed r x) → d ≡ flag (n == l) → mag (cast_signed w32 x -ℤ cast_signed w32 y) < 2 ^ 31 → (not (d == 0) && true) ≡ true
difference_out x y r z n l d hx hy er ez en el ed h = grind (arith, ints, nat_tests)

difference_word : (x y r : ℕ) → x < 2 ^ 32 → y < 2 ^ 32 → r ≡ (x + 2 ^ 32 - y) % 2 ^ 32 → mag (cast_signed w32 x -ℤ cast_signed w32 y) < 2 ^ 31 → cast_signed w32 x -ℤ cast_signed w32 y ≡ cast_signed w32 r
difference_word x y r hx hy e h = grind (arith, ints)

pub int_difference : (input at : ℕ → ℕ) (a b : ℕ) → at a < 2 ^ 32 → at b < 2 ^ 32 → Always input at (spec.difference_term ty.Int a b) (Stands at (c.int (cast_signed w32 (at a) -ℤ cast_signed w32 (at b))) ty.Int)
int_difference input at a b ha hb r er z ez n en l el d ed =
    stands at (c.int (cast_signed w32 (at a) -ℤ cast_signed w32 (at b))) (judged_term ty.Int r (d ∷ [])) (judged_int (cast_signed w32 (at a) -ℤ cast_signed w32 (at b)) (at r) (not (at d == 0) && true) (difference_in (at a) (at b) (at r) (at z) (at n) (at l) (at d) ha hb er ez en el ed) (difference_out (at a) (at b) (at r) (at z) (at n) (at l) (at d) ha hb er ez en el ed) (difference_word (at a) (at b) (at r) ha hb er))

pub unsigned_difference : (input at : ℕ → ℕ) (a b : ℕ) → Always input at (spec.difference_term ty.Unsigned a b) (Stands at (c.wrapped_unsigned (at a + 2 ^ 32 - at b)) ty.Unsigned)
unsigned_difference input at a b r er =
    stands at (c.wrapped_unsigned (at a + 2 ^ 32 - at b)) (sure ty.Unsigned r) (ap (λ n. Some (Unsigned n)) (sym er))
