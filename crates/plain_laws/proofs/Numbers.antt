-- Natural numbers: tests of them, least ones, sums and products.
use Rattle.std.proofs.Common.{◌≡◌, ◌≢◌, ◌⊎◌, inl, inr, ℕ, zero, suc, ◌+◌, ◌-◌, ◌*◌, ◌^◌, ◌<◌, ◌≤◌, min, Bool, true, false, refl, sym, ap, ◌∙◌, arith, tests}
use Rattle.std.specs.Prelude.{◌==◌, nat_lt}
use Rattle.std.proofs.lemmas.Bool.Decides.{nat_tests}
use Rattle.std.proofs.Math.Nat.{pow-succ', mul_assoc}

pub same_or_other : (a b : ℕ) → (a ≡ b) ⊎ (a ≢ b)
same_or_other a b = grind (arith, tests)

pub same_number : (x y : ℕ) → (x == y) ≡ true → x ≡ y
same_number x y h = grind (arith, nat_tests)

pub equals_itself : (x : ℕ) → (x == x) ≡ true
equals_itself x = grind (arith, nat_tests)

pub successor_is_not_zero : (k : ℕ) → (suc k == 0) ≡ false
successor_is_not_zero k = grind (arith, nat_tests)

pub not_below : (a b : ℕ) → nat_lt a b ≡ false → b ≤ a
not_below a b h = grind (arith, nat_tests)

pub successor_of_predecessor : (n : ℕ) → 1 ≤ n → suc (n - 1) ≡ n
successor_of_predecessor n h = omega arith

pub min_twice : (m a : ℕ) → min (min a m) m ≡ min a m
min_twice m a = omega arith

pub min_of_sum : (m a b : ℕ) → min (min a m + min b m) m ≡ min (a + b) m
min_of_sum m a b = omega arith

pub min_of_low : (m a : ℕ) → a ≤ m → a ≡ min (a + 0) m
min_of_low m a h = omega (arith, h)

pub binary_below : (b x p q : ℕ) → b < 2 → x < p → q ≡ 2 * p → b + 2 * x < q
binary_below b x p q h k e = omega arith

pub shift_decimal : (n k : ℕ) → n * 10 ^ suc k ≡ (n * 10) * 10 ^ k
shift_decimal n k = ap (λ p. n * p) (pow-succ' 10 k) ∙ sym (mul_assoc n 10 (10 ^ k))
