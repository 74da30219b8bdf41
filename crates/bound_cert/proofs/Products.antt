-- Products of whole numbers: how they go with sums, and with the order.
use Rattle.std.proofs.Common.{◌≡◌, ◌*◌, ℤ, pos, negsuc, ◌+ℤ◌, ◌*ℤ◌, ◌≤ℤ◌, arith, ap}
use Rattle.std.proofs.lemmas.Int.{ints}
use borrow.Author.Differences.{up, down, sum_is_lem, product_is, le_out}
use Rattle.std.proofs.Math.Nat.{mul-le-mul_left}

pub plus-times : (a b c : ℤ) → (a +ℤ b) *ℤ c ≡ a *ℤ c +ℤ b *ℤ c
plus-times a b c =
    let by_up = ap (λ n. n * up c) (sum_is_lem a b) in
    let by_down = ap (λ n. n * down c) (sum_is_lem a b) in
    omega (arith, ints)

pub times-plus : (a b c : ℤ) → a *ℤ (b +ℤ c) ≡ a *ℤ b +ℤ a *ℤ c
times-plus a b c =
    let by_up = ap (λ n. n * up a) (sum_is_lem b c) in
    let by_down = ap (λ n. n * down a) (sum_is_lem b c) in
    omega (arith, ints)

pub times-times : (a b c : ℤ) → (a *ℤ b) *ℤ c ≡ a *ℤ (b *ℤ c)
times-times a b c =
    let left = product_is a b in
    let right = product_is b c in
    let u = ap (λ n. n * up c) left.0 in
    let v = ap (λ n. n * down c) left.1 in
    let u' = ap (λ n. n * down c) left.0 in
    let v' = ap (λ n. n * up c) left.1 in
    let w = ap (λ n. n * up a) right.0 in
    let z = ap (λ n. n * down a) right.1 in
    let w' = ap (λ n. n * up a) right.1 in
    let z' = ap (λ n. n * down a) right.0 in
    omega (arith, ints)

-- by a number that is not negative
pub times-mono : (y a b : ℤ) → pos 0 ≤ℤ y → a ≤ℤ b → (y *ℤ a) ≤ℤ (y *ℤ b)
times-mono (pos n) a b h k = let more = mul-le-mul_left n (le_out a b k) in omega (arith, ints)
times-mono (negsuc n) a b h k = absurd (omega (arith, ints))
