-- Sums that are held at the last value of 64 bits, along a list.
use Rattle.std.proofs.Common.{◌≡◌, ℕ, ◌+◌, ◌-◌, ◌^◌, ◌<◌, ◌≤◌, min, ap, ◌∙◌, arith}
use Rattle.path_weight.specs.Capped.{capped_weight}
use Rattle.plain_laws.proofs.Numbers.{min_of_low}

joined : (m sum w rest : ℕ) → min (min (sum + min w m) m + rest) m ≡ min (sum + (w + rest)) m
joined m sum w rest = omega arith

-- with one more
pub one_more : (sum one new w rest whole : ℕ) → new ≡ min (sum + one) (2 ^ 64 - 1) → one ≡ capped_weight w → capped_weight (sum + (w + rest)) ≡ whole → capped_weight (new + rest) ≡ whole
one_more sum one new w rest whole h is k = ap (λ n. capped_weight (n + rest)) (h ∙ ap (λ n. min (sum + n) (2 ^ 64 - 1)) is) ∙ joined (2 ^ 64 - 1) sum w rest ∙ k

-- at its end
pub at_end : (sum whole : ℕ) → sum < 2 ^ 64 → capped_weight (sum + 0) ≡ whole → sum ≡ whole
at_end sum whole lt h = min_of_low (2 ^ 64 - 1) sum (omega (arith, lt)) ∙ h

sixteen : (m w : ℕ) → min (min w m + 16) m ≡ min (16 + w) m
sixteen m w = omega arith

pub with_sixteen : (sum part w : ℕ) → sum ≡ min (part + 16) (2 ^ 64 - 1) → part ≡ capped_weight w → sum ≡ capped_weight (16 + w)
with_sixteen sum part w h is = h ∙ ap (λ n. min (n + 16) (2 ^ 64 - 1)) is ∙ sixteen (2 ^ 64 - 1) w
