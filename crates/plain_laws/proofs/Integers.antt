-- Integers: their magnitudes.
use Rattle.std.proofs.Common.{◌≡◌, ◌⊎◌, inl, inr, ℕ, zero, suc, ◌^◌, ◌<◌, ℤ, pos, negsuc, neg_ℤ, unsigned_abs, refl, ap, arith}

pub unsigned_abs-neg : (l : ℤ) → unsigned_abs (neg_ℤ l) ≡ unsigned_abs l
unsigned_abs-neg (pos zero) = refl
unsigned_abs-neg (pos (suc n)) = refl
unsigned_abs-neg (negsuc n) = refl

-- integers of one magnitude are the same, or one is the negative of the other
pub same_magnitude : (l m : ℤ) → unsigned_abs l ≡ unsigned_abs m → (l ≡ m) ⊎ (neg_ℤ l ≡ m)
same_magnitude (pos n) (pos m) h = inl (ap (λ k. pos k) h)
same_magnitude (pos zero) (negsuc m) h = absurd (omega arith)
same_magnitude (pos (suc n)) (negsuc m) h = inr (ap negsuc (omega arith))
same_magnitude (negsuc n) (pos zero) h = absurd (omega arith)
same_magnitude (negsuc n) (pos (suc m)) h = inr (ap (λ k. pos k) h)
same_magnitude (negsuc n) (negsuc m) h = inl (ap negsuc (omega arith))
