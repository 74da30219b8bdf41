-- The numbers that words write.
use Rattle.std.proofs.Common.{◌≡◌, ◌==◌, ℕ, zero, suc, ◌+◌, ◌-◌, ◌*◌, ◌/◌, ◌%◌, ◌^◌, ◌<◌, ◌≤◌, ◌⊎◌, inl, inr, ℤ, pos, negsuc, neg_ℤ, Bool, true, false, not, cond, List, [], ◌∷◌, ◌++◌, map, length, take, drop, replicate, unsigned_abs, refl, sym, ap, ◌∙◌, subst, arith}
use Rattle.std.proofs.Math.Nat.{pow-suc}
use Rattle.std.proofs.lemmas.Nat.{pow_pos, mod-mul-add}
use Rattle.bv_term.specs.Words.{flag}
use Rattle.bit_circuits.specs.Words.{word_value, true_literal, false_literal, falses, constant_bits, truth_word, top, lower, top_turned}
use Rattle.bit_circuits.proofs.Circuits.Building.{IsBelow, Below, IsTruth, IsBit, IsWord}
use Rattle.plain_laws.proofs.Numbers.{binary_below}
use Rattle.plain_laws.proofs.Integers.{unsigned_abs-neg}

pub flag-lt : (b : Bool) → flag b < 2
flag-lt true = omega arith
flag-lt false = omega arith

pub flag-not : (b : Bool) → flag (not b) + flag b ≡ 1
flag-not true = refl
flag-not false = refl

pub twice : (k : ℕ) → 2 ^ suc k ≡ 2 * 2 ^ k
twice k = omega (arith, pow-suc 2 k)

pub word_value-lt : (v : ℤ → Bool) (ls : List ℤ) → word_value v ls < 2 ^ length ls
word_value-lt v [] = omega arith
word_value-lt v (l ∷ ls) = binary_below (flag (v l)) (word_value v ls) (2 ^ length ls) (2 ^ length (l ∷ ls)) (flag-lt (v l)) (word_value-lt v ls) (twice (length ls))

append_step : (b x y p q : ℕ) → q ≡ 2 * p → b + 2 * (x + p * y) ≡ b + 2 * x + q * y
append_step b x y p q e = subst (λ r. b + 2 * (x + p * y) ≡ b + 2 * x + r * y) (sym e) (omega arith)

pub word_value-append : (v : ℤ → Bool) (ls ms : List ℤ) → word_value v (ls ++ ms) ≡ word_value v ls + 2 ^ length ls * word_value v ms
word_value-append v [] ms = omega arith
word_value-append v (l ∷ ls) ms =
    ap (λ x. flag (v l) + 2 * x) (word_value-append v ls ms) ∙ append_step (flag (v l)) (word_value v ls) (word_value v ms) (2 ^ length ls) (2 ^ length (l ∷ ls)) (twice (length ls))

pub length-falses : (k : ℕ) → length (falses k) ≡ k
length-falses zero = refl
length-falses (suc k) = ap suc (length-falses k)

pub word_value-falses : (v : ℤ → Bool) (k : ℕ) → v false_literal ≡ false → word_value v (falses k) ≡ 0
word_value-falses v zero h = refl
word_value-falses v (suc k) h = ap (λ b. flag b + 2 * word_value v (falses k)) h ∙ ap (λ x. 0 + 2 * x) (word_value-falses v k h)

pub Below-falses : (n k : ℕ) → 1 < n → Below n (falses k)
Below-falses n zero h = tt
Below-falses n (suc k) h = (record { some = omega arith; below = omega arith }, Below-falses n k h)

pub falsity_is : {v : ℤ → Bool} {G : Type 0} → IsTruth v G → G → v false_literal ≡ false
falsity_is t given = t.opposite (pos 1) (omega arith) ∙ ap not (t.one given)

pub IsBelow-neg : (n : ℕ) (l : ℤ) → IsBelow n l → IsBelow n (neg_ℤ l)
IsBelow-neg n l h = record { some = omega (arith, unsigned_abs-neg l, h.some); below = omega (arith, unsigned_abs-neg l, h.below) }

pub Below-neg : (n : ℕ) (ls : List ℤ) → Below n ls → Below n (map neg_ℤ ls)
Below-neg n [] h = tt
Below-neg n (l ∷ ls) h = (IsBelow-neg n l h.0, Below-neg n ls h.1)

neg_step : (m b x y p q : ℕ) → m + b ≡ 1 → x + y + 1 ≡ p → q ≡ 2 * p → (m + 2 * x) + (b + 2 * y) + 1 ≡ q
neg_step m b x y p q e f g = omega arith

-- a word with each bit turned
pub word_value-neg : (v : ℤ → Bool) (G : Type 0) (n : ℕ) (ls : List ℤ) → IsTruth v G → Below n ls → word_value v (map neg_ℤ ls) + word_value v ls + 1 ≡ 2 ^ length ls
word_value-neg v G n [] t h = refl
word_value-neg v G n (l ∷ ls) t h =
    neg_step (flag (v (neg_ℤ l))) (flag (v l)) (word_value v (map neg_ℤ ls)) (word_value v ls) (2 ^ length ls) (2 ^ length (l ∷ ls))
    (ap (λ b. flag b + flag (v l)) (t.opposite l h.0.some) ∙ flag-not (v l)) (word_value-neg v G n ls t h.1) (twice (length ls))

pub length-neg : (ls : List ℤ) → length (map neg_ℤ ls) ≡ length ls
length-neg [] = refl
length-neg (l ∷ ls) = ap suc (length-neg ls)

-- ---- the highest bit, and those below it

pub length-lower : (k : ℕ) (ls : List ℤ) → length ls ≡ suc k → length (lower ls) ≡ k
length-lower k [] h = absurd (omega arith)
length-lower k (l ∷ []) h = omega arith
length-lower zero (l ∷ m ∷ ms) h = absurd (omega arith)
length-lower (suc k) (l ∷ m ∷ ms) h = ap suc (length-lower k (m ∷ ms) (omega arith))

lower_step : (b x y t p q : ℕ) → q ≡ 2 * p → x ≡ y + p * t → b + 2 * x ≡ b + 2 * y + q * t
lower_step b x y t p q e f = subst (λ r. b + 2 * x ≡ b + 2 * y + r * t) (sym e) (omega arith)

pub word_value-lower : (v : ℤ → Bool) (k : ℕ) (ls : List ℤ) → length ls ≡ suc k → word_value v ls ≡ word_value v (lower ls) + 2 ^ k * flag (v (top ls))
word_value-lower v k [] h = absurd (omega arith)
word_value-lower v zero (l ∷ []) h = omega arith
word_value-lower v (suc k) (l ∷ []) h = absurd (omega arith)
word_value-lower v zero (l ∷ m ∷ ms) h = absurd (omega arith)
word_value-lower v (suc k) (l ∷ m ∷ ms) h =
    lower_step (flag (v l)) (word_value v (m ∷ ms)) (word_value v (lower (m ∷ ms))) (flag (v (top (m ∷ ms)))) (2 ^ k) (2 ^ suc k) (twice k) (word_value-lower v k (m ∷ ms) (omega arith))

pub Below-lower : (n : ℕ) (ls : List ℤ) → Below n ls → Below n (lower ls)
Below-lower n [] h = tt
Below-lower n (l ∷ []) h = tt
Below-lower n (l ∷ m ∷ ms) h = (h.0, Below-lower n (m ∷ ms) h.1)

pub IsBelow-top : (n : ℕ) (ls : List ℤ) → 1 < n → Below n ls → IsBelow n (top ls)
IsBelow-top n [] some h = record { some = omega arith; below = omega arith }
IsBelow-top n (l ∷ []) some h = h.0
IsBelow-top n (l ∷ m ∷ ms) some h = IsBelow-top n (m ∷ ms) some h.1

pub Below-turned : (n : ℕ) (ls : List ℤ) → Below n ls → Below n (top_turned ls)
Below-turned n [] h = tt
Below-turned n (l ∷ []) h = (IsBelow-neg n l h.0, tt)
Below-turned n (l ∷ m ∷ ms) h = (h.0, Below-turned n (m ∷ ms) h.1)

pub length-turned : (ls : List ℤ) → length (top_turned ls) ≡ length ls
length-turned [] = refl
length-turned (l ∷ []) = refl
length-turned (l ∷ m ∷ ms) = ap suc (length-turned (m ∷ ms))

pub word_value-turned : (v : ℤ → Bool) (G : Type 0) (n k : ℕ) (ls : List ℤ) → IsTruth v G → Below n ls → length ls ≡ suc k → word_value v (top_turned ls) ≡ word_value v (lower ls) + 2 ^ k * flag (not (v (top ls)))
word_value-turned v G n k [] t b h = absurd (omega arith)
word_value-turned v G n zero (l ∷ []) t b h = ap (λ x. flag x + 2 * 0) (t.opposite l b.0.some) ∙ omega arith
word_value-turned v G n (suc k) (l ∷ []) t b h = absurd (omega arith)
word_value-turned v G n zero (l ∷ m ∷ ms) t b h = absurd (omega arith)
word_value-turned v G n (suc k) (l ∷ m ∷ ms) t b h =
    lower_step (flag (v l)) (word_value v (top_turned (m ∷ ms))) (word_value v (lower (m ∷ ms))) (flag (not (v (top (m ∷ ms))))) (2 ^ k) (2 ^ suc k) (twice k) (word_value-turned v G n k (m ∷ ms) t b.1 (omega arith))

-- ---- words with no gate

pub length-constant : (k n : ℕ) → length (constant_bits k n) ≡ k
length-constant zero n = refl
length-constant (suc k) n = ap suc (length-constant k (n / 2))

pub Below-constant : (m k n : ℕ) → 1 < m → Below m (constant_bits k n)
Below-constant m zero n h = tt
Below-constant m (suc k) n h = (constant_bit m (n % 2 == 0) h, Below-constant m k (n / 2) h)
  where
    constant_bit : (m : ℕ) (b : Bool) → 1 < m → IsBelow m (cond b false_literal true_literal)
    constant_bit m true h = record { some = omega arith; below = omega arith }
    constant_bit m false h = record { some = omega arith; below = omega arith }

-- a number below a power is its remainder
pub remainder_is : (p r q x : ℕ) → r < p → x ≡ r + p * q → r ≡ x % p
remainder_is p r q x h e = sym (ap (λ y. y % p) (e ∙ omega arith) ∙ mod-mul-add q p r h)
