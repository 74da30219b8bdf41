-- What is known of the word of a term at every input.
use Rattle.std.proofs.Common.{◌≡◌, ◌<◌, ◌≤◌, ℕ, zero, suc, ◌-◌, ◌%◌, ◌^◌, List, [], ◌∷◌, length, Some, sym, ap, ◌∙◌, arith}
use Rattle.std.specs.Prelude.{slice_get, ◌==◌, bit_and, bit_or}
use Rattle.std.specs.Int.Bits.{or_self, or_zero_r}
use Rattle.std.proofs.lemmas.Nat.{le_or_r, or_of_32, or_comm, and_mask, pow_pos}
use Rattle.std.proofs.lemmas.Bool.Decides.{nat_tests}
use Rattle.bv_term.specs.declared.op.Op.{Op}
use Rattle.bv_term.specs.declared.op.Op.TheVariants as op
use Rattle.bv_term.specs.Words.{flag, word_remainder}
use Rattle.bv_term.specs.Stores.{Terms, AreTerms}
use Rattle.bv_fold.specs.Folding.{operands}
use Rattle.bv_fold.specs.Steps.{AreBelow}
use Rattle.bv_fold.specs.Standing.{HasWord, IsMaskOf, IsNegated, IsTurned, IsOpposite, StandsFor}
use Rattle.bv_fold.specs.declared.stand.Stand.TheVariants as stand
use Rattle.bv_fold.proofs.Renamed.{operands_below}
use Rattle.bv_fold.proofs.NextFolds.{fits_at}

-- the operands of a term are terms
all_below : (j k : ℕ) (ss : List ℕ) → j ≤ k → AreBelow j ss → AreBelow k ss
all_below j k [] h b = tt
all_below j k (s ∷ ss) h b = (omega (arith, b.0), all_below j k ss h b.1)

pub operands_there : (terms : Terms) (t : ℕ) (o : Op) → t < length terms.ops → AreTerms terms → slice_get terms.ops t ≡ Some o
    → AreBelow (length terms.ops) (operands o)
operands_there terms t o h fit is =
    all_below t (length terms.ops) (operands o) (omega arith) (operands_below (length terms.inputs) t o (fits_at terms t o fit is))

-- ---- a comparison with 0

pub negated_right : (terms : Terms) (t a b : ℕ) → a < length terms.ops → slice_get terms.ops t ≡ Some (op.Eq a b) → HasWord terms b 0 → IsNegated terms t a
negated_right terms t a b h is none = record {
  there = h;
  always = λ input at words. words.each t (op.Eq a b) is ∙ ap (λ n. flag (at a == n)) (none.always input at words);
}

zero_first : (m n : ℕ) → m ≡ 0 → flag (m == n) ≡ flag (n == 0)
zero_first m n e = grind (arith, nat_tests)

pub negated_left : (terms : Terms) (t a b : ℕ) → b < length terms.ops → slice_get terms.ops t ≡ Some (op.Eq a b) → HasWord terms a 0 → IsNegated terms t b
negated_left terms t a b h is none = record {
  there = h;
  always = λ input at words. words.each t (op.Eq a b) is ∙ zero_first (at a) (at b) (none.always input at words);
}

pub turned : (terms : Terms) (t a : ℕ) → a < length terms.ops → slice_get terms.ops t ≡ Some (op.Not a) → IsTurned terms t a
turned terms t a h is = record { there = h; always = λ input at words. words.each t (op.Not a) is }

pub opposite : (terms : Terms) (t a : ℕ) → a < length terms.ops → slice_get terms.ops t ≡ Some (op.Neg a) → IsOpposite terms t a
opposite terms t a h is = record { there = h; always = λ input at words. words.each t (op.Neg a) is }

-- ---- bits

all_bits : (m : ℕ) → m < 2 ^ 32 → bit_or m (2 ^ 32 - 1) ≡ 2 ^ 32 - 1
all_bits m h = omega (arith, le_or_r m (2 ^ 32 - 1), or_of_32 m (2 ^ 32 - 1) h (search arith))

pub either_itself : (terms : Terms) (a b : ℕ) → a < length terms.ops → a ≡ b → StandsFor terms (op.Or a b) (stand.Term a)
either_itself terms a b h same = record {
  fits = h;
  same = λ input at words. sym (or_self (at a)) ∙ ap (λ t. bit_or (at a) (at t)) same;
}

pub either_none : (terms : Terms) (a b : ℕ) → a < length terms.ops → HasWord terms b 0 → StandsFor terms (op.Or a b) (stand.Term a)
either_none terms a b h none = record {
  fits = h;
  same = λ input at words. sym (or_zero_r (at a)) ∙ ap (bit_or (at a)) (sym (none.always input at words));
}

pub either_all_left : (terms : Terms) (a b : ℕ) → HasWord terms a (2 ^ 32 - 1) → StandsFor terms (op.Or a b) (stand.Constant (2 ^ 32 - 1))
either_all_left terms a b all = record {
  fits = search arith;
  same = λ input at words. sym (all_bits (at b) (words.small b)) ∙ or_comm (at b) (2 ^ 32 - 1) ∙ ap (λ m. bit_or m (at b)) (sym (all.always input at words));
}

pub either_all_right : (terms : Terms) (a b : ℕ) → HasWord terms b (2 ^ 32 - 1) → StandsFor terms (op.Or a b) (stand.Constant (2 ^ 32 - 1))
either_all_right terms a b all = record {
  fits = search arith;
  same = λ input at words. sym (all_bits (at a) (words.small a)) ∙ ap (bit_or (at a)) (sym (all.always input at words));
}

-- the remainder by a power of two has the low bits
remainder_low : (m n k : ℕ) → n ≡ 2 ^ k → bit_and m (2 ^ k - 1) ≡ word_remainder m n
remainder_low m zero k e = absurd (omega (arith, pow_pos k, e))
remainder_low m (suc n) k e = and_mask m k ∙ ap (λ d. m % d) (sym e)

pub remainder_masked : (terms : Terms) (a b mask : ℕ) → a < length terms.ops → mask < 2 ^ 32 → IsMaskOf terms b mask
    → StandsFor terms (op.RemU a b) (stand.Masked a mask)
remainder_masked terms a b mask h small is = record {
  fits = (h, small);
  same = λ input at words. ap (bit_and (at a)) is.mask ∙ remainder_low (at a) (at b) is.exponent (is.power.power.always input at words);
}
