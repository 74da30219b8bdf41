-- What may stand for an operator over terms of a store: it has the operator's word at every input.
use Rattle.std.specs.Prelude.{◌≡◌, ◌<◌, ℕ, true, ◌-◌, ◌*◌, ◌/◌, ◌%◌, ◌^◌, ◌==◌, length, slice_get, Some, bit_and}
use Rattle.c_tree.specs.declared.program.Input.{Input}
use Rattle.bv_term.specs.declared.op.Op.{Op}
use Rattle.bv_term.specs.Words.{flag, op_word}
use Rattle.bv_term.specs.Stores.{Terms, FitsOp, input_word, tv, fits_store}
use Rattle.bv_fold.specs.declared.stand.Stand.{Stand}
use Rattle.bv_fold.specs.declared.stand.Stand.TheVariants as stand

-- `at` has the words of the terms, where `input` has those of the inputs: each is that of its operator
pub record AreWordsOf (terms : Terms) (input at : ℕ → ℕ) : Type 0 where
  pub small : (t : ℕ) → at t < 2 ^ 32
  pub each : (t : ℕ) (o : Op) → slice_get terms.ops t ≡ Some o → at t ≡ op_word input at o

-- ---- what is known of a term at every input

pub record HasWord (terms : Terms) (t n : ℕ) : Type 0 where
  pub always : (input at : ℕ → ℕ) → AreWordsOf terms input at → at t ≡ n

-- the word is 0 or 1
pub record IsTruth (terms : Terms) (t : ℕ) : Type 0 where
  pub always : (input at : ℕ → ℕ) → AreWordsOf terms input at → at t < 2

-- the word is 1 where that of x is 0, and else 0
pub record IsNegated (terms : Terms) (t x : ℕ) : Type 0 where
  pub there : x < length terms.ops
  pub always : (input at : ℕ → ℕ) → AreWordsOf terms input at → at t ≡ flag (at x == 0)

-- the bits are those of x, each turned
pub record IsTurned (terms : Terms) (t x : ℕ) : Type 0 where
  pub there : x < length terms.ops
  pub always : (input at : ℕ → ℕ) → AreWordsOf terms input at → at t ≡ 2 ^ 32 - 1 - at x

-- the word is 0 less that of x
pub record IsOpposite (terms : Terms) (t x : ℕ) : Type 0 where
  pub there : x < length terms.ops
  pub always : (input at : ℕ → ℕ) → AreWordsOf terms input at → at t ≡ (2 ^ 32 - at x) % 2 ^ 32

-- the word is this power of two
pub record HasPower (terms : Terms) (t k : ℕ) : Type 0 where
  pub few : k < 32
  pub power : HasWord terms t (2 ^ k)

-- the word is a power of two, and n has the bits below it
pub record IsMaskOf (terms : Terms) (t n : ℕ) : Type 0 where
  pub exponent : ℕ
  pub power : HasPower terms t exponent
  pub mask : n ≡ 2 ^ exponent - 1

-- the word is a multiple of 32
pub record IsNoShift (terms : Terms) (t : ℕ) : Type 0 where
  pub always : (input at : ℕ → ℕ) → AreWordsOf terms input at → at t % 32 ≡ 0

-- the word is 1 where those of a and b are equal, and else 0
pub record IsEquality (terms : Terms) (a b x : ℕ) : Type 0 where
  pub there : x < length terms.ops
  pub always : (input at : ℕ → ℕ) → AreWordsOf terms input at → at x ≡ flag (at a == at b)

-- x is a truth value, and t is its negation
pub record IsNegatedTruth (terms : Terms) (t x : ℕ) : Type 0 where
  pub truth : IsTruth terms x
  pub negated : IsNegated terms t x

-- ---- what stands for an operator

-- its word
abbrev pub stand_word : (ℕ → ℕ) → (ℕ → ℕ) → Stand → ℕ
stand_word input at (stand.Term t) = at t
stand_word input at (stand.Constant n) = n
stand_word input at (stand.Operator o) = op_word input at o
stand_word input at (stand.Raised t k) = (at t * 2 ^ (k % 32)) % 2 ^ 32
stand_word input at (stand.Lowered t k) = at t / 2 ^ (k % 32)
stand_word input at (stand.Masked t n) = bit_and (at t) n

-- it can be put
abbrev pub FitsStand : Terms → Stand → Type 0
FitsStand terms (stand.Term t) = t < length terms.ops
FitsStand terms (stand.Constant n) = n < 2 ^ 32
FitsStand terms (stand.Operator o) = FitsOp (length terms.inputs) (length terms.ops) o
FitsStand terms (stand.Raised t k) = (t < length terms.ops) × (k < 2 ^ 32)
FitsStand terms (stand.Lowered t k) = (t < length terms.ops) × (k < 2 ^ 32)
FitsStand terms (stand.Masked t n) = (t < length terms.ops) × (n < 2 ^ 32)

-- it can be put, and has the operator's word at every input
pub record StandsFor (terms : Terms) (o : Op) (s : Stand) : Type 0 where
  pub fits : FitsStand terms s
  pub same : (input at : ℕ → ℕ) → AreWordsOf terms input at → stand_word input at s ≡ op_word input at o

-- what stands there was put as this term
pub record IsPut (old new : Terms) (s : Stand) (t : ℕ) : Type 0 where
  pub there : t < length new.ops
  pub value : (i : Input) → fits_store new i ≡ true → tv new t i ≡ stand_word (input_word i.values) (λ x. tv old x i) s
