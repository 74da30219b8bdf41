-- Folding: terms of the same value, which are constants where no input stands below them. This project's own.
use Rattle.std.specs.Prelude.{
  ◌≡◌,
  ◌<◌,
  ℕ,
  Bool,
  true,
  false,
  List,
  [],
  ◌∷◌,
  ◌++◌,
  length,
  Contains,
  slice_get,
  Option,
  Some,
}
use Rattle.c_tree.specs.declared.program.Input.{Input}
use Rattle.bv_term.specs.declared.op.Op.{Op}
use Rattle.bv_term.specs.declared.op.Op.TheVariants as op
use Rattle.bv_term.specs.Stores.{Terms, tv, fits_store}

-- the numbers of an operator's operands, in order
abbrev pub operands : Op → List ℕ
operands (op.Input n) = []
operands (op.Const n) = []
operands (op.Not a) = a ∷ []
operands (op.Neg a) = a ∷ []
operands (op.Add a b) = a ∷ b ∷ []
operands (op.Sub a b) = a ∷ b ∷ []
operands (op.Mul a b) = a ∷ b ∷ []
operands (op.DivU a b) = a ∷ b ∷ []
operands (op.RemU a b) = a ∷ b ∷ []
operands (op.DivS a b) = a ∷ b ∷ []
operands (op.RemS a b) = a ∷ b ∷ []
operands (op.Shl a b) = a ∷ b ∷ []
operands (op.ShrU a b) = a ∷ b ∷ []
operands (op.ShrS a b) = a ∷ b ∷ []
operands (op.And a b) = a ∷ b ∷ []
operands (op.Or a b) = a ∷ b ∷ []
operands (op.Xor a b) = a ∷ b ∷ []
operands (op.Eq a b) = a ∷ b ∷ []
operands (op.LtU a b) = a ∷ b ∷ []
operands (op.LtS a b) = a ∷ b ∷ []
operands (op.Ite c a b) = c ∷ a ∷ b ∷ []

abbrev pub is_input : Op → Bool
is_input (op.Input n) = true
is_input o = false

-- the term is no input, and none stands below it
pub data HasNoInput (ops : List Op) : ℕ → Type 0 where
  NoInput : (t : ℕ) (o : Op) (is : slice_get ops t ≡ Some o) (other : is_input o ≡ false)
      (below : (s : ℕ) → Contains (operands o) s → HasNoInput ops s) → HasNoInput ops t

abbrev pub IsConst : Option Op → Type 0
IsConst o = (n : ℕ) × (o ≡ Some (op.Const n))

-- the terms that were there keep their numbers, and the inputs are as they were
pub record IsExtended (old new : Terms) : Type 0 where
  pub inputs : new.inputs ≡ old.inputs
  pub further : List Op
  pub ops : new.ops ≡ old.ops ++ further

-- of the same value at every input that fits, and a constant where no input stands below
pub record IsFold (old new : Terms) (term folded : ℕ) : Type 0 where
  pub there : folded < length new.ops
  pub same : (i : Input) → fits_store old i ≡ true → tv new folded i ≡ tv old term i
  pub constant : HasNoInput old.ops term → IsConst (slice_get new.ops folded)
