-- The steps of folding: the terms so far are folded, and the next one is put over them.
use Rattle.std.specs.Prelude.{
  ◌≡◌,
  ◌<◌,
  ◌&&◌,
  ℕ,
  Bool,
  true,
  false,
  not,
  List,
  [],
  ◌∷◌,
  length,
  replicate,
  slice_get,
  slice_index,
  IsTrue,
  IsSomeAnd,
  Option,
  Some,
  None,
  pos,
}
use Rattle.c_tree.specs.declared.program.Input.{Input}
use Rattle.bv_term.specs.declared.op.Op.{Op}
use Rattle.bv_term.specs.declared.op.Op.TheVariants as op
use Rattle.bv_term.specs.Stores.{Terms, tv, fits_store}
use Rattle.bv_fold.specs.Folding.{operands, is_input}

abbrev pub AreBelow : ℕ → List ℕ → Type 0
AreBelow k [] = Unit {0}
AreBelow k (n ∷ ns) = (n < k) × AreBelow k ns

-- the operator over other operands, of which `to` has the numbers
abbrev pub renamed_op : (ℕ → ℕ) → Op → Op
renamed_op to (op.Input n) = op.Input n
renamed_op to (op.Const n) = op.Const n
renamed_op to (op.Not a) = op.Not (to a)
renamed_op to (op.Neg a) = op.Neg (to a)
renamed_op to (op.Add a b) = op.Add (to a) (to b)
renamed_op to (op.Sub a b) = op.Sub (to a) (to b)
renamed_op to (op.Mul a b) = op.Mul (to a) (to b)
renamed_op to (op.DivU a b) = op.DivU (to a) (to b)
renamed_op to (op.RemU a b) = op.RemU (to a) (to b)
renamed_op to (op.DivS a b) = op.DivS (to a) (to b)
renamed_op to (op.RemS a b) = op.RemS (to a) (to b)
renamed_op to (op.Shl a b) = op.Shl (to a) (to b)
renamed_op to (op.ShrU a b) = op.ShrU (to a) (to b)
renamed_op to (op.ShrS a b) = op.ShrS (to a) (to b)
renamed_op to (op.And a b) = op.And (to a) (to b)
renamed_op to (op.Or a b) = op.Or (to a) (to b)
renamed_op to (op.Xor a b) = op.Xor (to a) (to b)
renamed_op to (op.Eq a b) = op.Eq (to a) (to b)
renamed_op to (op.LtU a b) = op.LtU (to a) (to b)
renamed_op to (op.LtS a b) = op.LtS (to a) (to b)
renamed_op to (op.Ite c a b) = op.Ite (to c) (to a) (to b)

abbrev pub is_const : Option Op → Bool
is_const None = false
is_const (Some (op.Const n)) = true
is_const (Some o) = false

abbrev pub are_consts : List Op → List ℕ → Bool
are_consts ops [] = true
are_consts ops (s ∷ []) = is_const (slice_get ops s)
are_consts ops (s ∷ t ∷ ss) = is_const (slice_get ops s) && are_consts ops (t ∷ ss)

-- the operator is no input, and its operands are constants
abbrev pub is_over_constants : List Op → Op → Bool
is_over_constants ops o = not (is_input o) && are_consts ops (operands o)

-- the input whose numbers are all 0
abbrev pub zeros : Terms → Input
zeros terms = record { values = replicate (length terms.inputs) (pos 0) }

-- the words of the first terms at that input
pub record AreWords (terms : Terms) (ws : List ℕ) : Type 0 where
  pub each : (t : ℕ) → t < length ws → slice_index ws t ≡ tv terms t (zeros terms)

-- two terms of a store have the same value
pub record IsSame (terms : Terms) (term folded : ℕ) : Type 0 where
  pub there : folded < length terms.ops
  pub value : (i : Input) → fits_store terms i ≡ true → tv terms folded i ≡ tv terms term i

-- the numbers of the folds of the first terms
pub record AreSame (terms : Terms) (folded : List ℕ) : Type 0 where
  pub each : (t : ℕ) → t < length folded → IsSame terms t (slice_index folded t)

-- the term has an operator that is no input, and the folds of its operands are constants
abbrev pub HasConstants : List Op → List ℕ → ℕ → Type 0
HasConstants ops folded term =
    IsSomeAnd (slice_get ops term) (λ o. IsTrue (is_over_constants ops (renamed_op (slice_index folded) o)))
