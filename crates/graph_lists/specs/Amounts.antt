-- How much a part of a program counts with its calls inlined: 1 for a node with a block and without a condition, and
-- what the weights say for a condition and for a landing. Sums stay at the last number of 64 bits. This project's own.
use Rattle.std.specs.Prelude.{
  ℕ,
  ◌+◌,
  ◌-◌,
  ◌^◌,
  min,
  Bool,
  true,
  false,
  List,
  [],
  ◌∷◌,
  ◌++◌,
  Option,
  Some,
  None,
  slice_get,
  unwrap_or,
}
use Rattle.c_tree.specs.declared.tree.Stmt.{Stmt, Row_of-Stmt, end_of-Stmt, more_of-Stmt, Held-Stmt-For-1, None', Some'}
use Rattle.c_tree.specs.declared.tree.Stmt.TheVariants.{
  Empty,
  Scalar,
  Array,
  Assign,
  Call,
  Break,
  Continue,
  Return,
  If',
  While',
  Do',
  For',
  Group',
}
use Rattle.c_tree.specs.declared.program.Func.{Func}
use Rattle.c_tree.specs.Meaning.Blocks.{is_simple}
use Rattle.graph_lists.specs.declared.sizes.Weights.{Weights}

-- a number of 64 bits, or the last one
abbrev pub capped_amount : ℕ → ℕ
capped_amount n = min n (2 ^ 64 - 1)

abbrev pub capped_sum : ℕ → ℕ → ℕ
capped_sum a b = min (a + b) (2 ^ 64 - 1)

-- a simple statement's block, where the statement begins it
abbrev pub begun_amount : Bool → ℕ
begun_amount true = 0
begun_amount false = 1

-- a call, its callee's copy and its landing
abbrev pub call_amount : Weights → List ℕ → ℕ → ℕ
call_amount v ds g = capped_sum (capped_sum (unwrap_or (slice_get ds g) 0) 1) v.landing

unfoldable mutual
  -- a statement, over functions that count `ds`; `run` tells that it goes on with a run of simple ones
  pub amount : Weights → List ℕ → Stmt → Bool → ℕ
  amount v ds Empty run = begun_amount run
  amount v ds (Scalar l e) run = begun_amount run
  amount v ds (Array l es) run = begun_amount run
  amount v ds (Assign p op e) run = begun_amount run
  amount v ds (Call t g es) run = call_amount v ds g
  amount v ds Break run = 1
  amount v ds Continue run = 1
  amount v ds (Return e) run = 1
  amount v ds (If' e a x b y) run = capped_sum v.test (capped_sum (row_amount v ds x false) (row_amount v ds y false))
  amount v ds (While' k e a x) run = capped_sum v.test (row_amount v ds x false)
  amount v ds (Do' k a x e) run = capped_sum v.test (row_amount v ds x false)
  amount v ds (For' k i e j a x) run =
      capped_sum (part_amount v ds i) (capped_sum v.test (capped_sum (part_amount v ds j) (row_amount v ds x false)))
  amount v ds (Group' a x) run = row_amount v ds x false

  pub row_amount : {m : _} → Weights → List ℕ → Row_of-Stmt m → Bool → ℕ
  row_amount v ds end_of-Stmt run = 0
  row_amount v ds (more_of-Stmt s rest) run = capped_sum (amount v ds s run) (row_amount v ds rest (is_simple s))

  pub part_amount : Weights → List ℕ → Held-Stmt-For-1 → ℕ
  part_amount v ds None' = 0
  part_amount v ds (Some' a x) = row_amount v ds x false

-- of a list
abbrev pub list_amount : Weights → List ℕ → List Stmt → Bool → ℕ
list_amount v ds [] run = 0
list_amount v ds (s ∷ rest) run = capped_sum (amount v ds s run) (list_amount v ds rest (is_simple s))

-- of the initialiser or the step of a `for`
abbrev pub held_amount : Weights → List ℕ → Option Stmt → ℕ
held_amount v ds None = 0
held_amount v ds (Some s) = capped_sum (amount v ds s false) 0

-- of each function, over those above it
abbrev pub amounts : Weights → List ℕ → List Func → List ℕ
amounts v ds [] = ds
amounts v ds (f ∷ fs) = amounts v (ds ++ list_amount v ds f.body false ∷ []) fs
