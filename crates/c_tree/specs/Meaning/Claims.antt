-- The cost of a run, and the three claims about all runs. This project's own.
use Rattle.std.specs.Prelude.{
  ◌≡◌,
  ◌≤◌,
  ℕ,
  false,
  IsTrue,
  List,
  [],
  ◌∷◌,
  length,
  slice_get,
  option_and_then,
  unwrap_or,
  sum_by,
}
use Rattle.c_tree.specs.declared.program.BlockName.{BlockName}
use Rattle.c_tree.specs.declared.program.Func.{Func}
use Rattle.c_tree.specs.declared.program.Program.{Program}
use Rattle.c_tree.specs.declared.program.Costs.{Costs}
use Rattle.c_tree.specs.declared.program.Input.{Input}
use Rattle.c_tree.specs.Meaning.Blocks.{list_blocks}
use Rattle.c_tree.specs.Meaning.Runs.{Ended, fits, run}

-- the table's cost of a block
abbrev pub block_cost : Costs → BlockName → ℕ
block_cost t b = unwrap_or (option_and_then (λ row. slice_get row b.number) (slice_get t.by_func b.func)) 0

-- the sum of the table's costs over a trace
abbrev pub trace_cost : Costs → List BlockName → ℕ
trace_cost t = sum_by (block_cost t)

-- a number for each block of a function, for each function in order
abbrev pub AreRowsOf : List Func → List (List ℕ) → Type 0
AreRowsOf [] [] = Unit {0}
AreRowsOf [] (row ∷ rows) = ⊥
AreRowsOf (f ∷ fs) [] = ⊥
AreRowsOf (f ∷ fs) (row ∷ rows) = (length row ≡ list_blocks f.body false) × AreRowsOf fs rows

-- costs of this program
pub record AreCostsOf (p : Program) (t : Costs) : Type 0 where
  pub rows : AreRowsOf p.funcs t.by_func

-- each run of a fitting input that ends costs at most b
pub record Above (p : Program) (t : Costs) (b : ℕ) : Type 0 where
  pub each : (i : Input) (u : List BlockName) → IsTrue (fits p i) → run p i ≡ Ended u → trace_cost t u ≤ b

-- the run of this input ends and costs b, and no run that ends costs more
pub record Tight (p : Program) (t : Costs) (i : Input) (b : ℕ) : Type 0 where
  pub input_fits : IsTrue (fits p i)
  pub reached : (u : List BlockName) × (run p i ≡ Ended u) × (trace_cost t u ≡ b)
  pub above : Above p t b

-- the run of no fitting input ends
pub record NoRun (p : Program) : Type 0 where
  pub none : (i : Input) (u : List BlockName) → IsTrue (fits p i) → run p i ≡ Ended u → ⊥
