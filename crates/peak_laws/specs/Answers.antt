-- What the greatest cost of a part that is entered once comes to: counts that attain it, and multipliers that bound it.
-- This project's own.
use Rattle.std.specs.Prelude.{◌≡◌, ℕ, ℤ, pos, List, [], ◌∷◌, ◌++◌, map}
use Rattle.c_tree.specs.declared.program.Costs.{Costs}
use Rattle.c_tree.specs.declared.program.Program.{Program}
use Rattle.flow_laws.specs.Sites.{LoopCopy, Targets}
use Rattle.flow_laws.specs.Graphs.{all_to, graph, edges}
use Rattle.lin_rows.specs.declared.count_box.CountBox.{CountBox}
use Rattle.lin_rows.specs.declared.multipliers.Multipliers.{Multipliers}
use Rattle.lin_rows.specs.declared.objective.Objective.{Objective}
use Rattle.lin_rows.specs.declared.row.Rows.{Rows}
use Rattle.ipet_rows.specs.FlowRows.{flow_rows}
use Rattle.ipet_rows.specs.CapsBound.{costs_of_edges}
use Rattle.peak_laws.specs.ProgramParts.{program_part}
use Rattle.peak_laws.specs.Parts.{Part, from_entry, potentials, CostedLoop, costed_loops}
use Rattle.peak_laws.specs.Flows.{flows}

-- the loops, without their costs
abbrev pub copies_of_loops : List CostedLoop → List LoopCopy
copies_of_loops fs = map (λ f. f.loop_copy) fs

-- the costs of their turns
abbrev pub turn_costs : List CostedLoop → List ℕ
turn_costs fs = map (λ f. f.turn) fs

-- the end costs nothing
abbrev pub at_end : Targets
at_end = all_to 0

-- the part is left once, by its end
abbrev pub once : Targets
once = record { next = 1; breaks = 0; continues = 0; returns = 0 }

-- the cost of the dearest way through it
abbrev pub peak_value : Part → ℕ
peak_value q = from_entry q at_end

-- edge 0 once, and the edges of the part
abbrev pub peak_counts : Part → List ℕ
peak_counts q = 1 ∷ flows q once

-- of edge 0 the value, of each node its potential, and of each loop what its turn costs
abbrev pub peak_multipliers : Part → List ℤ
peak_multipliers q = pos (peak_value q) ∷ (map pos (potentials q at_end) ++ map pos (turn_costs (costed_loops q 2)))

-- the least count of each edge is 0
abbrev pub FromZero : List (ℕ × ℕ) → Type 0
FromZero [] = Unit {0}
FromZero (limit ∷ limits) = (limit.0 ≡ 0) × FromZero limits

-- the rows and the costs of the program, a box from 0 on, and the multipliers of its part
pub record IsPeakDual (p : Program) (t : Costs) (rows : Rows) (objective : Objective) (within : CountBox)
    (by : Multipliers) : Type 0 where
  pub rows_are : rows.rows ≡ flow_rows (graph p)
  pub costs_are : objective.costs ≡ costs_of_edges t (graph p) (edges (graph p))
  pub limits : FromZero within.limits
  pub divisor : by.d ≡ pos 1
  pub multipliers : by.y ≡ peak_multipliers (program_part p t)
