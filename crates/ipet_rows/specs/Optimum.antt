-- The optimum of implicit path enumeration (Li and Malik): the greatest cost of counts that meet the rows of a
-- program's graph. It is a maximum over all lists of whole counts, one for each edge, and not over paths; the rows are
-- the graph's own.
use Rattle.std.specs.Prelude.{◌≡◌, ◌≤◌, ℕ, List, length, All}
use Rattle.c_tree.specs.declared.program.Costs.{Costs}
use Rattle.c_tree.specs.declared.program.Program.{Program}
use Rattle.flow_laws.specs.Sites.{Site}
use Rattle.flow_laws.specs.Graphs.{graph, edges}
use Rattle.lin_rows.specs.Meeting.{MeetsRow}
use Rattle.lin_rows.specs.Vectors.{cost_by}
use Rattle.ipet_rows.specs.FlowRows.{flow_rows}
use Rattle.ipet_rows.specs.CapsBound.{costs_of_edges}

-- there is a count for each edge of the graph, and they meet every row of it
pub record MeetFlowRows (g : List Site) (x : List ℕ) : Type 0 where
  pub long : length x ≡ length (edges g)
  pub met : All (MeetsRow x) (flow_rows g)

-- what the counts cost: the sum over the edges of the cost of the source's block times the count
abbrev pub cost_of_counts : Costs → List Site → List ℕ → ℕ
cost_of_counts t g x = cost_by (costs_of_edges t g (edges g)) x

-- n is the cost of some counts that meet the rows, and none that meet them cost more
pub record IsGreatest (t : Costs) (g : List Site) (n : ℕ) : Type 0 where
  pub counts : List ℕ
  pub meet : MeetFlowRows g counts
  pub cost : cost_of_counts t g counts ≡ n
  pub above : (x : List ℕ) → MeetFlowRows g x → cost_of_counts t g x ≤ n

-- the optimum of a program with these costs
abbrev pub IpetOptimum : Program → Costs → ℕ → Type 0
IpetOptimum p t n = IsGreatest t (graph p) n
