-- What the counts of a path are to its program's rows, caps and costs.
use Rattle.std.specs.Prelude.{◌≡◌, ℕ, List}
use Rattle.c_tree.specs.declared.program.Costs.{Costs}
use Rattle.c_tree.specs.declared.program.Program.{Program}
use Rattle.flow_laws.specs.Graphs.{graph}
use Rattle.flow_laws.specs.Paths.{price}
use Rattle.lin_rows.specs.declared.count_box.CountBox.{CountBox}
use Rattle.lin_rows.specs.Vectors.{IsInBox}
use Rattle.ipet_rows.specs.Counts.{edge_counts}
use Rattle.ipet_rows.specs.Optimum.{MeetFlowRows, cost_of_counts}

-- the counts of the list lie in the box, meet every row of the graph, and cost what the list does
pub record IsCounted (p : Program) (t : Costs) (within : CountBox) (q : List ℕ) : Type 0 where
  pub boxed : IsInBox within (edge_counts p q)
  pub met : MeetFlowRows (graph p) (edge_counts p q)
  pub priced : cost_of_counts t (graph p) (edge_counts p q) ≡ price t (graph p) q
