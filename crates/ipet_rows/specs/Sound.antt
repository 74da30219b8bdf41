-- Rows of a plan that the counts of each of its driven paths meet.
use Rattle.std.specs.Prelude.{◌≡◌, ℕ, List, length, All}
use Rattle.flow_laws.specs.Graphs.{graph, edges}
use Rattle.flow_graph.specs.Plans.{Planned}
use Rattle.lin_rows.specs.declared.row.Row.{Row}
use Rattle.lin_rows.specs.declared.row.Rows.{Rows}
use Rattle.lin_rows.specs.Names.{NamesBelow, NamesOnce}
use Rattle.ipet_rows.specs.Counts.{HoldsOnPaths, HoldOnPaths}
use Rattle.ipet_rows.specs.CapsBound.{costs_of_edges}

-- rows of a plan, with the cost of each edge
pub record PlanRows : Type 0 where
  pub plan : Planned
  pub rows : List Row
  pub costs : List ℕ

-- what sound rows keep: the counts of each driven path meet them, they name edges of the plan, none twice in a row,
-- and each edge has its cost
pub record AreSoundRows (s : PlanRows) : Type 0 where
  pub hold : HoldOnPaths s.plan.program s.rows
  pub below : All (λ row. NamesBelow (length (edges (graph s.plan.program))) row.terms) s.rows
  pub once : All (λ row. NamesOnce row.terms) s.rows
  pub costs_are : s.costs ≡ costs_of_edges s.plan.costs (graph s.plan.program) (edges (graph s.plan.program))

-- one row of a plan
pub record PlanRow : Type 0 where
  pub plan : Planned
  pub row : Row

-- the rows are over the plan's edges, the counts of each driven path meet them, and each edge has its cost
pub record AreSound (p : Planned) (rows : Rows) (costs : List ℕ) : Type 0 where
  pub edges_are : rows.edges ≡ length (edges (graph p.program))
  pub hold : HoldOnPaths p.program rows.rows
  pub costs_are : costs ≡ costs_of_edges p.costs (graph p.program) (edges (graph p.program))

-- the counts of each driven path meet the row, which names edges of the plan, none twice
pub record IsSound (p : Planned) (row : Row) : Type 0 where
  pub holds : HoldsOnPaths p.program row
  pub below : NamesBelow (length (edges (graph p.program))) row.terms
  pub once : NamesOnce row.terms
