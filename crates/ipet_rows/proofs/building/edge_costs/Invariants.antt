use Rattle.std.proofs.Common.{◌≡◌, ◌++◌, drop}
use Rattle.flow_laws.specs.Graphs.{graph, edges}
use Rattle.ipet_rows.specs.CapsBound.{costs_of_edges}
use Rattle.ipet_rows.proofs.building.edge_costs.Given as goal

-- the costs so far, and then those of the rest, are all
abbrev pub invariant-loop-e : goal.invariant-loop-e
invariant-loop-e l =
    l.costs ++ costs_of_edges l.plan.costs (graph l.plan.program) (drop l.e (edges (graph l.plan.program))) ≡ costs_of_edges l.plan.costs (graph l.plan.program) (edges (graph l.plan.program))
