use Rattle.std.proofs.Common.{◌≡◌, ◌++◌, drop}
use Rattle.flow_laws.specs.Graphs.{graph, edges}
use Rattle.ipet_rows.specs.FlowRows.{terms, node_factor}
use Rattle.ipet_rows.proofs.building.node_row.Given as goal

-- the terms so far, and then those of the rest, are all
abbrev pub invariant-loop-e : goal.invariant-loop-e
invariant-loop-e l =
    l.terms ++ terms (node_factor l.n) l.e (drop l.e (edges (graph l.plan.program))) ≡ terms (node_factor l.n) 0 (edges (graph l.plan.program))
