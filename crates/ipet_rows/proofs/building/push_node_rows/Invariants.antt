use Rattle.std.proofs.Common.{◌≡◌, ◌-◌, ◌++◌, length}
use Rattle.flow_laws.specs.Graphs.{graph, edges}
use Rattle.ipet_rows.specs.FlowRows.{node_rows}
use Rattle.ipet_rows.proofs.building.push_node_rows.Given as goal

-- the rows so far, and then those of the rest, are all
abbrev pub invariant-loop-n : goal.invariant-loop-n
invariant-loop-n l =
    l.rows ++ node_rows (edges (graph l.plan.program)) l.n (length (graph l.plan.program) - l.n) ≡ l.initial.rows ++ node_rows (edges (graph l.plan.program)) 2 (length (graph l.plan.program) - 2)
