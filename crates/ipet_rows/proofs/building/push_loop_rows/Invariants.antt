use Rattle.std.proofs.Common.{◌≡◌, ◌++◌, drop}
use Rattle.flow_laws.specs.Graphs.{graph, edges, loops}
use Rattle.ipet_rows.specs.FlowRows.{loop_rows}
use Rattle.ipet_rows.proofs.building.push_loop_rows.Given as goal

-- the rows so far, and then those of the rest, are all
abbrev pub invariant-loop-l : goal.invariant-loop-l
invariant-loop-l l =
    l.rows ++ loop_rows (edges (graph l.plan.program)) (drop l.l-index (loops (graph l.plan.program))) ≡ l.initial.rows ++ loop_rows (edges (graph l.plan.program)) (loops (graph l.plan.program))
