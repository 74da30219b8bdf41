use Rattle.std.proofs.Common.{◌≡◌, ◌++◌, drop}
use Rattle.flow_laws.specs.Graphs.{graph, edges}
use Rattle.ipet_rows.specs.CapsBound.{caps_of_edges}
use Rattle.ipet_rows.proofs.caps.limits.Given as goal

-- the limits so far, and then those of the rest, are all
abbrev pub invariant-loop-e : goal.invariant-loop-e
invariant-loop-e l =
    l.limits ++ caps_of_edges (graph l.plan.program) (drop l.e (edges (graph l.plan.program))) ≡ caps_of_edges (graph l.plan.program) (edges (graph l.plan.program))
