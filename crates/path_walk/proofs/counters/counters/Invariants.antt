use Rattle.flow_laws.specs.Graphs.{graph, loops}
use Rattle.path_walk.proofs.Counting.{IsAlong}
use Rattle.path_walk.proofs.counters.counters.Given as goal

abbrev pub invariant-loop-e : goal.invariant-loop-e
invariant-loop-e l = IsAlong (loops (graph l.plan.program)) l.list l.left l.e-index
