use Rattle.std.proofs.Common.{◌≡◌, drop}
use Rattle.flow_laws.specs.Graphs.{graph, edges}
use Rattle.flow_laws.specs.Paths.{end_node}
use Rattle.race_item.proofs.path.end_of.Given as goal

-- the rest leads on from where the list has led
abbrev pub invariant-loop-e : goal.invariant-loop-e
invariant-loop-e l = end_node (edges (graph l.plan.program)) l.at (drop l.e-index l.list) ≡ end_node (edges (graph l.plan.program)) 0 l.list
