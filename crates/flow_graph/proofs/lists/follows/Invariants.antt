use Rattle.std.proofs.Common.{◌≡◌, drop}
use Rattle.std.specs.Prelude.{is_some}
use Rattle.flow_laws.specs.Paths.{end_node}
use Rattle.flow_graph.proofs.lists.follows.Given as goal

-- the rest leads on from where the list has led
abbrev pub invariant-loop-number : goal.invariant-loop-number
invariant-loop-number l = is_some (end_node l.edges l.at (drop l.number-index l.list)) ≡ is_some (end_node l.edges 0 l.list)
