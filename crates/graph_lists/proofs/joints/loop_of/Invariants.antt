use Rattle.std.proofs.Common.{◌≡◌, ◌++◌, drop}
use Rattle.flow_laws.specs.Graphs.{positions}
use Rattle.graph_lists.specs.Joints.{turn_enters}
use Rattle.graph_lists.proofs.joints.loop_of.Given as goal

-- the numbers so far, and then the rest, are all
abbrev pub invariant-loop-number : goal.invariant-loop-number
invariant-loop-number l =
    l.into ++ positions l.number (turn_enters l.turn) (drop l.number l.edges) ≡ positions 0 (turn_enters l.turn) l.edges
