use Rattle.std.proofs.Common.{◌≡◌, ◌+◌, ◌++◌, drop, length}
use Rattle.graph_lists.specs.Joints.{spot_edges, spot_loops}
use Rattle.graph_lists.proofs.joints.loops_of.Given as goal

-- the loops so far, and then the rest, are all; so are the edges
abbrev pub invariant-loop-spot : goal.invariant-loop-spot
invariant-loop-spot l =
    record { all : l.loops ++ spot_loops l.edges l.first (drop l.spot-index l.spots) ≡ spot_loops l.edges 0 l.spots; count : l.first + length (spot_edges 0 (drop l.spot-index l.spots)) ≡ length (spot_edges 0 l.spots) }
