use Rattle.std.proofs.Common.{◌≡◌, ◌+◌, ◌++◌, drop, length}
use Rattle.graph_lists.specs.Joints.{spot_edges}
use Rattle.graph_lists.specs.Leaving.{all_outs}
use Rattle.graph_lists.proofs.onward.outs_by_node.Given as goal

-- the nodes so far, and then the rest, are all; so are the edges
abbrev pub invariant-loop-spot : goal.invariant-loop-spot
invariant-loop-spot l =
    record { whole : l.all ++ all_outs l.first (drop l.spot-index l.spots) ≡ all_outs 0 l.spots; count : l.first + length (spot_edges 0 (drop l.spot-index l.spots)) ≡ length (spot_edges 0 l.spots) }
