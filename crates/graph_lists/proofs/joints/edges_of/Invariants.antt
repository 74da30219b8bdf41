use Rattle.std.proofs.Common.{◌≡◌, ◌++◌, drop}
use Rattle.graph_lists.specs.Joints.{spot_edges}
use Rattle.graph_lists.proofs.joints.edges_of.Given as goal

-- the edges so far, and then the rest, are all
abbrev pub invariant-loop-from : goal.invariant-loop-from
invariant-loop-from l = l.edges ++ spot_edges l.from (drop l.from l.spots) ≡ spot_edges 0 l.spots
