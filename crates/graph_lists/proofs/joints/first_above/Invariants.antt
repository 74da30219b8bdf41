use Rattle.std.proofs.Common.{◌≡◌, ◌^◌, drop}
use Rattle.graph_lists.specs.Joints.{spot_above}
use Rattle.graph_lists.proofs.joints.first_above.Given as goal

-- the first of the rest is the first of all
abbrev pub invariant-loop-spot : goal.invariant-loop-spot
invariant-loop-spot l = spot_above (2 ^ 40) (drop l.spot-index l.spots) ≡ spot_above (2 ^ 40) l.spots
