use Rattle.std.proofs.Common.{arith}
use Rattle.race_item.proofs.Rooms.{all_limits}
use Rattle.race_item.proofs.room.upper_limits.Goals as goal

pub returns : goal.returns
returns c =
    all_limits c.args.plan.now.program c.args.cuts.now c.loop-e.limits c.loop-e.e c.loop-e.invariant (omega (arith, c.loop-e-test.false, c.edges-e-end.ensures.count, c.loop-e.auto.e-end))
