use Rattle.race_item.proofs.Rooms.{AreFirst}
use Rattle.race_item.proofs.room.upper_limits.Given as goal

abbrev pub invariant-loop-e : goal.invariant-loop-e
invariant-loop-e l = AreFirst l.plan.program l.cuts l.limits l.e
