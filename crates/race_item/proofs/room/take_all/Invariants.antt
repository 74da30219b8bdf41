use Rattle.std.proofs.Common.{◌≡◌, drop}
use Rattle.race_item.specs.Trials.{room_after}
use Rattle.race_item.proofs.room.take_all.Given as goal

-- what is left, and then taken for the rest, is what is left of all
abbrev pub invariant-loop-e : goal.invariant-loop-e
invariant-loop-e l = room_after l.room (drop l.e-index l.list) ≡ room_after l.initial.room l.list
