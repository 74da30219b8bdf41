use Rattle.std.proofs.Common.{◌≡◌, drop}
use Rattle.std.specs.List.{list_all}
use Rattle.path_walk.specs.Counters.{may_touch}
use Rattle.path_walk.proofs.counters.may_touch_each.Given as goal

-- what was looked at is kept
abbrev pub invariant-loop-touch : goal.invariant-loop-touch
invariant-loop-touch l = list_all (may_touch l.left) (drop l.touch-index l.touches) ≡ list_all (may_touch l.left) l.touches
