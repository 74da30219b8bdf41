use Rattle.std.proofs.Common.{◌≡◌, drop, length}
use Rattle.path_walk.specs.Counters.{after_touches}
use Rattle.path_walk.proofs.counters.count_each.Given as goal

-- what was counted, and then the rest, is all
abbrev pub invariant-loop-touch : goal.invariant-loop-touch
invariant-loop-touch l = record {
  as_many : length l.left ≡ length l.initial.left;
  rest : after_touches l.left (drop l.touch-index l.touches) ≡ after_touches l.initial.left l.touches;
}
