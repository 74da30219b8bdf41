use Rattle.std.proofs.Common.{◌≡◌, drop, Bool}
use Rattle.graph_lists.specs.Touches.{Counters, counters, is_kept_over}
use Rattle.graph_lists.proofs.touch.keep_each.Given as goal

-- the rest is judged with what is left
abbrev pub invariant-loop-touch : goal.invariant-loop-touch
invariant-loop-touch g =
    (go : Counters → Bool) → is_kept_over g.row (counters g.fn.left) go ≡ is_kept_over (drop g.touch-index g.row) (counters g.left) go
