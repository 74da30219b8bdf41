use Rattle.std.proofs.Common.{◌≡◌, drop}
use Rattle.graph_lists.specs.Touches.{counters, none_entered, is_kept_by}
use Rattle.graph_lists.proofs.touch.keeps_all.Given as goal

-- the rest is judged with what is left
abbrev pub invariant-loop-number : goal.invariant-loop-number
invariant-loop-number g = is_kept_by g.touches (counters g.left) (drop g.number-index g.list) ≡ is_kept_by g.touches none_entered g.list
