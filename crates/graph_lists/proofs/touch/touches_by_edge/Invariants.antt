use Rattle.std.proofs.Common.{◌≡◌, ◌++◌, drop}
use Rattle.graph_lists.specs.Touches.{all_touches}
use Rattle.graph_lists.proofs.touch.touches_by_edge.Given as goal

-- the rows so far, and then the rest, are all
abbrev pub invariant-loop-number : goal.invariant-loop-number
invariant-loop-number l = l.all ++ all_touches l.loops l.number (drop l.number l.edges) ≡ all_touches l.loops 0 l.edges
