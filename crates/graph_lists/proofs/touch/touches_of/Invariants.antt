use Rattle.std.proofs.Common.{◌≡◌, ◌++◌, drop}
use Rattle.graph_lists.specs.Touches.{touches_of}
use Rattle.graph_lists.proofs.touch.touches_of.Given as goal

-- the touches so far, and then the rest, are all
abbrev pub invariant-loop-number : goal.invariant-loop-number
invariant-loop-number l = l.touches ++ touches_of l.number (drop l.number l.loops) l.edge ≡ touches_of 0 l.loops l.edge
