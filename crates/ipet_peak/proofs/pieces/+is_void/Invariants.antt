use Rattle.std.proofs.Common.{All, take}
use Rattle.ipet_peak.specs.Pieces.{IsVoid}
use Rattle.ipet_peak.proofs.pieces.+is_void.Given as goal

abbrev pub decreases-is_void : goal.decreases-is_void
decreases-is_void l = goal.size-is_void l

-- those before are all void
abbrev pub invariant-loop-inner : goal.invariant-loop-inner
invariant-loop-inner l = All IsVoid (take l.inner-index l.list)
