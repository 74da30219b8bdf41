use Rattle.std.proofs.Common.{take}
use Rattle.ipet_peak.proofs.Grown.{Listed}
use Rattle.ipet_peak.proofs.pieces.function_pieces.Given as goal

abbrev pub invariant-loop-func : goal.invariant-loop-func
invariant-loop-func l = Listed l.costs (take l.func l.funcs) l.all
