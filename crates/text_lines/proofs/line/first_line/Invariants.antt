use Rattle.std.proofs.Common.{take}
use Rattle.text_lines.specs.Cutting.{HasNoFeed}
use Rattle.text_lines.proofs.line.first_line.Given as goal

abbrev pub invariant-loop-i : goal.invariant-loop-i
invariant-loop-i l = HasNoFeed (take l.i l.text)
