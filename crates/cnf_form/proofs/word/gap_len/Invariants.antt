use Rattle.std.proofs.Common.{take}
use Rattle.cnf_form.specs.Words.{AreGaps}
use Rattle.cnf_form.proofs.word.gap_len.Given as goal

abbrev pub invariant-loop-i : goal.invariant-loop-i
invariant-loop-i l = AreGaps (take l.i l.text)
