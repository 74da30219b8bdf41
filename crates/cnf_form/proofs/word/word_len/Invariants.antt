use Rattle.std.proofs.Common.{take}
use Rattle.cnf_form.specs.Words.{IsSolid}
use Rattle.cnf_form.proofs.word.word_len.Given as goal

abbrev pub invariant-loop-i : goal.invariant-loop-i
invariant-loop-i l = IsSolid (take l.i l.text)
