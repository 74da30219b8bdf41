use Rattle.std.proofs.Common.{take}
use Rattle.cnf_form.specs.Literals.{NamesOnce}
use Rattle.cnf_form.proofs.clause.names_once.Given as goal

abbrev pub invariant-loop-i : goal.invariant-loop-i
invariant-loop-i l = NamesOnce (take l.i l.literals)
