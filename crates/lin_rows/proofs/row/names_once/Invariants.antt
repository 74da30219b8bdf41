use Rattle.std.proofs.Common.{take}
use Rattle.lin_rows.specs.Names.{NamesOnce}
use Rattle.lin_rows.proofs.row.names_once.Given as goal

abbrev pub invariant-loop-i : goal.invariant-loop-i
invariant-loop-i l = NamesOnce (take l.i l.terms)
