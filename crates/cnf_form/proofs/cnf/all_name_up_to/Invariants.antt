use Rattle.std.proofs.Common.{take, All}
use Rattle.cnf_form.specs.Literals.{AreClauses, NamesUpTo}
use Rattle.cnf_form.proofs.cnf.all_name_up_to.Given as goal

abbrev pub invariant-loop-clause : goal.invariant-loop-clause
invariant-loop-clause l = record {
  each : AreClauses (take l.clause-index l.clauses);
  named : All (NamesUpTo l.variables) (take l.clause-index l.clauses);
}
