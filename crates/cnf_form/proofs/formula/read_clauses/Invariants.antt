use Rattle.std.proofs.Common.{length}
use Rattle.cnf_form.specs.Reading.{Keeps}
use Rattle.cnf_form.specs.Places.{InClauses}
use Rattle.cnf_form.proofs.formula.read_clauses.Given as goal

abbrev pub invariant-loop-rest : goal.invariant-loop-rest
invariant-loop-rest l = record {
  keeps : Keeps l.front;
  place : InClauses l.text l.rest l.line l.front;
}

abbrev pub decreases-loop-rest : goal.decreases-loop-rest
decreases-loop-rest l = length l.rest
