use Rattle.std.proofs.Common.{length}
use Rattle.cnf_form.specs.Places.{InComments}
use Rattle.cnf_form.proofs.formula.read_opening.Given as goal

abbrev pub invariant-loop-rest : goal.invariant-loop-rest
invariant-loop-rest l = InComments l.text l.rest l.line

abbrev pub decreases-loop-rest : goal.decreases-loop-rest
decreases-loop-rest l = length l.rest
