use Rattle.bound_cert.proofs.Scaling.{Scaled}
use Rattle.bound_cert.proofs.batch.scale.Given as goal

abbrev pub invariant-loop-i : goal.invariant-loop-i
invariant-loop-i l = Scaled l.d l.costs l.i l.reduced
