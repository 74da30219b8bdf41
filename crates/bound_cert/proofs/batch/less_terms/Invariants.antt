use Rattle.std.proofs.Common.{drop}
use Rattle.bound_cert.specs.Dual.{weighted_terms}
use Rattle.bound_cert.proofs.Batches.{Pending}
use Rattle.bound_cert.proofs.batch.less_terms.Given as goal

abbrev pub invariant-loop-named : goal.invariant-loop-named
invariant-loop-named l =
    Pending (weighted_terms l.y l.terms) (weighted_terms l.y (drop l.named-index l.terms)) l.first l.fn.reduced l.reduced
