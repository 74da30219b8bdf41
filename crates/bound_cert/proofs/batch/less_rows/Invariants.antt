use Rattle.std.proofs.Common.{drop}
use Rattle.bound_cert.specs.Dual.{weighted_factors}
use Rattle.bound_cert.proofs.Batches.{Pending}
use Rattle.bound_cert.proofs.batch.less_rows.Given as goal

abbrev pub invariant-loop-i : goal.invariant-loop-i
invariant-loop-i l =
    Pending (weighted_factors l.rows l.y) (weighted_factors (drop l.i l.rows) (drop l.i l.y)) l.first l.fn.reduced l.reduced
