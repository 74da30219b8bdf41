use Rattle.std.proofs.Common.{drop, ◌+ℤ◌}
use Rattle.lin_rows.proofs.Summing.{Reached}
use Rattle.bound_cert.specs.Batches.{best_products}
use Rattle.bound_cert.proofs.batch.add_best.Given as goal

abbrev pub invariant-loop-i : goal.invariant-loop-i
invariant-loop-i l =
    Reached (λ s z. s +ℤ z) l.fn.sum (best_products l.reduced l.limits) l.sum (best_products (drop l.i l.reduced) (drop l.i l.limits))
