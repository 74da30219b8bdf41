use Rattle.std.proofs.Common.{◌≡◌, ◌+◌, length}
use Rattle.bound_cert.proofs.Edges.{Bounded}
use Rattle.bound_cert.proofs.dual.dual_bound.Given as goal

abbrev pub invariant-loop-costs : goal.invariant-loop-costs
invariant-loop-costs l = record {
  bounded : Bounded l.rows l.objective l.within l.by l.first l.sum l.costs l.limits;
  same : length l.costs ≡ length l.limits;
  below : l.first + length l.costs ≡ length l.objective.costs;
}

abbrev pub decreases-loop-costs : goal.decreases-loop-costs
decreases-loop-costs l = length l.costs
