use Rattle.std.proofs.Common.{pos, drop, ◌+ℤ◌}
use Rattle.lin_rows.proofs.Summing.{Reached}
use Rattle.bound_cert.specs.Dual.{weighted_rights}
use Rattle.bound_cert.proofs.dual.right_sides.Given as goal

abbrev pub invariant-loop-i : goal.invariant-loop-i
invariant-loop-i l =
    Reached (λ sum z. sum +ℤ z) (pos 0) (weighted_rights l.rows l.y) l.sum (weighted_rights (drop l.i l.rows) (drop l.i l.y))
