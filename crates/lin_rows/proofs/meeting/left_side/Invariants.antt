use Rattle.std.proofs.Common.{pos, drop, ◌+ℤ◌}
use Rattle.lin_rows.specs.Meeting.{products}
use Rattle.lin_rows.proofs.Summing.{Reached}
use Rattle.lin_rows.proofs.meeting.left_side.Given as goal

abbrev pub invariant-loop-edge : goal.invariant-loop-edge
invariant-loop-edge l =
    Reached (λ sum z. sum +ℤ z) (pos 0) (products l.terms l.counts) l.sum (products (drop l.edge-index l.terms) l.counts)
