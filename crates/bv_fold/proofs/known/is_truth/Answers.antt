use Rattle.bv_fold.proofs.known.is_truth.Goals as goal

pub is_plain_truth-requires : goal.is_plain_truth-requires
is_plain_truth-requires c = (rw c.in-Ite.is at c.op_at.ensures.below).1.0

pub is_plain_truth-requires-then-is_plain_truth : goal.is_plain_truth-requires-then-is_plain_truth
is_plain_truth-requires-then-is_plain_truth c = (rw c.in-Ite.is at c.op_at.ensures.below).1.1.0
