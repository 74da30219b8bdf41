use Rattle.std.proofs.Common.{Some, ap, ◌∙◌}
use Rattle.bv_fold.proofs.TermFacts.{opposite}
use Rattle.bv_fold.proofs.known.opposite_by.Goals as goal

pub returns-in-Neg : goal.returns-in-Neg
returns-in-Neg c = opposite c.args.terms.now c.args.term c.in-Neg.a (rw c.in-Neg.is at c.op_at.ensures.below).0 (c.op_at.ensures.op ∙ ap Some c.in-Neg.is)
