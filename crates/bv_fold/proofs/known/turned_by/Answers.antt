use Rattle.std.proofs.Common.{Some, ap, ◌∙◌}
use Rattle.bv_fold.proofs.TermFacts.{turned}
use Rattle.bv_fold.proofs.known.turned_by.Goals as goal

pub returns-in-Not : goal.returns-in-Not
returns-in-Not c = turned c.args.terms.now c.args.term c.in-Not.a (rw c.in-Not.is at c.op_at.ensures.below).0 (c.op_at.ensures.op ∙ ap Some c.in-Not.is)
