use Rattle.std.proofs.Common.{sym}
use Rattle.bv_fold.proofs.TermFacts.{operands_there}
use Rattle.bv_fold.proofs.known.op_at.Goals as goal

pub returns-clause-below : goal.returns-clause-below
returns-clause-below c = operands_there c.args.terms.now c.args.term _ c.requires c.len.ensures.store.fits (sym c.op.ensures)
