use Rattle.term_steps.proofs.Growing.{below_read}
use Rattle.term_steps.proofs.OperandRuns.{either_given}
use Rattle.term_steps.proofs.operands.either.Goals as goal

pub where_false-requires-clause-conditions_in : goal.where_false-requires-clause-conditions_in
where_false-requires-clause-conditions_in c = below_read _ _ c.as_slice.ensures c.requires.q_in.conditions c.in_ok-term.ensures.grows

pub returns : goal.returns
returns c = either_given c.args.p c.args.q _ c.in_ok-conditions.conditions c.as_slice.ensures c.in_ok-term.ensures c.in_ok-more.ensures c.requires.p_in.conditions c.in_ok-conditions.ensures
