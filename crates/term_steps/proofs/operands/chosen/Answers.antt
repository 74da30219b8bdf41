use Rattle.std.proofs.Common.{arith}
use Rattle.term_steps.proofs.Growing.{below_read}
use Rattle.term_steps.proofs.OperandRuns.{chosen_given}
use Rattle.term_steps.proofs.operands.chosen.Goals as goal

pub where_true-requires-clause-conditions_in : goal.where_true-requires-clause-conditions_in
where_true-requires-clause-conditions_in c = below_read _ _ c.as_slice.ensures c.requires.p_in.conditions c.in_ok-term.ensures.grows

pub where_false-requires-clause-conditions_in : goal.where_false-requires-clause-conditions_in
where_false-requires-clause-conditions_in c = below_read _ _ c.as_slice-2.ensures c.requires.q_in.conditions (omega (arith, c.in_ok-term.ensures.grows, c.in_ok-first.ensures.grows))

pub returns : goal.returns
returns c = chosen_given c.args.c c.args.p c.args.q _ _ c.in_ok-sides.sides c.in_ok-conditions.conditions c.common.ensures c.as_slice.ensures c.as_slice-2.ensures c.in_ok-term.ensures c.in_ok-first.ensures c.in_ok-second.ensures c.requires.c_in.conditions c.in_ok-sides.ensures c.in_ok-conditions.ensures
