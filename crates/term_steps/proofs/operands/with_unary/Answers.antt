use Rattle.std.proofs.Common.{arith}
use Rattle.term_steps.proofs.OperandRuns.{also_given}
use Rattle.term_steps.proofs.operands.with_unary.Goals as goal

pub returns : goal.returns
returns c = also_given c.args.p.conditions c.in_ok-conditions.conditions c.in_ok-value.ensures c.requires.conditions (omega arith) c.in_ok-conditions.ensures
