use Rattle.bv_fold.proofs.TermFacts.{either_itself, either_none, either_all_left, either_all_right}
use Rattle.bv_fold.proofs.bits.either.Goals as goal

pub returns-then-a-b : goal.returns-then-a-b
returns-then-a-b c = either_itself c.args.terms.now c.args.a c.args.b c.requires.left c.if-a-b.true

pub returns-then-is_constant-2 : goal.returns-then-is_constant-2
returns-then-is_constant-2 c = either_none c.args.terms.now c.args.a c.args.b c.requires.left (c.is_constant-else-is_constant.ensures c.if-is_constant-2.true)

pub returns-then-is_constant-3 : goal.returns-then-is_constant-3
returns-then-is_constant-3 c = either_all_left c.args.terms.now c.args.a c.args.b (c.is_constant-else-is_constant-2.ensures c.if-is_constant-3.true)

pub returns-then-is_constant-4 : goal.returns-then-is_constant-4
returns-then-is_constant-4 c = either_all_right c.args.terms.now c.args.a c.args.b (c.is_constant-else-is_constant-3.ensures c.if-is_constant-4.true)
