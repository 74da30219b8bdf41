use Rattle.bv_fold.proofs.TermFacts.{negated_right, negated_left}
use Rattle.bv_fold.proofs.known.other_than_zero.Goals as goal

pub returns-then-is_constant : goal.returns-then-is_constant
returns-then-is_constant c =
    λ t is. negated_right c.args.terms.now t c.args.a c.args.b c.requires.left is (c.is_constant.ensures c.if-is_constant.true)

pub returns-then-is_constant-2 : goal.returns-then-is_constant-2
returns-then-is_constant-2 c =
    λ t is. negated_left c.args.terms.now t c.args.a c.args.b c.requires.right is (c.is_constant-else-is_constant.ensures c.if-is_constant-2.true)
