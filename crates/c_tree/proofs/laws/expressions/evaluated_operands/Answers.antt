use Rattle.c_tree.proofs.laws.expressions.evaluated_operands.Goals as goal
use Rattle.c_tree.proofs.Worked.WorkedExpressions.{evaluated_operands-and, evaluated_operands-or, evaluated_operands-and_both, evaluated_operands-product}

pub returns-clause-and : goal.returns-clause-and
returns-clause-and c = evaluated_operands-and

pub returns-clause-or : goal.returns-clause-or
returns-clause-or c = evaluated_operands-or

pub returns-clause-and_both : goal.returns-clause-and_both
returns-clause-and_both c = evaluated_operands-and_both

pub returns-clause-product : goal.returns-clause-product
returns-clause-product c = evaluated_operands-product
