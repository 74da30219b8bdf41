use Rattle.c_tree.proofs.laws.expressions.types.Goals as goal
use Rattle.c_tree.proofs.Worked.WorkedExpressions.{types-sum, types-left_shift, types-right_shift, types-relation, types-connective, types-not, types-negation, types-choice, types-name}

pub returns-clause-sum : goal.returns-clause-sum
returns-clause-sum c = types-sum

pub returns-clause-left_shift : goal.returns-clause-left_shift
returns-clause-left_shift c = types-left_shift

pub returns-clause-right_shift : goal.returns-clause-right_shift
returns-clause-right_shift c = types-right_shift

pub returns-clause-relation : goal.returns-clause-relation
returns-clause-relation c = types-relation

pub returns-clause-connective : goal.returns-clause-connective
returns-clause-connective c = types-connective

pub returns-clause-not : goal.returns-clause-not
returns-clause-not c = types-not

pub returns-clause-negation : goal.returns-clause-negation
returns-clause-negation c = types-negation

pub returns-clause-choice : goal.returns-clause-choice
returns-clause-choice c = types-choice

pub returns-clause-name : goal.returns-clause-name
returns-clause-name c = types-name
