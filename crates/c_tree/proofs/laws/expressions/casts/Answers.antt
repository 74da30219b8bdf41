use Rattle.c_tree.proofs.laws.expressions.casts.Goals as goal
use Rattle.c_tree.proofs.Worked.WorkedExpressions.{casts-to_int, casts-to_unsigned, casts-of_undefined}

pub returns-clause-to_int : goal.returns-clause-to_int
returns-clause-to_int c = casts-to_int

pub returns-clause-to_unsigned : goal.returns-clause-to_unsigned
returns-clause-to_unsigned c = casts-to_unsigned

pub returns-clause-of_undefined : goal.returns-clause-of_undefined
returns-clause-of_undefined c = casts-of_undefined
