use Rattle.c_tree.proofs.laws.expressions.choices.Goals as goal
use Rattle.c_tree.proofs.Worked.WorkedExpressions.{choices-converted, choices-second, choices-first, choices-undefined_condition, choices-undefined_choice}

pub returns-clause-converted : goal.returns-clause-converted
returns-clause-converted c = choices-converted

pub returns-clause-second : goal.returns-clause-second
returns-clause-second c = choices-second

pub returns-clause-first : goal.returns-clause-first
returns-clause-first c = choices-first

pub returns-clause-undefined_condition : goal.returns-clause-undefined_condition
returns-clause-undefined_condition c = choices-undefined_condition

pub returns-clause-undefined_choice : goal.returns-clause-undefined_choice
returns-clause-undefined_choice c = choices-undefined_choice
