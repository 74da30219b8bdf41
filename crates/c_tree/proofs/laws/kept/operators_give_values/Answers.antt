use Rattle.c_tree.proofs.laws.kept.operators_give_values.Goals as goal
use Rattle.c_tree.proofs.Keeping.Ranges.{unary_gives, operated_gives}

pub returns-clause-one : goal.returns-clause-one
returns-clause-one c = unary_gives

pub returns-clause-two : goal.returns-clause-two
returns-clause-two c = operated_gives
