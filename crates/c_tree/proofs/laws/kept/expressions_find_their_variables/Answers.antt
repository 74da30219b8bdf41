use Rattle.c_tree.proofs.laws.kept.expressions_find_their_variables.Goals as goal
use Rattle.c_tree.proofs.Keeping.Evaluated.{expr_finds, val_gives}

pub returns-clause-there : goal.returns-clause-there
returns-clause-there c = expr_finds

pub returns-clause-value : goal.returns-clause-value
returns-clause-value c = val_gives
