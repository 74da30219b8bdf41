use Rattle.c_tree.proofs.laws.arithmetic.divisions_are_exact.Goals as goal
use Rattle.c_tree.proofs.Arithmetic.{int_division, division}

pub returns-clause-int : goal.returns-clause-int
returns-clause-int c = int_division

pub returns-clause-unsigned : goal.returns-clause-unsigned
returns-clause-unsigned c = division
