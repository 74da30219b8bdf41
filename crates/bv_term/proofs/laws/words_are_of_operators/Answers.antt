use Rattle.bv_term.proofs.laws.words_are_of_operators.Goals as goal
use Rattle.bv_term.proofs.ValueLaws.{tv_of_op}

pub returns : goal.returns
returns c = tv_of_op
