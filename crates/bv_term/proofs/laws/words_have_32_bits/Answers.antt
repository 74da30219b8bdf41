use Rattle.bv_term.proofs.laws.words_have_32_bits.Goals as goal
use Rattle.bv_term.proofs.ValueLaws.{fitting_small}

pub returns : goal.returns
returns c = fitting_small
