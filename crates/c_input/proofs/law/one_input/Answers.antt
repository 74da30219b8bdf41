use Rattle.c_input.proofs.InputRead.{one_input}
use Rattle.c_input.proofs.law.one_input.Goals as goal

pub returns : goal.returns
returns c = one_input
