use Rattle.std.proofs.Common.{refl}
use Rattle.case_maker.specs.Draws.{next_state}
use Rattle.case_maker.proofs.law.worked_states.Goals as goal

pub returns : goal.returns
unfolding next_state
returns c = refl
