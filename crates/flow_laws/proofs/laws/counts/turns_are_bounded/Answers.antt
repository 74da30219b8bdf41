use Rattle.flow_laws.proofs.laws.counts.turns_are_bounded.Goals as goal
use Rattle.flow_laws.proofs.Runs.WellFormedPrograms.{turned}

pub returns : goal.returns
returns c = turned
