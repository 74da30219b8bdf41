use Rattle.flow_laws.proofs.laws.counts.counts_are_within_caps.Goals as goal
use Rattle.flow_laws.proofs.Runs.WellFormedPrograms.{capped}

pub returns : goal.returns
returns c = capped
