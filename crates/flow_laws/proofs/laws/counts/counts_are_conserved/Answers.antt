use Rattle.flow_laws.proofs.laws.counts.counts_are_conserved.Goals as goal
use Rattle.flow_laws.proofs.Runs.WellFormedPrograms.{entered, passed}

pub returns-clause-entry : goal.returns-clause-entry
returns-clause-entry c = entered

pub returns-clause-nodes : goal.returns-clause-nodes
returns-clause-nodes c = passed
