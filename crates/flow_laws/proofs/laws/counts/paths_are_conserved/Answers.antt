use Rattle.flow_laws.proofs.laws.counts.paths_are_conserved.Goals as goal
use Rattle.flow_laws.proofs.Counts.ListsConserved.{path_entry, path_nodes}

pub returns-clause-entry : goal.returns-clause-entry
returns-clause-entry c = path_entry

pub returns-clause-nodes : goal.returns-clause-nodes
returns-clause-nodes c = path_nodes
