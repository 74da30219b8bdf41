use Rattle.flow_laws.proofs.laws.counts.lists_are_conserved.Goals as goal
use Rattle.flow_laws.proofs.Counts.ListsConserved.{list_ends, list_closed}

pub returns-clause-ends : goal.returns-clause-ends
returns-clause-ends c = list_ends

pub returns-clause-closed : goal.returns-clause-closed
returns-clause-closed c = list_closed
