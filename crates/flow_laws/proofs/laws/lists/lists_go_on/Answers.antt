use Rattle.flow_laws.proofs.laws.lists.lists_go_on.Goals as goal
use Rattle.flow_laws.proofs.Counts.ListsJoined.{goes_on, leads_on, paths_end}

pub returns-clause-by_an_edge : goal.returns-clause-by_an_edge
returns-clause-by_an_edge c = goes_on

pub returns-clause-leads : goal.returns-clause-leads
returns-clause-leads c = leads_on

pub returns-clause-path_ends : goal.returns-clause-path_ends
returns-clause-path_ends c = paths_end
