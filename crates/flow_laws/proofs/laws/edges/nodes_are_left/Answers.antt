use Rattle.flow_laws.proofs.laws.edges.nodes_are_left.Goals as goal
use Rattle.flow_laws.proofs.Graphs.LeavingEdges.{node_left}
use Rattle.flow_laws.proofs.Counts.ListsJoined.{no_exit}

pub returns-clause-by_an_edge : goal.returns-clause-by_an_edge
returns-clause-by_an_edge c = node_left

pub returns-clause-exit : goal.returns-clause-exit
returns-clause-exit c = no_exit
