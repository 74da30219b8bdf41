use Rattle.flow_laws.proofs.laws.edges.edges_beside_each_other.Goals as goal
use Rattle.flow_laws.proofs.Graphs.LeavingEdges.{beside}

pub returns : goal.returns
returns c = beside
