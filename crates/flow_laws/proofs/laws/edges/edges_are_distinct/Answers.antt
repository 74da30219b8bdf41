use Rattle.flow_laws.proofs.laws.edges.edges_are_distinct.Goals as goal
use Rattle.flow_laws.proofs.Graphs.EdgesDistinct.{one_number}

pub returns : goal.returns
returns c = one_number
