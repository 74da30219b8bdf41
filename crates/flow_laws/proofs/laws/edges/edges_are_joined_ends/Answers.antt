use Rattle.flow_laws.proofs.laws.edges.edges_are_joined_ends.Goals as goal
use Rattle.flow_laws.proofs.Graphs.GraphJoined.{same_edges}

pub returns : goal.returns
returns c = same_edges
