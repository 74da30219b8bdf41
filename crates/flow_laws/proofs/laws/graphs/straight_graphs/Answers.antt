use Rattle.flow_laws.proofs.laws.graphs.straight_graphs.Goals as goal
use Rattle.flow_laws.proofs.Graphs.WorkedGraphs.{straight_graphs-none, straight_graphs-groups}

pub returns-clause-none : goal.returns-clause-none
returns-clause-none c = straight_graphs-none

pub returns-clause-groups : goal.returns-clause-groups
returns-clause-groups c = straight_graphs-groups
