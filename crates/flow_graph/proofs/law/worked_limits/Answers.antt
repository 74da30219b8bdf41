use Rattle.flow_graph.proofs.law.worked_limits.Goals as goal
use Rattle.flow_graph.proofs.Worked.{worked-nodes, worked-edges, worked-copies, worked-filter, worked-at_the_cap, worked-past_the_cap}

pub returns-clause-nodes : goal.returns-clause-nodes
returns-clause-nodes c = worked-nodes

pub returns-clause-edges : goal.returns-clause-edges
returns-clause-edges c = worked-edges

pub returns-clause-copies : goal.returns-clause-copies
returns-clause-copies c = worked-copies

pub returns-clause-filter : goal.returns-clause-filter
returns-clause-filter c = worked-filter

pub returns-clause-at_the_cap : goal.returns-clause-at_the_cap
returns-clause-at_the_cap c = worked-at_the_cap

pub returns-clause-past_the_cap : goal.returns-clause-past_the_cap
returns-clause-past_the_cap c = worked-past_the_cap
