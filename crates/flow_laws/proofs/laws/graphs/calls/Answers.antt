use Rattle.flow_laws.proofs.laws.graphs.calls.Goals as goal
use Rattle.flow_laws.proofs.Driving.WorkedDriving.{calls-landing}
use Rattle.flow_laws.proofs.Graphs.WorkedGraphs.{calls-edges, calls-blocks, calls-chains, calls-caps, calls-end, calls-none, calls-nested, calls-nested_chains, calls-nested_caps}

pub returns-clause-edges : goal.returns-clause-edges
returns-clause-edges c = calls-edges

pub returns-clause-blocks : goal.returns-clause-blocks
returns-clause-blocks c = calls-blocks

pub returns-clause-chains : goal.returns-clause-chains
returns-clause-chains c = calls-chains

pub returns-clause-caps : goal.returns-clause-caps
returns-clause-caps c = calls-caps

pub returns-clause-end : goal.returns-clause-end
returns-clause-end c = calls-end

pub returns-clause-none : goal.returns-clause-none
returns-clause-none c = calls-none

pub returns-clause-nested : goal.returns-clause-nested
returns-clause-nested c = calls-nested

pub returns-clause-nested_chains : goal.returns-clause-nested_chains
returns-clause-nested_chains c = calls-nested_chains

pub returns-clause-nested_caps : goal.returns-clause-nested_caps
returns-clause-nested_caps c = calls-nested_caps

pub returns-clause-landing : goal.returns-clause-landing
returns-clause-landing c = calls-landing
