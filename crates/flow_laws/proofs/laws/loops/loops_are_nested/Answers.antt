use Rattle.flow_laws.proofs.laws.loops.loops_are_nested.Goals as goal
use Rattle.flow_laws.proofs.Loops.LoopsBounded.{are_nested}

pub returns : goal.returns
returns c = are_nested
