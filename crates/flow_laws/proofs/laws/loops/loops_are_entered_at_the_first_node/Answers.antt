use Rattle.flow_laws.proofs.laws.loops.loops_are_entered_at_the_first_node.Goals as goal
use Rattle.flow_laws.proofs.Loops.LoopsBounded.{test_within, first_reached}

pub returns-clause-test : goal.returns-clause-test
returns-clause-test c = test_within

pub returns-clause-first : goal.returns-clause-first
returns-clause-first c = first_reached
