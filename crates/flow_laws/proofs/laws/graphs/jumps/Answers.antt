use Rattle.flow_laws.proofs.laws.graphs.jumps.Goals as goal
use Rattle.flow_laws.proofs.Graphs.WorkedGraphs.{jumps-in_while, jumps-in_do, jumps-in_for, jumps-without_step, jumps-while_loops, jumps-do_loops, jumps-for_loops}

pub returns-clause-in_while : goal.returns-clause-in_while
returns-clause-in_while c = jumps-in_while

pub returns-clause-in_do : goal.returns-clause-in_do
returns-clause-in_do c = jumps-in_do

pub returns-clause-in_for : goal.returns-clause-in_for
returns-clause-in_for c = jumps-in_for

pub returns-clause-without_step : goal.returns-clause-without_step
returns-clause-without_step c = jumps-without_step

pub returns-clause-while_loops : goal.returns-clause-while_loops
returns-clause-while_loops c = jumps-while_loops

pub returns-clause-do_loops : goal.returns-clause-do_loops
returns-clause-do_loops c = jumps-do_loops

pub returns-clause-for_loops : goal.returns-clause-for_loops
returns-clause-for_loops c = jumps-for_loops
