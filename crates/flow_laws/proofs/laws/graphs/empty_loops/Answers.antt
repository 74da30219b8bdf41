use Rattle.flow_laws.proofs.laws.graphs.empty_loops.Goals as goal
use Rattle.flow_laws.proofs.Graphs.WorkedGraphs.{empty_loops-for_edges, empty_loops-for_loops, empty_loops-for_caps, empty_loops-while_edges, empty_loops-while_loops, empty_loops-do_edges, empty_loops-do_loops, empty_loops-do_caps, empty_loops-for_keeps, empty_loops-for_breaks, empty_loops-do_keeps, empty_loops-do_breaks, empty_loops-enters_again}

pub returns-clause-for_edges : goal.returns-clause-for_edges
returns-clause-for_edges c = empty_loops-for_edges

pub returns-clause-for_loops : goal.returns-clause-for_loops
returns-clause-for_loops c = empty_loops-for_loops

pub returns-clause-for_caps : goal.returns-clause-for_caps
returns-clause-for_caps c = empty_loops-for_caps

pub returns-clause-while_edges : goal.returns-clause-while_edges
returns-clause-while_edges c = empty_loops-while_edges

pub returns-clause-while_loops : goal.returns-clause-while_loops
returns-clause-while_loops c = empty_loops-while_loops

pub returns-clause-do_edges : goal.returns-clause-do_edges
returns-clause-do_edges c = empty_loops-do_edges

pub returns-clause-do_loops : goal.returns-clause-do_loops
returns-clause-do_loops c = empty_loops-do_loops

pub returns-clause-do_caps : goal.returns-clause-do_caps
returns-clause-do_caps c = empty_loops-do_caps

pub returns-clause-for_keeps : goal.returns-clause-for_keeps
returns-clause-for_keeps c = empty_loops-for_keeps

pub returns-clause-for_breaks : goal.returns-clause-for_breaks
returns-clause-for_breaks c = empty_loops-for_breaks

pub returns-clause-do_keeps : goal.returns-clause-do_keeps
returns-clause-do_keeps c = empty_loops-do_keeps

pub returns-clause-do_breaks : goal.returns-clause-do_breaks
returns-clause-do_breaks c = empty_loops-do_breaks

pub returns-clause-enters_again : goal.returns-clause-enters_again
returns-clause-enters_again c = empty_loops-enters_again
