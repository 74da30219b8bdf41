use Rattle.flow_laws.proofs.laws.graphs.nested_loops.Goals as goal
use Rattle.flow_laws.proofs.Driving.WorkedDriving.{nested_loops-for_copies, nested_loops-do_copies}
use Rattle.flow_laws.proofs.Graphs.WorkedGraphs.{nested_loops-for_edges, nested_loops-for_loops, nested_loops-for_caps, nested_loops-do_edges, nested_loops-do_loops, nested_loops-do_caps}

pub returns-clause-for_edges : goal.returns-clause-for_edges
returns-clause-for_edges c = nested_loops-for_edges

pub returns-clause-for_loops : goal.returns-clause-for_loops
returns-clause-for_loops c = nested_loops-for_loops

pub returns-clause-for_caps : goal.returns-clause-for_caps
returns-clause-for_caps c = nested_loops-for_caps

pub returns-clause-do_edges : goal.returns-clause-do_edges
returns-clause-do_edges c = nested_loops-do_edges

pub returns-clause-do_loops : goal.returns-clause-do_loops
returns-clause-do_loops c = nested_loops-do_loops

pub returns-clause-do_caps : goal.returns-clause-do_caps
returns-clause-do_caps c = nested_loops-do_caps

pub returns-clause-for_copies : goal.returns-clause-for_copies
returns-clause-for_copies c = nested_loops-for_copies

pub returns-clause-do_copies : goal.returns-clause-do_copies
returns-clause-do_copies c = nested_loops-do_copies
