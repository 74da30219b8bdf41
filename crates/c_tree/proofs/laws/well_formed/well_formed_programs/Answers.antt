use Rattle.c_tree.proofs.laws.well_formed.well_formed_programs.Goals as goal
use Rattle.c_tree.proofs.Worked.WorkedWellFormed.{counted_while_is, triangular_loops_are, clamp_filter_is}

pub returns-clause-counted : goal.returns-clause-counted
returns-clause-counted c = counted_while_is

pub returns-clause-triangle : goal.returns-clause-triangle
returns-clause-triangle c = triangular_loops_are

pub returns-clause-filter : goal.returns-clause-filter
returns-clause-filter c = clamp_filter_is
