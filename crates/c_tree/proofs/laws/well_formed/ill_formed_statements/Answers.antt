use Rattle.c_tree.proofs.laws.well_formed.ill_formed_statements.Goals as goal
use Rattle.c_tree.proofs.Worked.WorkedWellFormed.{stray_break, stray_continue, bound_of_zero, no_callee}

pub returns-clause-stray_break : goal.returns-clause-stray_break
returns-clause-stray_break c = stray_break

pub returns-clause-stray_continue : goal.returns-clause-stray_continue
returns-clause-stray_continue c = stray_continue

pub returns-clause-bound_of_zero : goal.returns-clause-bound_of_zero
returns-clause-bound_of_zero c = bound_of_zero

pub returns-clause-no_callee : goal.returns-clause-no_callee
returns-clause-no_callee c = no_callee
