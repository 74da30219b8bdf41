use Rattle.c_tree.proofs.laws.runs.straight_runs.Goals as goal
use Rattle.c_tree.proofs.Worked.WorkedRuns.{straight_runs-return_of_zero, straight_runs-between, straight_runs-above, straight_runs-below, straight_runs-no_overflow, straight_runs-overflows, straight_runs-wraps}

pub returns-clause-return_of_zero : goal.returns-clause-return_of_zero
returns-clause-return_of_zero c = straight_runs-return_of_zero

pub returns-clause-between : goal.returns-clause-between
returns-clause-between c = straight_runs-between

pub returns-clause-above : goal.returns-clause-above
returns-clause-above c = straight_runs-above

pub returns-clause-below : goal.returns-clause-below
returns-clause-below c = straight_runs-below

pub returns-clause-no_overflow : goal.returns-clause-no_overflow
returns-clause-no_overflow c = straight_runs-no_overflow

pub returns-clause-overflows : goal.returns-clause-overflows
returns-clause-overflows c = straight_runs-overflows

pub returns-clause-wraps : goal.returns-clause-wraps
returns-clause-wraps c = straight_runs-wraps
