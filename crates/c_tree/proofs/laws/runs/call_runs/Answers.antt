use Rattle.c_tree.proofs.laws.runs.call_runs.Goals as goal
use Rattle.c_tree.proofs.Worked.WorkedRuns.{call_runs-missing, call_runs-not_used, call_runs-filter}

pub returns-clause-missing : goal.returns-clause-missing
returns-clause-missing c = call_runs-missing

pub returns-clause-not_used : goal.returns-clause-not_used
returns-clause-not_used c = call_runs-not_used

pub returns-clause-filter : goal.returns-clause-filter
returns-clause-filter c = call_runs-filter
