use Rattle.c_tree.proofs.laws.runs.undefined_runs.Goals as goal
use Rattle.c_tree.proofs.Worked.WorkedRuns.{undefined_runs-by_zero, undefined_runs-least, undefined_runs-least_rest, undefined_runs-guarded, undefined_runs-guard_holds, undefined_runs-outside, undefined_runs-inside}

pub returns-clause-by_zero : goal.returns-clause-by_zero
returns-clause-by_zero c = undefined_runs-by_zero

pub returns-clause-least : goal.returns-clause-least
returns-clause-least c = undefined_runs-least

pub returns-clause-least_rest : goal.returns-clause-least_rest
returns-clause-least_rest c = undefined_runs-least_rest

pub returns-clause-guarded : goal.returns-clause-guarded
returns-clause-guarded c = undefined_runs-guarded

pub returns-clause-guard_holds : goal.returns-clause-guard_holds
returns-clause-guard_holds c = undefined_runs-guard_holds

pub returns-clause-outside : goal.returns-clause-outside
returns-clause-outside c = undefined_runs-outside

pub returns-clause-inside : goal.returns-clause-inside
returns-clause-inside c = undefined_runs-inside
