use Rattle.flow_laws.proofs.laws.paths.runs_are_driven_paths.Goals as goal
use Rattle.flow_laws.proofs.Runs.WellFormedPrograms.{to_path, to_run}

pub returns-clause-to_path : goal.returns-clause-to_path
returns-clause-to_path c = to_path

pub returns-clause-to_run : goal.returns-clause-to_run
returns-clause-to_run c = to_run
