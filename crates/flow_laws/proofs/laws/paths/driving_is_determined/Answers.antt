use Rattle.flow_laws.proofs.laws.paths.driving_is_determined.Goals as goal
use Rattle.flow_laws.proofs.Runs.RunsAreDrivenPaths.{one_drive}

pub returns : goal.returns
returns c = one_drive
