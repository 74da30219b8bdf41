use Rattle.flow_laws.proofs.laws.paths.bounds_are_counters.Goals as goal
use Rattle.flow_laws.proofs.Driving.DrivenPrefixes.{keeps_is, each_is}

pub returns-clause-one : goal.returns-clause-one
returns-clause-one c = keeps_is

pub returns-clause-each : goal.returns-clause-each
returns-clause-each c = each_is
