use Rattle.flow_laws.proofs.laws.paths.driven_lists.Goals as goal
use Rattle.flow_laws.proofs.Driving.DrivenPrefixes.{driven_follows, driven_front}
use Rattle.flow_laws.proofs.Driving.DrivingComputed.{list_begin, driven_is}

pub returns-clause-follow : goal.returns-clause-follow
returns-clause-follow c = driven_follows

pub returns-clause-begin : goal.returns-clause-begin
returns-clause-begin c = driven_front

pub returns-clause-some_begin : goal.returns-clause-some_begin
returns-clause-some_begin c = list_begin

pub returns-clause-paths : goal.returns-clause-paths
returns-clause-paths c = driven_is
