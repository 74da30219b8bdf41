use Rattle.flow_laws.proofs.laws.paths.driving_is_computed.Goals as goal
use Rattle.flow_laws.proofs.Driving.DrivingComputed.{same_driving, drives_ends, place_on, drives_on}

pub returns-clause-same : goal.returns-clause-same
returns-clause-same c = same_driving

pub returns-clause-ends : goal.returns-clause-ends
returns-clause-ends c = drives_ends

pub returns-clause-leads_on : goal.returns-clause-leads_on
returns-clause-leads_on c = place_on

pub returns-clause-goes_on : goal.returns-clause-goes_on
returns-clause-goes_on c = drives_on
