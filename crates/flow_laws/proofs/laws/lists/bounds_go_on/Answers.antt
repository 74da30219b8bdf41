use Rattle.flow_laws.proofs.laws.lists.bounds_go_on.Goals as goal
use Rattle.flow_laws.proofs.Driving.BoundsStep.{left_on, keeps_on, each_on, each_begin, each_by_number}

pub returns-clause-left : goal.returns-clause-left
returns-clause-left c = left_on

pub returns-clause-one : goal.returns-clause-one
returns-clause-one c = keeps_on

pub returns-clause-each : goal.returns-clause-each
returns-clause-each c = each_on

pub returns-clause-by_number : goal.returns-clause-by_number
returns-clause-by_number c = each_by_number

pub returns-clause-begin : goal.returns-clause-begin
returns-clause-begin c = each_begin
