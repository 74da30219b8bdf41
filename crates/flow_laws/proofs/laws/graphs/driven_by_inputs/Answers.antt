use Rattle.flow_laws.proofs.laws.graphs.driven_by_inputs.Goals as goal
use Rattle.flow_laws.proofs.Driving.WorkedDriving.{driven_by_inputs-path, driven_by_inputs-none, driven_by_inputs-begin, driven_by_inputs-guard, driven_by_inputs-not_contiguous, driven_by_inputs-both, driven_by_inputs-filter, driven_by_inputs-too_few, driven_by_inputs-other_mode}

pub returns-clause-path : goal.returns-clause-path
returns-clause-path c = driven_by_inputs-path

pub returns-clause-none : goal.returns-clause-none
returns-clause-none c = driven_by_inputs-none

pub returns-clause-begin : goal.returns-clause-begin
returns-clause-begin c = driven_by_inputs-begin

pub returns-clause-guard : goal.returns-clause-guard
returns-clause-guard c = driven_by_inputs-guard

pub returns-clause-not_contiguous : goal.returns-clause-not_contiguous
returns-clause-not_contiguous c = driven_by_inputs-not_contiguous

pub returns-clause-both : goal.returns-clause-both
returns-clause-both c = driven_by_inputs-both

pub returns-clause-filter : goal.returns-clause-filter
returns-clause-filter c = driven_by_inputs-filter

pub returns-clause-too_few : goal.returns-clause-too_few
returns-clause-too_few c = driven_by_inputs-too_few

pub returns-clause-other_mode : goal.returns-clause-other_mode
returns-clause-other_mode c = driven_by_inputs-other_mode
