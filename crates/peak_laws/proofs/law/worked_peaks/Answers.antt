-- The numbers of `Worked`.
use Rattle.peak_laws.proofs.law.worked_peaks.Goals as goal
use Rattle.peak_laws.proofs.Optima.Worked.{worked-two_choices, worked-two_choices_counts, worked-while, worked-while_counts, worked-do, worked-triangular, worked-nested, worked-once}

pub returns-clause-two_choices : goal.returns-clause-two_choices
returns-clause-two_choices c = worked-two_choices

pub returns-clause-two_choices_counts : goal.returns-clause-two_choices_counts
returns-clause-two_choices_counts c = worked-two_choices_counts

pub returns-clause-whiles : goal.returns-clause-whiles
returns-clause-whiles c = worked-while

pub returns-clause-while_counts : goal.returns-clause-while_counts
returns-clause-while_counts c = worked-while_counts

pub returns-clause-dos : goal.returns-clause-dos
returns-clause-dos c = worked-do

pub returns-clause-triangular : goal.returns-clause-triangular
returns-clause-triangular c = worked-triangular

pub returns-clause-nested : goal.returns-clause-nested
returns-clause-nested c = worked-nested

pub returns-clause-once : goal.returns-clause-once
returns-clause-once c = worked-once
