use Rattle.ipet_rows.proofs.law.worked_rows.Goals as goal
use Rattle.ipet_rows.proofs.Worked.{worked-two_choices, worked-call, worked-whiles, worked-dos, worked-itself, worked-once}

pub returns-clause-two_choices : goal.returns-clause-two_choices
returns-clause-two_choices c = worked-two_choices

pub returns-clause-call : goal.returns-clause-call
returns-clause-call c = worked-call

pub returns-clause-whiles : goal.returns-clause-whiles
returns-clause-whiles c = worked-whiles

pub returns-clause-dos : goal.returns-clause-dos
returns-clause-dos c = worked-dos

pub returns-clause-itself : goal.returns-clause-itself
returns-clause-itself c = worked-itself

pub returns-clause-once : goal.returns-clause-once
returns-clause-once c = worked-once
