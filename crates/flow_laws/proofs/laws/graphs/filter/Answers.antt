use Rattle.flow_laws.proofs.laws.graphs.filter.Goals as goal
use Rattle.flow_laws.proofs.Driving.WorkedDriving.{filter-call, filter-condition, filter-returned, filter-edges, filter-loops, filter-copies, filter-landing, filter-caps, filter-none_left, filter-all_left, filter-three_left, filter-no_more, filter-fourth, filter-fifth, filter-leaves, filter-enters_again, filter-counted}

pub returns-clause-edges : goal.returns-clause-edges
returns-clause-edges c = filter-edges

pub returns-clause-loops : goal.returns-clause-loops
returns-clause-loops c = filter-loops

pub returns-clause-copies : goal.returns-clause-copies
returns-clause-copies c = filter-copies

pub returns-clause-landing : goal.returns-clause-landing
returns-clause-landing c = filter-landing

pub returns-clause-caps : goal.returns-clause-caps
returns-clause-caps c = filter-caps

pub returns-clause-none_left : goal.returns-clause-none_left
returns-clause-none_left c = filter-none_left

pub returns-clause-all_left : goal.returns-clause-all_left
returns-clause-all_left c = filter-all_left

pub returns-clause-three_left : goal.returns-clause-three_left
returns-clause-three_left c = filter-three_left

pub returns-clause-no_more : goal.returns-clause-no_more
returns-clause-no_more c = filter-no_more

pub returns-clause-fourth : goal.returns-clause-fourth
returns-clause-fourth c = filter-fourth

pub returns-clause-fifth : goal.returns-clause-fifth
returns-clause-fifth c = filter-fifth

pub returns-clause-leaves : goal.returns-clause-leaves
returns-clause-leaves c = filter-leaves

pub returns-clause-enters_again : goal.returns-clause-enters_again
returns-clause-enters_again c = filter-enters_again

pub returns-clause-counted : goal.returns-clause-counted
returns-clause-counted c = filter-counted

pub returns-clause-call : goal.returns-clause-call
returns-clause-call c = filter-call

pub returns-clause-condition : goal.returns-clause-condition
returns-clause-condition c = filter-condition

pub returns-clause-returned : goal.returns-clause-returned
returns-clause-returned c = filter-returned
