use Rattle.flow_laws.proofs.laws.graphs.two_choices.Goals as goal
use Rattle.flow_laws.proofs.Driving.WorkedDriving.{two_choices-leaving, two_choices-arriving, two_choices-into_exit, two_choices-statements, two_choices-many}
use Rattle.flow_laws.proofs.Graphs.WorkedGraphs.{two_choices-edges, two_choices-blocks, two_choices-caps, two_choices-path, two_choices-price, two_choices-broken, two_choices-entry_costs_nothing, two_choices-guard}

pub returns-clause-edges : goal.returns-clause-edges
returns-clause-edges c = two_choices-edges

pub returns-clause-blocks : goal.returns-clause-blocks
returns-clause-blocks c = two_choices-blocks

pub returns-clause-caps : goal.returns-clause-caps
returns-clause-caps c = two_choices-caps

pub returns-clause-path : goal.returns-clause-path
returns-clause-path c = two_choices-path

pub returns-clause-price : goal.returns-clause-price
returns-clause-price c = two_choices-price

pub returns-clause-broken : goal.returns-clause-broken
returns-clause-broken c = two_choices-broken

pub returns-clause-entry_costs_nothing : goal.returns-clause-entry_costs_nothing
returns-clause-entry_costs_nothing c = two_choices-entry_costs_nothing

pub returns-clause-guard : goal.returns-clause-guard
returns-clause-guard c = two_choices-guard

pub returns-clause-leaving : goal.returns-clause-leaving
returns-clause-leaving c = two_choices-leaving

pub returns-clause-arriving : goal.returns-clause-arriving
returns-clause-arriving c = two_choices-arriving

pub returns-clause-into_exit : goal.returns-clause-into_exit
returns-clause-into_exit c = two_choices-into_exit

pub returns-clause-statements : goal.returns-clause-statements
returns-clause-statements c = two_choices-statements

pub returns-clause-many : goal.returns-clause-many
returns-clause-many c = two_choices-many
