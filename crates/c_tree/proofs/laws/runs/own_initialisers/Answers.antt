use Rattle.c_tree.proofs.laws.runs.own_initialisers.Goals as goal
use Rattle.c_tree.proofs.Worked.WorkedRuns.{own_initialisers-no_turn, own_initialisers-first_turn, own_initialisers-second_turn, own_initialisers-argument, own_initialisers-argument_again, own_initialisers-other_argument}

pub returns-clause-no_turn : goal.returns-clause-no_turn
returns-clause-no_turn c = own_initialisers-no_turn

pub returns-clause-first_turn : goal.returns-clause-first_turn
returns-clause-first_turn c = own_initialisers-first_turn

pub returns-clause-second_turn : goal.returns-clause-second_turn
returns-clause-second_turn c = own_initialisers-second_turn

pub returns-clause-argument : goal.returns-clause-argument
returns-clause-argument c = own_initialisers-argument

pub returns-clause-argument_again : goal.returns-clause-argument_again
returns-clause-argument_again c = own_initialisers-argument_again

pub returns-clause-other_argument : goal.returns-clause-other_argument
returns-clause-other_argument c = own_initialisers-other_argument
