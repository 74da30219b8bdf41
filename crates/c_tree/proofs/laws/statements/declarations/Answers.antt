use Rattle.c_tree.proofs.laws.statements.declarations.Goals as goal
use Rattle.c_tree.proofs.Worked.WorkedStatements.{declarations-no_initialiser, declarations-own_initialiser, declarations-own_list, declarations-converted, declarations-filled}

pub returns-clause-no_initialiser : goal.returns-clause-no_initialiser
returns-clause-no_initialiser c = declarations-no_initialiser

pub returns-clause-own_initialiser : goal.returns-clause-own_initialiser
returns-clause-own_initialiser c = declarations-own_initialiser

pub returns-clause-own_list : goal.returns-clause-own_list
returns-clause-own_list c = declarations-own_list

pub returns-clause-converted : goal.returns-clause-converted
returns-clause-converted c = declarations-converted

pub returns-clause-filled : goal.returns-clause-filled
returns-clause-filled c = declarations-filled
