use Rattle.c_tree.proofs.laws.statements.assignments.Goals as goal
use Rattle.c_tree.proofs.Worked.WorkedStatements.{assignments-converted, assignments-compound, assignments-compound_unset, assignments-overflow, assignments-element, assignments-outside, assignments-below, assignments-undefined_index, assignments-undefined_value, assignments-nothing}

pub returns-clause-converted : goal.returns-clause-converted
returns-clause-converted c = assignments-converted

pub returns-clause-compound : goal.returns-clause-compound
returns-clause-compound c = assignments-compound

pub returns-clause-compound_unset : goal.returns-clause-compound_unset
returns-clause-compound_unset c = assignments-compound_unset

pub returns-clause-overflow : goal.returns-clause-overflow
returns-clause-overflow c = assignments-overflow

pub returns-clause-element : goal.returns-clause-element
returns-clause-element c = assignments-element

pub returns-clause-outside : goal.returns-clause-outside
returns-clause-outside c = assignments-outside

pub returns-clause-below : goal.returns-clause-below
returns-clause-below c = assignments-below

pub returns-clause-undefined_index : goal.returns-clause-undefined_index
returns-clause-undefined_index c = assignments-undefined_index

pub returns-clause-undefined_value : goal.returns-clause-undefined_value
returns-clause-undefined_value c = assignments-undefined_value

pub returns-clause-nothing : goal.returns-clause-nothing
returns-clause-nothing c = assignments-nothing
