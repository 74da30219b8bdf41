use Rattle.c_tree.proofs.laws.expressions.reads.Goals as goal
use Rattle.c_tree.proofs.Worked.WorkedExpressions.{reads-number, reads-unset, reads-element, reads-at_length, reads-below, reads-far, reads-unset_array}

pub returns-clause-number : goal.returns-clause-number
returns-clause-number c = reads-number

pub returns-clause-unset : goal.returns-clause-unset
returns-clause-unset c = reads-unset

pub returns-clause-element : goal.returns-clause-element
returns-clause-element c = reads-element

pub returns-clause-at_length : goal.returns-clause-at_length
returns-clause-at_length c = reads-at_length

pub returns-clause-below : goal.returns-clause-below
returns-clause-below c = reads-below

pub returns-clause-far : goal.returns-clause-far
returns-clause-far c = reads-far

pub returns-clause-unset_array : goal.returns-clause-unset_array
returns-clause-unset_array c = reads-unset_array
