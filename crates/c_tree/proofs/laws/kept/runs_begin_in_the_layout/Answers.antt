use Rattle.c_tree.proofs.laws.kept.runs_begin_in_the_layout.Goals as goal
use Rattle.c_tree.proofs.Keeping.Begun.{entry_begins, globals_begin, arguments_begin, count_begins}

pub returns-clause-entry : goal.returns-clause-entry
returns-clause-entry c = entry_begins

pub returns-clause-globals : goal.returns-clause-globals
returns-clause-globals c = globals_begin

pub returns-clause-values : goal.returns-clause-values
returns-clause-values c = arguments_begin

pub returns-clause-count : goal.returns-clause-count
returns-clause-count c = count_begins
