use Rattle.c_tree.proofs.laws.statements.traces.Goals as goal
use Rattle.c_tree.proofs.Worked.WorkedStatements.{traces-else_list, traces-for_continue, traces-while_break, traces-do_continue, traces-undefined_first, traces-bound_first}

pub returns-clause-else_list : goal.returns-clause-else_list
returns-clause-else_list c = traces-else_list

pub returns-clause-for_continue : goal.returns-clause-for_continue
returns-clause-for_continue c = traces-for_continue

pub returns-clause-while_break : goal.returns-clause-while_break
returns-clause-while_break c = traces-while_break

pub returns-clause-do_continue : goal.returns-clause-do_continue
returns-clause-do_continue c = traces-do_continue

pub returns-clause-undefined_first : goal.returns-clause-undefined_first
returns-clause-undefined_first c = traces-undefined_first

pub returns-clause-bound_first : goal.returns-clause-bound_first
returns-clause-bound_first c = traces-bound_first
