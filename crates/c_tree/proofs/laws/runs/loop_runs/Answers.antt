use Rattle.c_tree.proofs.laws.runs.loop_runs.Goals as goal
use Rattle.c_tree.proofs.Worked.WorkedRuns.{loop_runs-while_ten, loop_runs-while_none, loop_runs-while_over, loop_runs-do_three, loop_runs-do_once, loop_runs-do_over, loop_runs-triangle}

pub returns-clause-while_ten : goal.returns-clause-while_ten
returns-clause-while_ten c = loop_runs-while_ten

pub returns-clause-while_none : goal.returns-clause-while_none
returns-clause-while_none c = loop_runs-while_none

pub returns-clause-while_over : goal.returns-clause-while_over
returns-clause-while_over c = loop_runs-while_over

pub returns-clause-do_three : goal.returns-clause-do_three
returns-clause-do_three c = loop_runs-do_three

pub returns-clause-do_once : goal.returns-clause-do_once
returns-clause-do_once c = loop_runs-do_once

pub returns-clause-do_over : goal.returns-clause-do_over
returns-clause-do_over c = loop_runs-do_over

pub returns-clause-triangle : goal.returns-clause-triangle
returns-clause-triangle c = loop_runs-triangle
