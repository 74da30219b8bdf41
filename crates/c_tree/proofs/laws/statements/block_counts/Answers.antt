use Rattle.c_tree.proofs.laws.statements.block_counts.Goals as goal
use Rattle.c_tree.proofs.Worked.WorkedStatements.{block_counts-run, block_counts-group, block_counts-call, block_counts-jumps, block_counts-choice, block_counts-full_for, block_counts-bare_for, block_counts-do_loop}

pub returns-clause-run : goal.returns-clause-run
returns-clause-run c = block_counts-run

pub returns-clause-group : goal.returns-clause-group
returns-clause-group c = block_counts-group

pub returns-clause-call : goal.returns-clause-call
returns-clause-call c = block_counts-call

pub returns-clause-jumps : goal.returns-clause-jumps
returns-clause-jumps c = block_counts-jumps

pub returns-clause-choice : goal.returns-clause-choice
returns-clause-choice c = block_counts-choice

pub returns-clause-full_for : goal.returns-clause-full_for
returns-clause-full_for c = block_counts-full_for

pub returns-clause-bare_for : goal.returns-clause-bare_for
returns-clause-bare_for c = block_counts-bare_for

pub returns-clause-do_loop : goal.returns-clause-do_loop
returns-clause-do_loop c = block_counts-do_loop
