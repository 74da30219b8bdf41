use Rattle.race_item.proofs.Forced.{must_forced, walk_forced, past_fork_forced}
use Rattle.race_item.proofs.law.forced_lists_go_on.Goals as goal

pub returns-clause-by_one_edge : goal.returns-clause-by_one_edge
returns-clause-by_one_edge c = must_forced

pub returns-clause-by_extension : goal.returns-clause-by_extension
returns-clause-by_extension c = walk_forced

pub returns-clause-past_fork : goal.returns-clause-past_fork
returns-clause-past_fork c = past_fork_forced
