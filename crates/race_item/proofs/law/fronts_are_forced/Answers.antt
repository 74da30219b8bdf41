use Rattle.race_item.proofs.Forced.{prefix_forced, front_forced}
use Rattle.race_item.proofs.law.fronts_are_forced.Goals as goal

pub returns-clause-prefix : goal.returns-clause-prefix
returns-clause-prefix c = prefix_forced

pub returns-clause-front : goal.returns-clause-front
returns-clause-front c = front_forced
