use Rattle.flow_laws.proofs.laws.lists.lists_join.Goals as goal
use Rattle.flow_laws.proofs.Counts.ListsJoined.{led_join, follows_begin, counts_join, costs_join}

pub returns-clause-leads : goal.returns-clause-leads
returns-clause-leads c = led_join

pub returns-clause-begins : goal.returns-clause-begins
returns-clause-begins c = follows_begin

pub returns-clause-counts : goal.returns-clause-counts
returns-clause-counts c = counts_join

pub returns-clause-costs : goal.returns-clause-costs
returns-clause-costs c = costs_join
