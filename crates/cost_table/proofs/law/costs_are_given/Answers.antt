use Rattle.cost_table.proofs.GivenCosts.{costs_are_given}
use Rattle.cost_table.proofs.law.costs_are_given.Goals as goal

pub returns : goal.returns
returns c = costs_are_given
