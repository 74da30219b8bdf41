use Rattle.run_laws.proofs.RunCosts.{cost_fits}
use Rattle.run_laws.proofs.costs.costs_of_runs_fit.Goals as goal

pub returns : goal.returns
returns c = cost_fits c.args.program.now c.args.costs.now c.requires.formed c.costs_are_small.ensures
