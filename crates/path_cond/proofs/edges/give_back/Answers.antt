use Rattle.path_cond.proofs.EdgeRuns.{gave_some}
use Rattle.path_cond.proofs.edges.give_back.Goals as goal

pub returns : goal.returns
returns c = gave_some c.args.value.now _ _ c.in-Some.is c.requires c.in_ok-value.ensures
