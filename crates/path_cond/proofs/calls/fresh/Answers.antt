use Rattle.path_cond.proofs.CallRuns.{fresh_is}
use Rattle.path_cond.proofs.calls.fresh.Goals as goal

pub returns-in_ok-elements-in-Some : goal.returns-in_ok-elements-in-Some
returns-in_ok-elements-in-Some c = fresh_is c.args.local.now.ty c.in-Some.count c.args.local.now.length c.in-Some.is c.requires c.in_ok-elements-in-Some.ensures
