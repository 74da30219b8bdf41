use Rattle.std.proofs.Common.{None, subst, MatchOption}
use Rattle.race_item.specs.Trials.{HasNoFork, IsOnlyFork}
use Rattle.race_item.proofs.Trials.{no_split}
use Rattle.race_item.proofs.fork.by_fork.Goals as goal

pub returns-in-None-clause-none : goal.returns-in-None-clause-none
returns-in-None-clause-none c =
    let p = c.args.item.now.rows.plan.program in
    let r = c.args.item.now.region in
    no_split p r c.args.input.now (subst (λ o. MatchOption o (HasNoFork p r) (λ lists. IsOnlyFork p r lists.0 lists.1)) c.in-None.is c.in_ok-next_fork.ensures)
