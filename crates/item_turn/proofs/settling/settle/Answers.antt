use Rattle.std.proofs.Common.{subst}
use Rattle.item_turn.specs.Stretches.{IsOnward}
use Rattle.item_turn.proofs.settling.settle.Goals as goal

pub at_fork-requires-clause-fork : goal.at_fork-requires-clause-fork
at_fork-requires-clause-fork c =
    let item = c.args.item.now in
    let on = subst (IsOnward item.rows.plan item.region c.prefix-2.result.now) c.in-Fork.is c.in_ok-go_on.ensures in
    record { fork = on.0; front = on.1.front c.prefix-2.ensures }
