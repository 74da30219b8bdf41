use Rattle.item_turn.specs.declared.trial.Trial.TheVariants.{Refuted, GaveUp}
use Rattle.race_item.proofs.Forced.{prefix_forced}
use Rattle.item_turn.proofs.Undriven.{undriven}
use Rattle.item_turn.proofs.Told.{tried, plan_is, prefix_front, given_up}
use Rattle.item_turn.proofs.settling.heavy.Goals as goal

pub refuted-requires : goal.refuted-requires
refuted-requires c =
    let item = c.args.item.now in
    let is_plan = plan_is item.rows c.rows.result.now c.plan.result.now c.plan.ensures c.rows.ensures in
    let none = tried item.rows.plan c.plan.result.now item.region.prefix c.prefix.result.now c.args.limit c.in_ok-try_list.field-0 Refuted is_plan c.prefix.ensures c.in-Refuted.is c.in_ok-try_list.ensures in
    undriven item.rows.plan item.region item.region.prefix (prefix_forced item.rows.plan item.region c.bound.ensures.item) none

pub park_conflicts-requires : goal.park_conflicts-requires
park_conflicts-requires c =
    let item = c.args.item.now in
    let is_plan = plan_is item.rows c.rows.result.now c.plan.result.now c.plan.ensures c.rows.ensures in
    let up = tried item.rows.plan c.plan.result.now item.region.prefix c.prefix.result.now c.args.limit c.in_ok-try_list.field-0 GaveUp is_plan c.prefix.ensures c.in-GaveUp.is c.in_ok-try_list.ensures in
    given_up item.rows.plan item.region item.region.prefix c.args.limit (prefix_front item.rows.plan item.region c.bound.ensures.item) up
