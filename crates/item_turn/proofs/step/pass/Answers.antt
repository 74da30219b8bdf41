use Rattle.std.proofs.Common.{sym, subst}
use Rattle.item_turn.specs.declared.trial.Trial.TheVariants.{Refuted}
use Rattle.item_turn.specs.Stretches.{IsStretch}
use Rattle.item_turn.proofs.Undriven.{neither, first_stretch, second_stretch}
use Rattle.item_turn.proofs.Told.{tried, plan_is}
use Rattle.item_turn.proofs.step.pass.Goals as goal

pub refuted-requires : goal.refuted-requires
refuted-requires c =
    let item = c.args.item.now in
    let fork = c.args.fork.now in
    let is_plan = plan_is item.rows c.rows.result.now c.plan-plan.result.now c.plan-plan.ensures c.rows.ensures in
    let one = tried item.rows.plan c.plan-plan.result.now fork.first c.as_slice-first.result.now c.args.limit c.in_ok-try_list.field-0 Refuted is_plan c.as_slice-first.ensures c.in-Refuted.is c.in_ok-try_list.ensures in
    let two = tried item.rows.plan c.plan-plan.result.now fork.second c.as_slice-second.result.now c.args.limit c.in_ok-try_list-in-Refuted.field-0 Refuted is_plan c.as_slice-second.ensures c.in-Refuted-2.is c.in_ok-try_list-in-Refuted.ensures in
    neither item.rows.plan item.region fork.first fork.second c.requires.fork.fork one two

pub along-requires-clause-stretch : goal.along-requires-clause-stretch
along-requires-clause-stretch c =
    let item = c.args.item.now in
    let fork = c.args.fork.now in
    let is_plan = plan_is item.rows c.rows.result.now c.plan-plan.result.now c.plan-plan.ensures c.rows.ensures in
    let one = tried item.rows.plan c.plan-plan.result.now fork.first c.as_slice-first.result.now c.args.limit c.in_ok-try_list.field-0 Refuted is_plan c.as_slice-first.ensures c.in-Refuted.is c.in_ok-try_list.ensures in
    subst (IsStretch item.rows.plan.program item.region) (sym c.as_slice-second.ensures) (second_stretch item.rows.plan item.region fork.first fork.second c.requires.fork.fork one)

pub along-requires-in-Refuted-3-clause-stretch : goal.along-requires-in-Refuted-3-clause-stretch
along-requires-in-Refuted-3-clause-stretch c =
    let item = c.args.item.now in
    let fork = c.args.fork.now in
    let is_plan = plan_is item.rows c.rows.result.now c.plan-plan.result.now c.plan-plan.ensures c.rows.ensures in
    let two = tried item.rows.plan c.plan-plan.result.now fork.second c.as_slice-second.result.now c.args.limit c.in_ok-try_list-in-Driven.field-0 Refuted is_plan c.as_slice-second.ensures c.in-Refuted-3.is c.in_ok-try_list-in-Driven.ensures in
    subst (IsStretch item.rows.plan.program item.region) (sym c.as_slice-first.ensures) (first_stretch item.rows.plan item.region fork.first fork.second c.requires.fork.fork two)
