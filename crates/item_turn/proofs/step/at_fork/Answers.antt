use Rattle.std.proofs.Common.{◌-◌, take, ◌∙◌}
use Rattle.item_turn.specs.declared.trial.Trial.TheVariants.{Driven, Refuted}
use Rattle.race_item.proofs.Trials.{stem_is}
use Rattle.item_turn.proofs.Undriven.{undriven}
use Rattle.item_turn.proofs.Told.{tried, plan_is}
use Rattle.item_turn.proofs.step.at_fork.Goals as goal

pub returns-in-Driven : goal.returns-in-Driven
returns-in-Driven c =
    let item = c.args.item.now in
    let f = c.requires.fork in
    let is_plan = plan_is item.rows c.rows.result.now c.plan.result.now c.plan.ensures c.rows.ensures in
    let driven = tried item.rows.plan c.plan.result.now f.stem _ c.args.limit c.in_ok-input.field-0 (Driven c.in-Driven.input) is_plan ((λ i. take (c.len.ensures i - 1) (c.as_slice.ensures i)) ∙ stem_is c.args.first f.stem f.left f.first) c.in-Driven.is c.in_ok-input.ensures in
    record { fork = f; driven = driven }

pub refuted-requires : goal.refuted-requires
refuted-requires c =
    let item = c.args.item.now in
    let f = c.requires.fork in
    let is_plan = plan_is item.rows c.rows.result.now c.plan.result.now c.plan.ensures c.rows.ensures in
    let none = tried item.rows.plan c.plan.result.now f.stem _ c.args.limit c.in_ok-input.field-0 Refuted is_plan ((λ i. take (c.len.ensures i - 1) (c.as_slice.ensures i)) ∙ stem_is c.args.first f.stem f.left f.first) c.in-Refuted.is c.in_ok-input.ensures in
    undriven item.rows.plan item.region f.stem f.stretch.forced none
