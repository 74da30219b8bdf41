use Rattle.std.proofs.Common.{refl, sym, ◌∙◌}
use Rattle.std.proofs.lemmas.Bool.{false≢true}
use Rattle.race_item.proofs.Trials.{cuts_at}
use Rattle.item_turn.specs.declared.trial.Trial.TheVariants.{Refuted}
use Rattle.item_turn.proofs.Undriven.{undriven, outside}
use Rattle.item_turn.proofs.Told.{tried, plan_is}
use Rattle.item_turn.proofs.settling.at_path.Goals as goal

pub refuted-requires : goal.refuted-requires
refuted-requires c =
    let item = c.args.item.now in
    let is_plan = plan_is item.rows c.rows.result.now c.plan-plan.result.now c.plan-plan.ensures c.rows.ensures in
    let test = cuts_at item.rows.plan c.plan-plan.result.now item.region c.args.path.now c.cuts.result.now c.keeps_cuts.result is_plan c.cuts.ensures c.keeps_cuts.ensures in
    outside item.rows.plan item.region c.args.path.now c.requires.stretch.forced c.requires.path (λ each. false≢true (sym c.if-not-keeps_cuts.true ∙ test.1 each))

pub found-requires-clause-path : goal.found-requires-clause-path
found-requires-clause-path c =
    let item = c.args.item.now in
    let is_plan = plan_is item.rows c.rows.result.now c.plan-plan.result.now c.plan-plan.ensures c.rows.ensures in
    let test = cuts_at item.rows.plan c.plan-plan.result.now item.region c.args.path.now c.cuts.result.now c.keeps_cuts.result is_plan c.cuts.ensures c.keeps_cuts.ensures in
    record { stretch = c.requires.stretch; is_path = c.requires.path; within = test.0 c.if-not-keeps_cuts.false }

pub refuted-requires-in-Refuted : goal.refuted-requires-in-Refuted
refuted-requires-in-Refuted c =
    let item = c.args.item.now in
    let is_plan = plan_is item.rows c.rows.result.now c.plan-plan.result.now c.plan-plan.ensures c.rows.ensures in
    let none = tried item.rows.plan c.plan-plan.result.now c.args.path.now c.args.path.now c.args.limit c.in_ok-input.field-0 Refuted is_plan refl c.in-Refuted.is c.in_ok-input.ensures in
    undriven item.rows.plan item.region c.args.path.now c.requires.stretch.forced none
