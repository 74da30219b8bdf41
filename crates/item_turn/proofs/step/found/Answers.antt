use Rattle.std.proofs.Common.{◌≡◌, ap, ◌∙◌, sym, subst}
use Rattle.c_tree.specs.Keeping.WellFormed.{WellFormed}
use Rattle.flow_graph.specs.Plans.{Planned}
use Rattle.ipet_rows.specs.Sound.{PlanRows}
use Rattle.race_item.specs.Items.{list_cost}
use Rattle.race_item.specs.Facts.{IsFound}
use Rattle.item_turn.proofs.Undriven.{only_is_found}
use Rattle.item_turn.proofs.step.found.Goals as goal

pub found-requires : goal.found-requires
found-requires c =
    let item = c.args.item.now in
    let is_plan : c.plan-plan.result.now ≡ item.rows.plan = c.plan-plan.ensures ∙ ap (λ (s : PlanRows). s.plan) c.rows.ensures in
    let formed : WellFormed item.rows.plan.program = subst (λ (plan : Planned). WellFormed plan.program) is_plan c.program.ensures.formed in
    let cost : c.price-cost.result ≡ list_cost item.rows.plan c.args.path.now = c.price-cost.ensures ∙ ap (λ (plan : Planned). list_cost plan c.args.path.now) is_plan in
    subst (IsFound item.rows.plan item.region c.args.input) (sym cost) (only_is_found item c.args.path.now c.args.input formed c.requires.path c.requires.driven)
