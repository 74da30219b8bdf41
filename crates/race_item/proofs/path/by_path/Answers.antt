use Rattle.std.proofs.Common.{◌≡◌, refl, sym, ap, ◌∙◌, subst}
use Rattle.c_tree.specs.Keeping.WellFormed.{WellFormed}
use Rattle.flow_graph.specs.Plans.{Planned}
use Rattle.ipet_rows.specs.Sound.{PlanRows}
use Rattle.race_item.specs.declared.settlement.Conclusion.TheVariants.{Found}
use Rattle.race_item.specs.Items.{list_cost}
use Rattle.race_item.specs.Facts.{IsFound}
use Rattle.race_item.specs.Trials.{IsLightAndDriven}
use Rattle.race_item.proofs.Forks.{path_finds}
use Rattle.race_item.proofs.Trials.{may_find}
use Rattle.race_item.proofs.path.by_path.Goals as goal

pub found-requires : goal.found-requires
found-requires c =
    let item = c.args.item.now in
    let path = c.args.path.now in
    let is_plan : c.plan-plan.result.now ≡ item.rows.plan = c.plan-plan.ensures ∙ ap (λ (s : PlanRows). s.plan) c.rows.ensures in
    let formed : WellFormed item.rows.plan.program = subst (λ (plan : Planned). WellFormed plan.program) is_plan c.program.ensures.formed in
    let tried : IsLightAndDriven item.rows.plan.program path c.args.input = subst (λ (plan : Planned). IsLightAndDriven plan.program path c.args.input) is_plan (c.in_ok-drives.ensures.0 c.if-not-branch.false) in
    let finds = may_find item.rows.plan item.region path c.args.input formed (c.if-not-may_settle.ensures.0 refl) tried in
    let cost : c.price-cost.result ≡ list_cost item.rows.plan path = c.price-cost.ensures ∙ ap (λ (plan : Planned). list_cost plan path) is_plan in
    subst (λ n. IsFound item.rows.plan item.region c.args.input n) (sym cost) (path_finds item.rows.plan item.region path c.args.input finds)

pub returns-clause-found : goal.returns-clause-found
returns-clause-found c =
    let item = c.args.item.now in
    let path = c.args.path.now in
    let is_plan : c.plan-plan.result.now ≡ item.rows.plan = c.plan-plan.ensures ∙ ap (λ (s : PlanRows). s.plan) c.rows.ensures in
    let formed : WellFormed item.rows.plan.program = subst (λ (plan : Planned). WellFormed plan.program) is_plan c.program.ensures.formed in
    let tried : IsLightAndDriven item.rows.plan.program path c.args.input = subst (λ (plan : Planned). IsLightAndDriven plan.program path c.args.input) is_plan (c.in_ok-drives.ensures.0 c.if-not-branch.false) in
    let cost : c.price-cost.result ≡ list_cost item.rows.plan path = c.price-cost.ensures ∙ ap (λ (plan : Planned). list_cost plan path) is_plan in
    record {
      finds = may_find item.rows.plan item.region path c.args.input formed (c.if-not-may_settle.ensures.0 refl) tried;
      is = c.found.ensures.conclusion ∙ ap (λ n. Found c.args.input n) cost;
    }
