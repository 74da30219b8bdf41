use Rattle.std.proofs.Common.{◌≡◌, inl, inr, ⊎_elim, refl, sym, ap, ◌∙◌, subst}
use Rattle.std.proofs.lemmas.Bool.{false≢true}
use Rattle.std.proofs.lemmas.Bool.Decides.{Decides-eqb}
use Rattle.std.proofs.lemmas.Slice.Eq.{slice_eq-Decides}
use Rattle.flow_laws.specs.Graphs.{graph, edges}
use Rattle.flow_laws.specs.Paths.{IsPath}
use Rattle.flow_laws.specs.Claims.{Begins}
use Rattle.flow_graph.specs.Plans.{Planned}
use Rattle.ipet_rows.specs.Sound.{PlanRows}
use Rattle.race_item.specs.Items.{list_cost}
use Rattle.race_item.proofs.Trials.{cuts_at}
use Rattle.race_item.proofs.path.may_settle.Goals as goal

pub returns-then-not-keeps_cuts : goal.returns-then-not-keeps_cuts
returns-then-not-keeps_cuts c =
    let item = c.args.item.now in
    let is_plan : c.plan-plan.result.now ≡ item.rows.plan = c.plan-plan.ensures ∙ ap (λ (s : PlanRows). s.plan) c.rows.ensures in
    let cuts = cuts_at item.rows.plan c.plan-plan.result.now item.region c.args.path.now c.cuts.result.now c.keeps_cuts.result is_plan c.cuts.ensures c.keeps_cuts.ensures in
    (λ h. absurd (false≢true h), λ may. sym c.if-not-keeps_cuts.true ∙ cuts.1 may.within)

pub returns-then-price-bound : goal.returns-then-price-bound
returns-then-price-bound c =
    let item = c.args.item.now in
    let path = c.args.path.now in
    let is_plan : c.plan-plan.result.now ≡ item.rows.plan = c.plan-plan.ensures ∙ ap (λ (s : PlanRows). s.plan) c.rows.ensures in
    let cuts = cuts_at item.rows.plan c.plan-plan.result.now item.region path c.cuts.result.now c.keeps_cuts.result is_plan c.cuts.ensures c.keeps_cuts.ensures in
    let cost : c.price.result ≡ list_cost item.rows.plan path = c.price.ensures ∙ ap (λ (plan : Planned). list_cost plan path) is_plan in (
      λ h. record {
        is_path = subst (λ (plan : Planned). IsPath (edges (graph plan.program)) path) is_plan (c.if-not-is_path.ensures.0 refl);
        begins = subst (λ q. Begins q path) c.prefix.ensures (c.if-not-begins.ensures.0 refl);
        within = cuts.0 c.if-not-keeps_cuts.false;
        dearest = inl (sym cost ∙ c.if-price-bound.true ∙ c.bound.ensures.value);
      },
      λ may. refl,
    )

pub returns : goal.returns
returns c =
    let item = c.args.item.now in
    let path = c.args.path.now in
    let is_plan : c.plan-plan.result.now ≡ item.rows.plan = c.plan-plan.ensures ∙ ap (λ (s : PlanRows). s.plan) c.rows.ensures in
    let cuts = cuts_at item.rows.plan c.plan-plan.result.now item.region path c.cuts.result.now c.keeps_cuts.result is_plan c.cuts.ensures c.keeps_cuts.ensures in
    let cost : c.price.result ≡ list_cost item.rows.plan path = c.price.ensures ∙ ap (λ (plan : Planned). list_cost plan path) is_plan in
    let whole = slice_eq-Decides Decides-eqb c.prefix-2.result.now path c.eq.result c.eq.ensures in (
      λ h. record {
        is_path = subst (λ (plan : Planned). IsPath (edges (graph plan.program)) path) is_plan (c.if-not-is_path.ensures.0 refl);
        begins = subst (λ q. Begins q path) c.prefix.ensures (c.if-not-begins.ensures.0 refl);
        within = cuts.0 c.if-not-keeps_cuts.false;
        dearest = inr (sym c.prefix-2.ensures ∙ whole.0 h);
      },
      λ may. ⊎_elim (λ top. absurd (c.if-price-bound.false (cost ∙ top ∙ sym c.bound.ensures.value))) (λ same. whole.1 (c.prefix-2.ensures ∙ same)) may.dearest,
    )
