use Rattle.std.proofs.Common.{◌≡◌, ℕ, ◌-◌, List, [], ◌∷◌, ◌++◌, length, take, sym, ap, ◌∙◌, subst}
use Rattle.std.proofs.lemmas.Bool.{false≢true}
use Rattle.flow_graph.specs.Plans.{Planned}
use Rattle.ipet_rows.specs.Sound.{PlanRows}
use Rattle.race_item.specs.declared.region.Child.{Child}
use Rattle.race_item.specs.declared.settlement.Conclusion.TheVariants.{Split}
use Rattle.race_item.specs.Regions.{children_of}
use Rattle.race_item.specs.Facts.{IsSplit}
use Rattle.race_item.specs.Forks.{child_behind, SplitsAt}
use Rattle.race_item.specs.Trials.{IsLightAndDriven}
use Rattle.race_item.proofs.Forks.{fork_splits}
use Rattle.race_item.proofs.Trials.{stem_is, splits_nowhere, splits_at, child_by, two_children}
use Rattle.race_item.proofs.fork.split_at.Goals as goal

pub returns-then-not-branch-clause-none : goal.returns-then-not-branch-clause-none
returns-then-not-branch-clause-none c =
    let item = c.args.item.now in
    let fork = c.requires.fork in
    let is_plan : c.plan.result.now ≡ item.rows.plan = c.plan.ensures ∙ ap (λ (s : PlanRows). s.plan) c.rows.ensures in
    let q : List ℕ = take (c.len.result - 1) c.as_slice.result.now in
    let is : q ≡ fork.stem = (λ i. take (c.len.ensures i - 1) (c.as_slice.ensures i)) ∙ stem_is c.args.first fork.stem fork.left fork.first in
    splits_nowhere item.rows.plan.program item.region c.args.input.now c.args.first c.args.second q c.requires is
    (λ tried. let here : IsLightAndDriven c.plan.result.now.program q c.args.input.now = subst (λ (plan : Planned). IsLightAndDriven plan.program q c.args.input.now) (sym is_plan) tried in false≢true (sym c.if-not-branch.true ∙ c.in_ok-drives.ensures.1 here))

pub split-requires : goal.split-requires
split-requires c =
    let item = c.args.item.now in
    let fork = c.requires.fork in
    let r = item.region in
    let is_plan : c.plan.result.now ≡ item.rows.plan = c.plan.ensures ∙ ap (λ (s : PlanRows). s.plan) c.rows.ensures in
    let q : List ℕ = take (c.len.result - 1) c.as_slice.result.now in
    let is : q ≡ fork.stem = (λ i. take (c.len.ensures i - 1) (c.as_slice.ensures i)) ∙ stem_is c.args.first fork.stem fork.left fork.first in
    let tried : IsLightAndDriven item.rows.plan.program q c.args.input.now = subst (λ (plan : Planned). IsLightAndDriven plan.program q c.args.input.now) is_plan (c.in_ok-drives.ensures.0 c.if-not-branch.false) in
    let splits = splits_at item.rows.plan.program r c.args.input.now c.args.first c.args.second q fork is tried in
    let left : c.in_ok-left.left ≡ child_behind r fork.stem fork.left = c.in_ok-left.ensures ∙ (λ i. child_by (c.cuts.ensures i) (fork.first i) (c.bound-bound.ensures.value i)) in
    let right : c.in_ok-right.right ≡ child_behind r fork.stem fork.right = c.in_ok-right.ensures ∙ (λ i. child_by (c.cuts-2.ensures i) (fork.second i) (c.bound-bound.ensures.value i)) in
    let both = two_children c.new-children.result c.push.new.self c.push-2.new.self c.in_ok-left.left c.in_ok-right.right (child_behind r fork.stem fork.left) (child_behind r fork.stem fork.right) c.new-children.ensures c.in_ok-push.ensures.ok c.in_ok-push-2.ensures.ok left right in
    subst (λ (l : List Child). IsSplit item.rows.plan r (children_of r l)) (sym both) (fork_splits item.rows.plan r c.args.input.now fork.stem fork.left fork.right c.bound-bound.ensures.item splits)

pub returns-clause-split : goal.returns-clause-split
returns-clause-split c =
    let item = c.args.item.now in
    let fork = c.requires.fork in
    let r = item.region in
    let is_plan : c.plan.result.now ≡ item.rows.plan = c.plan.ensures ∙ ap (λ (s : PlanRows). s.plan) c.rows.ensures in
    let q : List ℕ = take (c.len.result - 1) c.as_slice.result.now in
    let is : q ≡ fork.stem = (λ i. take (c.len.ensures i - 1) (c.as_slice.ensures i)) ∙ stem_is c.args.first fork.stem fork.left fork.first in
    let tried : IsLightAndDriven item.rows.plan.program q c.args.input.now = subst (λ (plan : Planned). IsLightAndDriven plan.program q c.args.input.now) is_plan (c.in_ok-drives.ensures.0 c.if-not-branch.false) in
    let left : c.in_ok-left.left ≡ child_behind r fork.stem fork.left = c.in_ok-left.ensures ∙ (λ i. child_by (c.cuts.ensures i) (fork.first i) (c.bound-bound.ensures.value i)) in
    let right : c.in_ok-right.right ≡ child_behind r fork.stem fork.right = c.in_ok-right.ensures ∙ (λ i. child_by (c.cuts-2.ensures i) (fork.second i) (c.bound-bound.ensures.value i)) in
    let both = two_children c.new-children.result c.push.new.self c.push-2.new.self c.in_ok-left.left c.in_ok-right.right (child_behind r fork.stem fork.left) (child_behind r fork.stem fork.right) c.new-children.ensures c.in_ok-push.ensures.ok c.in_ok-push-2.ensures.ok left right in
    record {
      stem = fork.stem;
      left = fork.left;
      right = fork.right;
      splits = splits_at item.rows.plan.program r c.args.input.now c.args.first c.args.second q fork is tried;
      is = c.split.ensures.conclusion ∙ ap Split both;
    }
