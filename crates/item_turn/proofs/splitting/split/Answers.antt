use Rattle.std.proofs.Common.{◌≡◌, ◌∷◌, ◌++◌, [], ap, ◌∙◌, sym, subst, List}
use Rattle.c_tree.specs.Keeping.WellFormed.{WellFormed}
use Rattle.flow_graph.specs.Plans.{Planned}
use Rattle.ipet_rows.specs.Sound.{PlanRows}
use Rattle.race_item.specs.declared.region.Child.{Child}
use Rattle.race_item.specs.Regions.{children_of}
use Rattle.race_item.specs.Facts.{IsSplit}
use Rattle.item_turn.proofs.OpenForks.{open_splits}
use Rattle.item_turn.proofs.splitting.split.Goals as goal

pub split-requires : goal.split-requires
split-requires c =
    let item = c.args.item.now in
    let is_plan : c.plan.result.now ≡ item.rows.plan = c.plan.ensures ∙ ap (λ (s : PlanRows). s.plan) c.rows.ensures in
    let formed : WellFormed item.rows.plan.program = subst (λ (plan : Planned). WellFormed plan.program) is_plan c.program.ensures.formed in
    let i = c.args.fork.input in
    let both : c.push-2.new.self ≡ c.in_ok-left.left ∷ c.in_ok-right.right ∷ [] = c.in_ok-push-2.ensures.ok ∙ ap (λ (l : List Child). l ++ c.in_ok-right.right ∷ []) (c.in_ok-push.ensures.ok ∙ ap (λ (l : List Child). l ++ c.in_ok-left.left ∷ []) c.new-children.ensures) in
    subst (λ (l : List Child). IsSplit item.rows.plan item.region (children_of item.region l)) (sym both) (open_splits item c.args.fork.first c.args.fork.second c.in_ok-left.left c.in_ok-right.right formed c.bound.ensures.item c.requires.fork (i, c.requires.driven.fitting, c.requires.driven.driving) c.in_ok-left.ensures c.in_ok-right.ensures)
