use Rattle.std.proofs.Common.{◌≡◌, ap, ◌∙◌, subst}
use Rattle.flow_graph.specs.Plans.{Planned}
use Rattle.ipet_rows.specs.Sound.{PlanRows}
use Rattle.race_item.specs.Trials.{AreUpperLimits, room_after}
use Rattle.race_item.proofs.Rooms.{room_is}
use Rattle.race_item.proofs.room.room_behind.Goals as goal

pub returns : goal.returns
returns c =
    let item = c.args.item.now in
    let is_plan : c.plan.result.now ≡ item.rows.plan = c.plan.ensures ∙ ap (λ (s : PlanRows). s.plan) c.rows.ensures in
    let limits : AreUpperLimits item.rows.plan.program item.region.cuts c.in_ok-limits.limits = subst (λ cuts. AreUpperLimits item.rows.plan.program cuts c.in_ok-limits.limits) c.cuts.ensures (subst (λ (plan : Planned). AreUpperLimits plan.program c.cuts.result.now c.in_ok-limits.limits) is_plan c.in_ok-limits.ensures) in
    room_is item.rows.plan.program item.region.cuts c.args.list.now c.in_ok-limits.limits c.take_all.result limits c.take_all.ensures
