use Rattle.std.proofs.Common.{◌≡◌, ap, ◌∙◌, sym, subst, Some, None}
use Rattle.flow_laws.specs.Graphs.{graph, loops}
use Rattle.flow_laws.specs.Paths.{keeps_each}
use Rattle.flow_graph.specs.Plans.{Planned, keeps_all}
use Rattle.ipet_rows.specs.Sound.{PlanRows}
use Rattle.path_walk.specs.Walks.{IsAnswer}
use Rattle.race_item.specs.Trials.{IsRoomOf}
use Rattle.race_item.proofs.Named.{keeps_same}
use Rattle.item_turn.specs.Stretches.{IsOnward}
use Rattle.item_turn.proofs.Onwards.{unkept, no_room, onward}
use Rattle.item_turn.proofs.onward.go_on.Goals as goal

pub returns-then-not-keeps : goal.returns-then-not-keeps
returns-then-not-keeps c =
    let item = c.args.item.now in
    let is_plan : c.plan-plan.result.now ≡ item.rows.plan = c.plan-plan.ensures ∙ ap (λ (s : PlanRows). s.plan) c.rows.ensures in
    let kept : c.keeps.result ≡ keeps_each (loops (graph item.rows.plan.program)) c.args.list.now = c.keeps.ensures ∙ ap (λ (plan : Planned). keeps_all (graph plan.program) c.args.list.now) is_plan ∙ keeps_same item.rows.plan.program c.args.list.now c.requires.forced.contiguous in
    unkept item.rows.plan item.region c.args.list.now c.requires (sym kept ∙ c.if-not-keeps.true)

pub returns-in-None : goal.returns-in-None
returns-in-None c =
    let item = c.args.item.now in
    let p = item.rows.plan.program in
    let none : IsRoomOf p item.region.cuts c.args.list.now None = subst (IsRoomOf p item.region.cuts c.args.list.now) c.in-None.is c.in_ok-room_behind.ensures in
    no_room item.rows.plan item.region c.args.list.now c.requires none

pub returns : goal.returns
returns c =
    let item = c.args.item.now in
    let p = item.rows.plan.program in
    let list = c.args.list.now in
    let is_plan : c.plan-plan.result.now ≡ item.rows.plan = c.plan-plan.ensures ∙ ap (λ (s : PlanRows). s.plan) c.rows.ensures in
    let room : IsRoomOf p item.region.cuts list (Some c.in-Some.room) = subst (IsRoomOf p item.region.cuts list) c.in-Some.is c.in_ok-room_behind.ensures in
    let next = c.in_ok-next.next in
    let answer : IsAnswer p list c.in-Some.room next = subst (λ (plan : Planned). IsAnswer plan.program list c.in-Some.room next) is_plan (subst (λ l. IsAnswer c.plan-plan.result.now.program list l next) c.as_slice.ensures c.in_ok-next.ensures.answers) in
    subst (IsOnward item.rows.plan item.region list) (sym c.onward_of.ensures) (onward item.rows.plan item.region list c.in-Some.room next c.requires room.1 answer)
