use Rattle.std.proofs.Common.{◌≡◌, Some, sym, ap, ◌∙◌, subst}
use Rattle.flow_laws.specs.Graphs.{graph, loops}
use Rattle.flow_laws.specs.Paths.{keeps_each}
use Rattle.flow_graph.specs.Plans.{Planned, keeps_all}
use Rattle.ipet_rows.specs.Sound.{PlanRows}
use Rattle.path_walk.specs.Walks.{IsAnswer}
use Rattle.race_item.specs.Trials.{IsRoomOf}
use Rattle.race_item.proofs.Named.{keeps_same}
use Rattle.race_item.proofs.Trials.{unkept, some_fork}
use Rattle.race_item.proofs.fork.next_fork.Goals as goal

pub returns-then-not-keeps : goal.returns-then-not-keeps
returns-then-not-keeps c =
    let item = c.args.item.now in
    let is_plan : c.plan-plan.result.now ≡ item.rows.plan = c.plan-plan.ensures ∙ ap (λ (s : PlanRows). s.plan) c.rows.ensures in
    let kept : c.keeps.result ≡ keeps_each (loops (graph item.rows.plan.program)) item.region.prefix = c.keeps.ensures ∙ (λ i. keeps_all (graph (is_plan i).program) (c.prefix.ensures i)) ∙ keeps_same item.rows.plan.program item.region.prefix c.bound.ensures.item.contiguous in
    unkept item.rows.plan.program item.region (sym kept ∙ c.if-not-keeps.true)

pub returns-in_ok-next-in-Some : goal.returns-in_ok-next-in-Some
returns-in_ok-next-in-Some c =
    let item = c.args.item.now in
    let p = item.rows.plan.program in
    let next = c.in_ok-next-in-Some.next in
    let is_plan : c.plan-plan.result.now ≡ item.rows.plan = c.plan-plan.ensures ∙ ap (λ (s : PlanRows). s.plan) c.rows.ensures in
    let kept : c.keeps.result ≡ keeps_each (loops (graph p)) item.region.prefix = c.keeps.ensures ∙ (λ i. keeps_all (graph (is_plan i).program) (c.prefix.ensures i)) ∙ keeps_same p item.region.prefix c.bound.ensures.item.contiguous in
    let room : IsRoomOf p item.region.cuts item.region.prefix (Some c.in-Some.room) = subst (IsRoomOf p item.region.cuts item.region.prefix) c.in-Some.is (rw c.prefix-2.ensures at c.in_ok-room_behind.ensures) in
    let answer : IsAnswer p item.region.prefix c.in-Some.room next = subst (λ (plan : Planned). IsAnswer plan.program item.region.prefix c.in-Some.room next) is_plan (subst (λ q. IsAnswer c.plan-plan.result.now.program q c.in-Some.room next) c.prefix-in-Some.ensures (subst (λ l. IsAnswer c.plan-plan.result.now.program c.prefix-in-Some.result.now l next) c.as_slice.ensures c.in_ok-next-in-Some.ensures.answers)) in
    some_fork p item.region c.in-Some.room next c.forked.result (sym kept ∙ c.if-not-keeps.false) room.0 room.1 answer c.forked.ensures
