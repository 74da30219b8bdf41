-- The ways of a loop are made of those of its body.
use Rattle.std.proofs.Common.{arith, ◌≤◌, ◌+◌, ◌*◌, ◌^◌, ap, sym, ◌∙◌, subst}
use Rattle.peak_laws.specs.Parts as spec
use Rattle.peak_laws.specs.Magnitudes.{cap_cost}
use Rattle.ipet_peak.specs.Trees.{part_of}
use Rattle.ipet_peak.proofs.TreeLayers.{small_ways, keeps_at, tree-While}
use Rattle.ipet_peak.proofs.PushedFlows.{while_light}
use Rattle.ipet_peak.proofs.tree.while_tree.Goals as goal

pub dearest_ways-body-requires : goal.dearest_ways-body-requires
dearest_ways-body-requires c = keeps_at _ _ c.get.ensures c.requires.a

pub turn_cost-turn-requires-clause-a : goal.turn_cost-turn-requires-clause-a
turn_cost-turn-requires-clause-a c =
    small_ways c.get.result.now _ _ c.dearest_ways-body.ensures (omega (arith, c.requires.room, ap (λ y. cap_cost (part_of y)) c.get.ensures))

pub while_ways-ways-requires-clause-room : goal.while_ways-ways-requires-clause-room
while_ways-ways-requires-clause-room c =
    let p = part_of c.args.a in
    let body = c.dearest_ways-body.ensures ∙ ap (λ y. spec.dearest_ways (part_of y)) c.get.ensures in
    let y = c.turn_cost-turn.ensures ∙ (λ i. spec.turn_cost (c.from-cost.ensures i + c.step_cost.ensures.value i) (spec.way_back (body i))) in
    subst (λ z. z ≤ 2 ^ 126) (sym (λ i. (c.from.ensures i + 1) * y i + c.from-cost.ensures i)) (omega (arith, while_light c.args.c c.args.m c.args.step p, c.requires.room))

pub while_ways-ways-requires-clause-a : goal.while_ways-ways-requires-clause-a
while_ways-ways-requires-clause-a c =
    small_ways c.get.result.now _ _ c.dearest_ways-body.ensures (omega (arith, c.requires.room, ap (λ y. cap_cost (part_of y)) c.get.ensures))

pub returns : goal.returns
returns c =
    let body = c.dearest_ways-body.ensures ∙ ap (λ y. spec.dearest_ways (part_of y)) c.get.ensures in
    let y = c.turn_cost-turn.ensures ∙ (λ i. spec.turn_cost (c.from-cost.ensures i + c.step_cost.ensures.value i) (spec.way_back (body i))) in
    tree-While _ _ _ _ _ _ c.in_ok-new.ensures (c.while_ways-ways.ensures ∙ (λ i. spec.while_ways (c.from-cost.ensures i) (c.from.ensures i) (y i) (body i))) c.requires.a
