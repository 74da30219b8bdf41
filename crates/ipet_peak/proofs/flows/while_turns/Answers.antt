-- A loop turns so often as its body's caps allow, and costs what it weighs at most.
use Rattle.std.proofs.Common.{◌≤◌, ◌+◌, ◌*◌, ◌^◌, Some, None, arith, sym, ap, ◌∙◌, subst}
use Rattle.peak_laws.specs.Parts as spec
use Rattle.peak_laws.specs.Flows.{whole}
use Rattle.peak_laws.specs.Magnitudes.{WaysAreAtMost}
use Rattle.ipet_peak.specs.Trees.{part_of, amount_targets}
use Rattle.ipet_peak.proofs.TreeLayers.{small_ways}
use Rattle.ipet_peak.proofs.PushedFlows.{shares, inner_whole, while_light, while_most}
use Rattle.ipet_peak.proofs.flows.while_turns.Goals as goal

pub turn_cost-y-requires-clause-a : goal.turn_cost-y-requires-clause-a
turn_cost-y-requires-clause-a c = small_ways _ _ _ c.dearest_ways-w.ensures (omega (arith, c.requires.light))

pub overflow_mul-all : goal.overflow_mul-all
overflow_mul-all c =
    let y = c.turn_cost-y.ensures ∙ (λ i. spec.turn_cost (c.from-cost.ensures i + c.step_cost.ensures.value i) (spec.way_back (c.dearest_ways-w.ensures i))) in
    let k : (c.from.result + 1) * c.turn_cost-y.result + c.from-cost.result ≤ 2 ^ 125 = subst (λ z. z ≤ 2 ^ 125) (sym (λ i. (c.from.ensures i + 1) * y i + c.from-cost.ensures i)) (omega (arith, while_light c.args.c c.args.m c.args.step (part_of c.args.body.now), c.requires.light)) in
    omega (arith, k)

pub overflow_add-all-2 : goal.overflow_add-all-2
overflow_add-all-2 c =
    let y = c.turn_cost-y.ensures ∙ (λ i. spec.turn_cost (c.from-cost.ensures i + c.step_cost.ensures.value i) (spec.way_back (c.dearest_ways-w.ensures i))) in
    let k : (c.from.result + 1) * c.turn_cost-y.result + c.from-cost.result ≤ 2 ^ 125 = subst (λ z. z ≤ 2 ^ 125) (sym (λ i. (c.from.ensures i + 1) * y i + c.from-cost.ensures i)) (omega (arith, while_light c.args.c c.args.m c.args.step (part_of c.args.body.now), c.requires.light)) in
    omega (arith, k)

pub overflow_mul-from : goal.overflow_mul-from
overflow_mul-from c =
    let y = c.turn_cost-y.ensures ∙ (λ i. spec.turn_cost (c.from-cost.ensures i + c.step_cost.ensures.value i) (spec.way_back (c.dearest_ways-w.ensures i))) in
    let k : (c.from-2.result + 1) * c.turn_cost-y.result + c.from-cost.result ≤ 2 ^ 125 = subst (λ z. z ≤ 2 ^ 125) (sym (λ i. (c.from-2.ensures i + 1) * y i + c.from-cost.ensures i)) (omega (arith, while_light c.args.c c.args.m c.args.step (part_of c.args.body.now), c.requires.light)) in
    omega (arith, k)

pub overflow_add-from : goal.overflow_add-from
overflow_add-from c =
    let y = c.turn_cost-y.ensures ∙ (λ i. spec.turn_cost (c.from-cost.ensures i + c.step_cost.ensures.value i) (spec.way_back (c.dearest_ways-w.ensures i))) in
    let k : (c.from-2.result + 1) * c.turn_cost-y.result + c.from-cost.result ≤ 2 ^ 125 = subst (λ z. z ≤ 2 ^ 125) (sym (λ i. (c.from-2.ensures i + 1) * y i + c.from-cost.ensures i)) (omega (arith, while_light c.args.c c.args.m c.args.step (part_of c.args.body.now), c.requires.light)) in
    omega (arith, k)

pub more-but_one-requires-clause-c : goal.more-but_one-requires-clause-c
more-but_one-requires-clause-c c =
    let y = c.turn_cost-y.ensures ∙ (λ i. spec.turn_cost (c.from-cost.ensures i + c.step_cost.ensures.value i) (spec.way_back (c.dearest_ways-w.ensures i))) in
    let k : (c.from-2.result + 1) * c.turn_cost-y.result + c.from-cost.result ≤ 2 ^ 125 = subst (λ z. z ≤ 2 ^ 125) (sym (λ i. (c.from-2.ensures i + 1) * y i + c.from-cost.ensures i)) (omega (arith, while_light c.args.c c.args.m c.args.step (part_of c.args.body.now), c.requires.light)) in
    omega (arith, k)

pub more-but_one-requires-clause-o : goal.more-but_one-requires-clause-o
more-but_one-requires-clause-o c =
    let most : WaysAreAtMost c.dearest_ways-w.result (2 ^ 126) = small_ways _ _ _ c.dearest_ways-w.ensures (omega (arith, c.requires.light)) in
    most.breaks

pub overflow_mul-m-2 : goal.overflow_mul-m-2
overflow_mul-m-2 c =
    let fits : whole (amount_targets c.args.a) * (c.from-m.result + 1) ≤ 2 ^ 40 = subst (λ z. whole (amount_targets c.args.a) * (z + 1) ≤ 2 ^ 40) (sym c.from-m.ensures) c.requires.fits in
    let left = shares (Some ((c.from.result + 1) * c.turn_cost-y.result + c.from-cost.result)) c.more-but_one.result c.args.a.next c.by_first-stays.result c.by_second-breaks.result c.by_first-stays.ensures c.by_second-breaks.ensures in
    let k = while_most c.from-m.result c.by_first-stays.result (c.by_second-breaks.result + c.args.a.returns) (whole (amount_targets c.args.a)) 0 None (omega (arith, left)) (λ i. 0) in
    omega (arith, k.0, fits)

pub overflow_add-m-2 : goal.overflow_add-m-2
overflow_add-m-2 c =
    let fits : whole (amount_targets c.args.a) * (c.from-m.result + 1) ≤ 2 ^ 40 = subst (λ z. whole (amount_targets c.args.a) * (z + 1) ≤ 2 ^ 40) (sym c.from-m.ensures) c.requires.fits in
    let left = shares (Some ((c.from.result + 1) * c.turn_cost-y.result + c.from-cost.result)) c.more-but_one.result c.args.a.next c.by_first-stays.result c.by_second-breaks.result c.by_first-stays.ensures c.by_second-breaks.ensures in
    let k = while_most c.from-m.result c.by_first-stays.result (c.by_second-breaks.result + c.args.a.returns) (whole (amount_targets c.args.a)) 0 None (omega (arith, left)) (λ i. 0) in
    omega (arith, k.0, fits)

pub overflow_add-result : goal.overflow_add-result
overflow_add-result c =
    let fits : whole (amount_targets c.args.a) * (c.from-m.result + 1) ≤ 2 ^ 40 = subst (λ z. whole (amount_targets c.args.a) * (z + 1) ≤ 2 ^ 40) (sym c.from-m.ensures) c.requires.fits in
    let left = shares (Some ((c.from.result + 1) * c.turn_cost-y.result + c.from-cost.result)) c.more-but_one.result c.args.a.next c.by_first-stays.result c.by_second-breaks.result c.by_first-stays.ensures c.by_second-breaks.ensures in
    let k = while_most c.from-m.result c.by_first-stays.result (c.by_second-breaks.result + c.args.a.returns) (whole (amount_targets c.args.a)) c.amount_by_way-full.result c.back.result (omega (arith, left)) c.amount_by_way-full.ensures in
    omega (arith, k.1, fits)

pub returns-clause-fits : goal.returns-clause-fits
returns-clause-fits c =
    let left = shares (Some ((c.from.result + 1) * c.turn_cost-y.result + c.from-cost.result)) c.more-but_one.result c.args.a.next c.by_first-stays.result c.by_second-breaks.result c.by_first-stays.ensures c.by_second-breaks.ensures in
    let k = while_most c.from-m.result c.by_first-stays.result (c.by_second-breaks.result + c.args.a.returns) (whole (amount_targets c.args.a)) c.amount_by_way-full.result c.back.result (omega (arith, left)) c.amount_by_way-full.ensures in
    let most : c.amount_by_way-full.result + (c.by_second-breaks.result + c.args.a.returns) ≤ whole (amount_targets c.args.a) * (c.args.m + 1) = subst (λ z. c.amount_by_way-full.result + (c.by_second-breaks.result + c.args.a.returns) ≤ whole (amount_targets c.args.a) * (z + 1)) c.from-m.ensures k.1 in
    omega (arith, most, ap whole c.loop_body_amounts.ensures, inner_whole c.dearest_ways-w.result c.amount_by_way-full.result c.by_second-breaks.result c.args.a.returns)
