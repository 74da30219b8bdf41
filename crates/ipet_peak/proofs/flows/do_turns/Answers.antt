-- The same of `do`, whose body comes first.
use Rattle.std.proofs.Common.{◌≡◌, ◌≤◌, ◌+◌, ◌*◌, ◌^◌, [], ◌∷◌, ◌++◌, None, arith, sym, ap, ◌∙◌, subst}
use Rattle.peak_laws.specs.Parts as spec
use Rattle.peak_laws.specs.Flows.{whole, by_first, by_second, amount_by_way, loop_body_amounts, flows}
use Rattle.peak_laws.specs.Magnitudes.{WaysAreAtMost}
use Rattle.ipet_peak.specs.Trees.{part_of, amount_targets}
use Rattle.peak_laws.proofs.Duals.Magnitudes.{most_greater}
use Rattle.ipet_peak.proofs.TreeLayers.{small_ways}
use Rattle.ipet_peak.proofs.PushedFlows.{shares, inner_whole, do_light, do_most}
use Rattle.ipet_peak.proofs.flows.do_turns.Goals as goal

pub turn_cost-y-requires-clause-a : goal.turn_cost-y-requires-clause-a
turn_cost-y-requires-clause-a c = small_ways _ _ _ c.dearest_ways-w.ensures (omega (arith, c.requires.light))

pub overflow_mul-from : goal.overflow_mul-from
overflow_mul-from c =
    let none : c.args.c ≡ c.args.c + 0 = omega arith in
    let y = c.turn_cost-y.ensures ∙ (λ i. spec.turn_cost ((c.from-cost.ensures ∙ none) i) (spec.way_back (c.dearest_ways-w.ensures i))) in
    let k : c.from.result * c.turn_cost-y.result + c.from-cost.result ≤ 2 ^ 125 = subst (λ z. z ≤ 2 ^ 125) (sym (λ i. c.from.ensures i * y i + c.from-cost.ensures i)) (omega (arith, do_light c.args.c c.args.m (part_of c.args.body.now), c.requires.light)) in
    omega (arith, k)

pub overflow_add-from : goal.overflow_add-from
overflow_add-from c =
    let none : c.args.c ≡ c.args.c + 0 = omega arith in
    let y = c.turn_cost-y.ensures ∙ (λ i. spec.turn_cost ((c.from-cost.ensures ∙ none) i) (spec.way_back (c.dearest_ways-w.ensures i))) in
    let k : c.from.result * c.turn_cost-y.result + c.from-cost.result ≤ 2 ^ 125 = subst (λ z. z ≤ 2 ^ 125) (sym (λ i. c.from.ensures i * y i + c.from-cost.ensures i)) (omega (arith, do_light c.args.c c.args.m (part_of c.args.body.now), c.requires.light)) in
    omega (arith, k)

pub more-all-requires-clause-c : goal.more-all-requires-clause-c
more-all-requires-clause-c c =
    let none : c.args.c ≡ c.args.c + 0 = omega arith in
    let y = c.turn_cost-y.ensures ∙ (λ i. spec.turn_cost ((c.from-cost.ensures ∙ none) i) (spec.way_back (c.dearest_ways-w.ensures i))) in
    let k : c.from.result * c.turn_cost-y.result + c.from-cost.result ≤ 2 ^ 125 = subst (λ z. z ≤ 2 ^ 125) (sym (λ i. c.from.ensures i * y i + c.from-cost.ensures i)) (omega (arith, do_light c.args.c c.args.m (part_of c.args.body.now), c.requires.light)) in
    omega (arith, k)

pub more-all-requires-clause-o : goal.more-all-requires-clause-o
more-all-requires-clause-o c =
    let w = c.dearest_ways-w.result in
    let most : WaysAreAtMost w (2 ^ 126) = small_ways _ _ _ c.dearest_ways-w.ensures (omega (arith, c.requires.light)) in
    subst (λ o. Rattle.peak_laws.specs.Magnitudes.WayIsAtMost o (2 ^ 126)) (sym c.back.ensures) (most_greater w.next w.continues (2 ^ 126) most.next most.continues)

pub more-but_one-requires-clause-c : goal.more-but_one-requires-clause-c
more-but_one-requires-clause-c c =
    let none : c.args.c ≡ c.args.c + 0 = omega arith in
    let y = c.turn_cost-y.ensures ∙ (λ i. spec.turn_cost ((c.from-cost.ensures ∙ none) i) (spec.way_back (c.dearest_ways-w.ensures i))) in
    let k : c.from-2.result * c.turn_cost-y.result + c.from-cost.result ≤ 2 ^ 125 = subst (λ z. z ≤ 2 ^ 125) (sym (λ i. c.from-2.ensures i * y i + c.from-cost.ensures i)) (omega (arith, do_light c.args.c c.args.m (part_of c.args.body.now), c.requires.light)) in
    omega (arith, k)

pub more-but_one-requires-clause-o : goal.more-but_one-requires-clause-o
more-but_one-requires-clause-o c =
    let most : WaysAreAtMost c.dearest_ways-w.result (2 ^ 126) = small_ways _ _ _ c.dearest_ways-w.ensures (omega (arith, c.requires.light)) in
    most.breaks

pub overflow_mul-from-3 : goal.overflow_mul-from-3
overflow_mul-from-3 c =
    let fits : whole (amount_targets c.args.a) * (c.from-3.result + 1) ≤ 2 ^ 40 = subst (λ z. whole (amount_targets c.args.a) * (z + 1) ≤ 2 ^ 40) (sym c.from-3.ensures) c.requires.fits in
    let left = shares c.more-all.result c.more-but_one.result c.args.a.next c.by_first-stays.result c.by_second-breaks.result c.by_first-stays.ensures c.by_second-breaks.ensures in
    let k = do_most c.from-3.result c.by_first-stays.result (c.by_second-breaks.result + c.args.a.returns) (whole (amount_targets c.args.a)) 0 None (omega (arith, left)) (λ i. 0) in
    omega (arith, k.0, fits)

pub overflow_add-full : goal.overflow_add-full
overflow_add-full c =
    let fits : whole (amount_targets c.args.a) * (c.from-3.result + 1) ≤ 2 ^ 40 = subst (λ z. whole (amount_targets c.args.a) * (z + 1) ≤ 2 ^ 40) (sym c.from-3.ensures) c.requires.fits in
    let left = shares c.more-all.result c.more-but_one.result c.args.a.next c.by_first-stays.result c.by_second-breaks.result c.by_first-stays.ensures c.by_second-breaks.ensures in
    let k = do_most c.from-3.result c.by_first-stays.result (c.by_second-breaks.result + c.args.a.returns) (whole (amount_targets c.args.a)) c.amount_by_way-full.result c.back-2.result (omega (arith, left)) c.amount_by_way-full.ensures in
    omega (arith, k.1, fits)

pub returns-clause-counts : goal.returns-clause-counts
returns-clause-counts c =
    let p = part_of c.args.body.now in
    let w = c.dearest_ways-w.ensures in
    let r = c.args.a.returns in
    let none : c.args.c ≡ c.args.c + 0 = omega arith in
    let y = c.turn_cost-y.ensures ∙ (λ i. spec.turn_cost ((c.from-cost.ensures ∙ none) i) (spec.way_back (w i))) in
    let all = c.more-all.ensures ∙ (λ i. spec.more (c.from.ensures i * y i + c.from-cost.ensures i) ((c.back.ensures ∙ ap spec.way_back w) i)) in
    let one = c.more-but_one.ensures ∙ (λ i. spec.more (c.from-2.ensures i * y i) (w i).breaks) in
    let stays = c.by_first-stays.ensures ∙ (λ i. by_first (all i) (one i) c.args.a.next) in
    let breaks = c.by_second-breaks.ensures ∙ (λ i. by_second (all i) (one i) c.args.a.next) in
    let full = c.amount_by_way-full.ensures ∙ (λ i. amount_by_way ((c.back-2.ensures ∙ ap spec.way_back w) i) (c.from-3.ensures i * (stays i + (breaks i + r)))) in
    let u = c.loop_body_amounts.ensures ∙ (λ i. loop_body_amounts (w i) (full i + stays i) (breaks i) r) in
    sym (λ i. flows p (u i) ++ (full i ∷ (stays i ∷ [])))

pub returns-clause-fits : goal.returns-clause-fits
returns-clause-fits c =
    let left = shares c.more-all.result c.more-but_one.result c.args.a.next c.by_first-stays.result c.by_second-breaks.result c.by_first-stays.ensures c.by_second-breaks.ensures in
    let f = c.amount_by_way-full.result in
    let s = c.by_first-stays.result in
    let b = c.by_second-breaks.result in
    let r = c.args.a.returns in
    let k = do_most c.from-3.result s (b + r) (whole (amount_targets c.args.a)) f c.back-2.result (omega (arith, left)) c.amount_by_way-full.ensures in
    let most : f + (s + (b + r)) ≤ whole (amount_targets c.args.a) * (c.args.m + 1) = subst (λ z. f + (s + (b + r)) ≤ whole (amount_targets c.args.a) * (z + 1)) c.from-3.ensures k.1 in
    omega (arith, most, ap whole c.loop_body_amounts.ensures, inner_whole c.dearest_ways-w.result (f + s) b r)
