-- The counts of a tree are its own and those of its children, each left so often as its share says.
use Rattle.std.proofs.Common.{rules, arith, ◌+◌, ◌*◌, ap, sym, ◌∙◌, subst}
use Rattle.ipet_peak.specs.declared.tree.Tree.{the_lemmas}
use Rattle.peak_laws.specs.Parts as spec
use Rattle.peak_laws.specs.Flows as counts
use Rattle.peak_laws.specs.Magnitudes.{cap_cost}
use Rattle.ipet_peak.specs.Trees.{part_of, amount_targets, FitsCaps}
use Rattle.peak_laws.proofs.Attaining.Conserved.{then_whole, choice_whole, body_whole}
use Rattle.ipet_peak.proofs.TreeLayers.{room_then, room_choice, room_while, room_do, room_body, keeps_then, keeps_choice, keeps_while, keeps_do, keeps_body, keeps_at}
use Rattle.ipet_peak.proofs.PushedFlows.{then_most, fit_less, fit_then, fit_choice, fit_while, fit_do, fit_body, none_added, two_added, three_added, four_added, flows_nothing, flows_then, flows_choice, flows_while, flows_do}
use Rattle.ipet_peak.proofs.flows.+push_flows.Goals as goal

pub push_flows-requires : goal.push_flows-requires
push_flows-requires t c =
    let light = (room_then _ _ _ _ _ c.in-Then.is c.requires.light).0 in
    let p = c.get-in-Then-2.result.now in
    let k = amount_targets c.args.a in
    let fit : FitsCaps (part_of p) (counts.whole k) = subst (λ y. FitsCaps (part_of y) (counts.whole k)) (sym c.get-in-Then-2.ensures) (fit_then _ _ _ _ _ c.in-Then.is c.requires.fit).0 in
    let same = ap counts.whole c.then_shares-shares.ensures.first ∙ then_whole (spec.dearest_ways (part_of c.get.result.now)) (spec.dearest_ways (part_of c.get-in-Then.result.now)) k in
    let s = keeps_then _ _ _ _ c.in-Then.is c.requires.keeps in
    (search (rules, the_lemmas), (keeps_at _ _ c.get-in-Then-2.ensures s.first, (omega (arith, light, ap (λ y. cap_cost (part_of y)) c.get-in-Then-2.ensures), fit_less (part_of p) _ (counts.whole k) (omega (arith, same)) fit)))

pub push_flows-requires-in-Then : goal.push_flows-requires-in-Then
push_flows-requires-in-Then t c =
    let light = (room_then _ _ _ _ _ c.in-Then.is c.requires.light).1 in
    let q = c.get-in-Then-3.result.now in
    let k = amount_targets c.args.a in
    let fit : FitsCaps (part_of q) (counts.whole k) = subst (λ y. FitsCaps (part_of y) (counts.whole k)) (sym c.get-in-Then-3.ensures) (fit_then _ _ _ _ _ c.in-Then.is c.requires.fit).1 in
    let most = then_most (spec.dearest_ways (part_of c.get.result.now)) (spec.dearest_ways (part_of c.get-in-Then.result.now)) k in
    let s = keeps_then _ _ _ _ c.in-Then.is c.requires.keeps in
    (search (rules, the_lemmas), (keeps_at _ _ c.get-in-Then-3.ensures s.second, (omega (arith, light, ap (λ y. cap_cost (part_of y)) c.get-in-Then-3.ensures), fit_less (part_of q) _ (counts.whole k) (omega (arith, most, ap counts.whole c.then_shares-shares.ensures.second)) fit)))

pub whole-requires : goal.whole-requires
whole-requires t c =
    omega (arith, c.requires.fit.entries, ap counts.whole c.choice_shares-shares.ensures.first, choice_whole (spec.dearest_ways (part_of c.get-in-Choice.result.now)) (spec.dearest_ways (part_of c.get-in-Choice-2.result.now)) (amount_targets c.args.a))

pub whole-requires-in-Choice : goal.whole-requires-in-Choice
whole-requires-in-Choice t c =
    omega (arith, c.requires.fit.entries, ap counts.whole c.choice_shares-shares.ensures.second, choice_whole (spec.dearest_ways (part_of c.get-in-Choice.result.now)) (spec.dearest_ways (part_of c.get-in-Choice-2.result.now)) (amount_targets c.args.a))

pub push_flows-requires-in-Choice : goal.push_flows-requires-in-Choice
push_flows-requires-in-Choice t c =
    let light = (room_choice _ _ _ _ _ _ c.in-Choice.is c.requires.light).0 in
    let p = c.get-in-Choice-3.result.now in
    let k = amount_targets c.args.a in
    let fit : FitsCaps (part_of p) (counts.whole k) = subst (λ y. FitsCaps (part_of y) (counts.whole k)) (sym c.get-in-Choice-3.ensures) (fit_choice _ _ _ _ _ _ c.in-Choice.is c.requires.fit).0 in
    let same = choice_whole (spec.dearest_ways (part_of c.get-in-Choice.result.now)) (spec.dearest_ways (part_of c.get-in-Choice-2.result.now)) k in
    let s = keeps_choice _ _ _ _ _ c.in-Choice.is c.requires.keeps in
    (search (rules, the_lemmas), (keeps_at _ _ c.get-in-Choice-3.ensures s.first, (omega (arith, light, ap (λ y. cap_cost (part_of y)) c.get-in-Choice-3.ensures), fit_less (part_of p) _ (counts.whole k) (omega (arith, same, ap counts.whole c.choice_shares-shares.ensures.first)) fit)))

pub push_flows-requires-in-Choice-2 : goal.push_flows-requires-in-Choice-2
push_flows-requires-in-Choice-2 t c =
    let light = (room_choice _ _ _ _ _ _ c.in-Choice.is c.requires.light).1 in
    let p = c.get-in-Choice-4.result.now in
    let k = amount_targets c.args.a in
    let fit : FitsCaps (part_of p) (counts.whole k) = subst (λ y. FitsCaps (part_of y) (counts.whole k)) (sym c.get-in-Choice-4.ensures) (fit_choice _ _ _ _ _ _ c.in-Choice.is c.requires.fit).1 in
    let same = choice_whole (spec.dearest_ways (part_of c.get-in-Choice.result.now)) (spec.dearest_ways (part_of c.get-in-Choice-2.result.now)) k in
    let s = keeps_choice _ _ _ _ _ c.in-Choice.is c.requires.keeps in
    (search (rules, the_lemmas), (keeps_at _ _ c.get-in-Choice-4.ensures s.second, (omega (arith, light, ap (λ y. cap_cost (part_of y)) c.get-in-Choice-4.ensures), fit_less (part_of p) _ (counts.whole k) (omega (arith, same, ap counts.whole c.choice_shares-shares.ensures.second)) fit)))

pub push_flows-requires-in-While : goal.push_flows-requires-in-While
push_flows-requires-in-While t c =
    let light = (room_while _ _ _ _ _ _ _ c.in-While.is c.requires.light).0 in
    let p = c.get-in-While-2.result.now in
    let k = counts.whole (amount_targets c.args.a) * (c.in-While.m + 1) in
    let fit : FitsCaps (part_of p) k = subst (λ y. FitsCaps (part_of y) k) (sym c.get-in-While-2.ensures) (fit_while _ _ _ _ _ _ _ c.in-While.is c.requires.fit) in
    let s = keeps_while _ _ _ _ _ _ c.in-While.is c.requires.keeps in
    (search (rules, the_lemmas), (keeps_at _ _ c.get-in-While-2.ensures s.body, (omega (arith, light, ap (λ y. cap_cost (part_of y)) c.get-in-While-2.ensures), fit_less (part_of p) _ k c.while_turns-turns.ensures.fits fit)))

pub do_turns-turns-requires-clause-fits : goal.do_turns-turns-requires-clause-fits
do_turns-turns-requires-clause-fits t c = (fit_do _ _ _ _ _ _ c.in-Do.is c.requires.fit).entries

pub push_flows-requires-in-Do : goal.push_flows-requires-in-Do
push_flows-requires-in-Do t c =
    let light = (room_do _ _ _ _ _ _ c.in-Do.is c.requires.light).0 in
    let p = c.get-in-Do-2.result.now in
    let k = counts.whole (amount_targets c.args.a) * (c.in-Do.m + 1) in
    let fit : FitsCaps (part_of p) k = subst (λ y. FitsCaps (part_of y) k) (sym c.get-in-Do-2.ensures) (fit_do _ _ _ _ _ _ c.in-Do.is c.requires.fit) in
    let s = keeps_do _ _ _ _ _ c.in-Do.is c.requires.keeps in
    (search (rules, the_lemmas), (keeps_at _ _ c.get-in-Do-2.ensures s.body, (omega (arith, light, ap (λ y. cap_cost (part_of y)) c.get-in-Do-2.ensures), fit_less (part_of p) _ k c.do_turns-turns.ensures.fits fit)))

pub push_flows-requires-in-Body : goal.push_flows-requires-in-Body
push_flows-requires-in-Body t c =
    let light = room_body _ _ _ _ c.in-Body.is c.requires.light in
    let p = c.get-in-Body.result.now in
    let k = counts.whole (amount_targets c.args.a) in
    let fit : FitsCaps (part_of p) k = subst (λ y. FitsCaps (part_of y) k) (sym c.get-in-Body.ensures) (fit_body _ _ _ _ c.in-Body.is c.requires.fit) in
    let same = ap counts.whole c.body_amounts.ensures ∙ body_whole c.dearest_ways.result c.args.a.next in
    let s = keeps_body _ _ _ c.in-Body.is c.requires.keeps in
    (search (rules, the_lemmas), (keeps_at _ _ c.get-in-Body.ensures s.body, (omega (arith, light, ap (λ y. cap_cost (part_of y)) c.get-in-Body.ensures), fit_less (part_of p) _ k (omega (arith, same)) fit)))

pub returns-in-Nothing : goal.returns-in-Nothing
returns-in-Nothing t c = none_added _ _ (flows_nothing _ _ c.in-Nothing.is)

pub returns-in_ok-push_flows-in-Then-2 : goal.returns-in_ok-push_flows-in-Then-2
returns-in_ok-push_flows-in-Then-2 t c =
    two_added _ _ _ _ _ _ c.in_ok-push_flows-in-Then.ensures c.in_ok-push_flows-in-Then-2.ensures (flows_then _ _ _ _ _ _ _ _ _ _ _ c.in-Then.is c.get-in-Then-2.ensures c.get-in-Then-3.ensures c.get.ensures c.get-in-Then.ensures c.then_shares-shares.ensures.first c.then_shares-shares.ensures.second)

pub returns-in_ok-push_flows-in-Choice-2 : goal.returns-in_ok-push_flows-in-Choice-2
returns-in_ok-push_flows-in-Choice-2 t c =
    four_added _ _ _ _ _ _ _ _ _ _ c.in_ok-push-in-Choice.ensures.ok c.in_ok-push-in-Choice-2.ensures.ok c.in_ok-push_flows-in-Choice.ensures c.in_ok-push_flows-in-Choice-2.ensures (flows_choice _ _ _ _ _ _ _ _ _ _ _ _ _ _ c.in-Choice.is c.get-in-Choice-3.ensures c.get-in-Choice-4.ensures c.get-in-Choice.ensures c.get-in-Choice-2.ensures c.choice_shares-shares.ensures.first c.choice_shares-shares.ensures.second c.whole.ensures c.whole-in-Choice.ensures)

pub returns-in_ok-push_flows-in-While : goal.returns-in_ok-push_flows-in-While
returns-in_ok-push_flows-in-While t c =
    four_added _ _ _ _ _ _ _ _ _ _ c.in_ok-push-in-While.ensures.ok c.in_ok-push-in-While-2.ensures.ok c.in_ok-push_step-in-While.ensures c.in_ok-push_flows-in-While.ensures (flows_while _ _ _ _ _ _ _ _ _ _ _ _ _ c.in-While.is c.get-in-While.ensures c.get-in-While-2.ensures c.while_turns-turns.ensures.counts)

pub returns-in_ok-push-in-Do-2 : goal.returns-in_ok-push-in-Do-2
returns-in_ok-push-in-Do-2 t c =
    three_added _ _ _ _ _ _ _ _ c.in_ok-push_flows-in-Do.ensures c.in_ok-push-in-Do.ensures.ok c.in_ok-push-in-Do-2.ensures.ok (flows_do _ _ _ _ _ _ _ _ _ _ _ c.in-Do.is c.get-in-Do.ensures c.get-in-Do-2.ensures c.do_turns-turns.ensures.counts)

pub then_shares-shares-requires-clause-a : goal.then_shares-shares-requires-clause-a
then_shares-shares-requires-clause-a t c = keeps_at _ _ c.get.ensures (keeps_then _ _ _ _ c.in-Then.is c.requires.keeps).first

pub then_shares-shares-requires-clause-b : goal.then_shares-shares-requires-clause-b
then_shares-shares-requires-clause-b t c = keeps_at _ _ c.get-in-Then.ensures (keeps_then _ _ _ _ c.in-Then.is c.requires.keeps).second

pub choice_shares-shares-requires-clause-a : goal.choice_shares-shares-requires-clause-a
choice_shares-shares-requires-clause-a t c = keeps_at _ _ c.get-in-Choice.ensures (keeps_choice _ _ _ _ _ c.in-Choice.is c.requires.keeps).first

pub choice_shares-shares-requires-clause-b : goal.choice_shares-shares-requires-clause-b
choice_shares-shares-requires-clause-b t c = keeps_at _ _ c.get-in-Choice-2.ensures (keeps_choice _ _ _ _ _ c.in-Choice.is c.requires.keeps).second

pub while_turns-turns-requires-clause-keeps : goal.while_turns-turns-requires-clause-keeps
while_turns-turns-requires-clause-keeps t c = keeps_at _ _ c.get-in-While.ensures (keeps_while _ _ _ _ _ _ c.in-While.is c.requires.keeps).body

pub do_turns-turns-requires-clause-keeps : goal.do_turns-turns-requires-clause-keeps
do_turns-turns-requires-clause-keeps t c = keeps_at _ _ c.get-in-Do.ensures (keeps_do _ _ _ _ _ c.in-Do.is c.requires.keeps).body

pub dearest_ways-requires : goal.dearest_ways-requires
dearest_ways-requires t c = keeps_at _ _ c.get-in-Body-2.ensures (keeps_body _ _ _ c.in-Body.is c.requires.keeps).body
