-- The potentials of a tree are its own and those of its children, over what lies ahead of each.
use Rattle.std.proofs.Common.{rules, arith, ◌≡◌, ◌+◌, max, [], ◌∷◌, None, ap, ◌∙◌}
use Rattle.ipet_peak.specs.declared.tree.Tree.{the_lemmas}
use Rattle.flow_laws.specs.Sites as sites
use Rattle.peak_laws.specs.Parts as spec
use Rattle.peak_laws.specs.Magnitudes.{cap_cost, excess}
use Rattle.ipet_peak.specs.Trees.{part_of, cost_targets, greatest_target}
use Rattle.ipet_peak.proofs.TreeLayers.{keeps_then, keeps_choice, keeps_while, keeps_do, keeps_body, keeps_at}
use Rattle.ipet_peak.proofs.Pushed.{none_pushed, two_pushed}
use Rattle.ipet_peak.proofs.PushedPotentials.{then_room, choice_room, while_room, do_room, body_room, pots_nothing, pots_then, pots_choice, pots_while, pots_do, three_pushed}
use Rattle.ipet_peak.proofs.potentials.+push_potentials.Goals as goal

pub from_entry-entry-requires-clause-tree : goal.from_entry-entry-requires-clause-tree
from_entry-entry-requires-clause-tree t c =
    let k = then_room _ _ _ _ (cost_targets c.args.t) _ c.in-Then.is c.requires.room in
    omega (arith, k.1, ap (λ y. cap_cost (part_of y)) c.get.ensures)

pub push_potentials-requires : goal.push_potentials-requires
push_potentials-requires t c =
    let k = then_room _ _ _ _ (cost_targets c.args.t) _ c.in-Then.is c.requires.room in
    (search (rules, the_lemmas), (keeps_at _ _ c.get-in-Then.ensures (keeps_then _ _ _ _ c.in-Then.is c.requires.keeps).first, omega (arith, k.2 c.from_entry-entry.result (omega (arith, c.from_entry-entry.ensures.most, ap (λ y. cap_cost (part_of y)) c.get.ensures)), ap (λ y. excess (part_of y)) c.get-in-Then.ensures, ap greatest_target c.with_next.ensures)))

pub push_potentials-requires-in-Then : goal.push_potentials-requires-in-Then
push_potentials-requires-in-Then t c =
    let k = then_room _ _ _ _ (cost_targets c.args.t) _ c.in-Then.is c.requires.room in
    (search (rules, the_lemmas), (keeps_at _ _ c.get-in-Then-2.ensures (keeps_then _ _ _ _ c.in-Then.is c.requires.keeps).second, omega (arith, k.3, ap (λ y. excess (part_of y)) c.get-in-Then-2.ensures)))

pub returns-in-Nothing : goal.returns-in-Nothing
returns-in-Nothing t c = none_pushed _ _ (pots_nothing _ _ c.in-Nothing.is)

pub returns-in_ok-push_potentials-in-Then-2 : goal.returns-in_ok-push_potentials-in-Then-2
returns-in_ok-push_potentials-in-Then-2 t c =
    two_pushed _ _ _ _ _ _ c.in_ok-push_potentials-in-Then.ensures c.in_ok-push_potentials-in-Then-2.ensures (pots_then _ _ _ _ _ _ _ _ _ _ c.in-Then.is c.get-in-Then.ensures c.get.ensures c.get-in-Then-2.ensures c.from_entry-entry.ensures.value c.with_next.ensures)

pub from_entry-first-requires-clause-tree : goal.from_entry-first-requires-clause-tree
from_entry-first-requires-clause-tree t c =
    let k = choice_room _ _ _ _ _ (cost_targets c.args.t) _ c.in-Choice.is c.requires.room in
    omega (arith, k.0, ap (λ y. cap_cost (part_of y)) c.get-in-Choice.ensures)

pub from_entry-second-requires-clause-tree : goal.from_entry-second-requires-clause-tree
from_entry-second-requires-clause-tree t c =
    let k = choice_room _ _ _ _ _ (cost_targets c.args.t) _ c.in-Choice.is c.requires.room in
    omega (arith, k.1, ap (λ y. cap_cost (part_of y)) c.get-in-Choice-2.ensures)

pub overflow_add-from-in-Choice : goal.overflow_add-from-in-Choice
overflow_add-from-in-Choice t c =
    let k = choice_room _ _ _ _ _ (cost_targets c.args.t) _ c.in-Choice.is c.requires.room in
    omega (arith, k.4, c.from-in-Choice.ensures, c.larger.ensures, c.from_entry-first.ensures.most, c.from_entry-second.ensures.most, ap (λ y. cap_cost (part_of y)) c.get-in-Choice.ensures, ap (λ y. cap_cost (part_of y)) c.get-in-Choice-2.ensures)

pub push-requires-in-Choice : goal.push-requires-in-Choice
push-requires-in-Choice t c =
    let k = choice_room _ _ _ _ _ (cost_targets c.args.t) _ c.in-Choice.is c.requires.room in
    omega (arith, k.4, c.from-in-Choice.ensures, c.larger.ensures, c.from_entry-first.ensures.most, c.from_entry-second.ensures.most, ap (λ y. cap_cost (part_of y)) c.get-in-Choice.ensures, ap (λ y. cap_cost (part_of y)) c.get-in-Choice-2.ensures)

pub push_potentials-requires-in-Choice : goal.push_potentials-requires-in-Choice
push_potentials-requires-in-Choice t c =
    let k = choice_room _ _ _ _ _ (cost_targets c.args.t) _ c.in-Choice.is c.requires.room in
    (search (rules, the_lemmas), (keeps_at _ _ c.get-in-Choice-3.ensures (keeps_choice _ _ _ _ _ c.in-Choice.is c.requires.keeps).first, omega (arith, k.2, ap (λ y. excess (part_of y)) c.get-in-Choice-3.ensures)))

pub push_potentials-requires-in-Choice-2 : goal.push_potentials-requires-in-Choice-2
push_potentials-requires-in-Choice-2 t c =
    let k = choice_room _ _ _ _ _ (cost_targets c.args.t) _ c.in-Choice.is c.requires.room in
    (search (rules, the_lemmas), (keeps_at _ _ c.get-in-Choice-4.ensures (keeps_choice _ _ _ _ _ c.in-Choice.is c.requires.keeps).second, omega (arith, k.3, ap (λ y. excess (part_of y)) c.get-in-Choice-4.ensures)))

pub returns-in_ok-push_potentials-in-Choice-2 : goal.returns-in_ok-push_potentials-in-Choice-2
returns-in_ok-push_potentials-in-Choice-2 t c =
    let k = cost_targets c.args.t in
    let v : c.from-in-Choice.result + c.larger.result ≡ c.in-Choice.c + max (spec.from_entry (part_of c.in-Choice.a) k) (spec.from_entry (part_of c.in-Choice.b) k) = λ i. c.from-in-Choice.ensures i + (c.larger.ensures ∙ (λ j. max ((c.from_entry-first.ensures.value ∙ ap (λ y. spec.from_entry (part_of y) k) c.get-in-Choice.ensures) j) ((c.from_entry-second.ensures.value ∙ ap (λ y. spec.from_entry (part_of y) k) c.get-in-Choice-2.ensures) j))) i in
    three_pushed _ _ _ _ ((c.from-in-Choice.result + c.larger.result) ∷ []) _ _ _ c.in_ok-push-in-Choice.ensures c.in_ok-push_potentials-in-Choice.ensures c.in_ok-push_potentials-in-Choice-2.ensures (pots_choice _ _ _ _ _ _ _ _ _ c.in-Choice.is c.get-in-Choice-3.ensures c.get-in-Choice-4.ensures v)

pub push-requires-in-While : goal.push-requires-in-While
push-requires-in-While t c =
    let k = cost_targets c.args.t in
    let v : c.from_condition-at.result ≡ spec.at_condition c.in-While.c c.in-While.step (spec.dearest_ways (part_of c.in-While.a)) (spec.from_entry (part_of c.in-While.a)) k = c.from_condition-at.ensures ∙ (λ i. spec.from_condition (c.from-in-While.ensures i) (spec.turn_cost (c.from-in-While.ensures i + c.step_cost.ensures.value i) (spec.way_back (spec.dearest_ways (part_of (c.get-in-While.ensures i))))) (spec.from_entry (part_of (c.get-in-While.ensures i)) (sites.body_of k (c.step_cost.ensures.value i + (c.from-in-While.ensures i + k.next)))) k.next) in
    omega (arith, v, (while_room _ _ _ _ _ _ k _ c.in-While.is c.requires.room).1)

pub push_step-requires : goal.push_step-requires
push_step-requires t c =
    let k = cost_targets c.args.t in
    let v : c.from_condition-at.result ≡ spec.at_condition c.in-While.c c.in-While.step (spec.dearest_ways (part_of c.in-While.a)) (spec.from_entry (part_of c.in-While.a)) k = c.from_condition-at.ensures ∙ (λ i. spec.from_condition (c.from-in-While.ensures i) (spec.turn_cost (c.from-in-While.ensures i + c.step_cost.ensures.value i) (spec.way_back (spec.dearest_ways (part_of (c.get-in-While.ensures i))))) (spec.from_entry (part_of (c.get-in-While.ensures i)) (sites.body_of k (c.step_cost.ensures.value i + (c.from-in-While.ensures i + k.next)))) k.next) in
    omega (arith, v, (while_room _ _ _ _ _ _ k _ c.in-While.is c.requires.room).1)

pub overflow_add-step_cost : goal.overflow_add-step_cost
overflow_add-step_cost t c =
    let k = cost_targets c.args.t in
    let v : c.from_condition-at.result ≡ spec.at_condition c.in-While.c c.in-While.step (spec.dearest_ways (part_of c.in-While.a)) (spec.from_entry (part_of c.in-While.a)) k = c.from_condition-at.ensures ∙ (λ i. spec.from_condition (c.from-in-While.ensures i) (spec.turn_cost (c.from-in-While.ensures i + c.step_cost.ensures.value i) (spec.way_back (spec.dearest_ways (part_of (c.get-in-While.ensures i))))) (spec.from_entry (part_of (c.get-in-While.ensures i)) (sites.body_of k (c.step_cost.ensures.value i + (c.from-in-While.ensures i + k.next)))) k.next) in
    omega (arith, v, (while_room _ _ _ _ _ _ k _ c.in-While.is c.requires.room).1, c.step_cost-in-While.ensures.small)

pub push_potentials-requires-in-While : goal.push_potentials-requires-in-While
push_potentials-requires-in-While t c =
    let k = cost_targets c.args.t in
    let v : c.from_condition-at.result ≡ spec.at_condition c.in-While.c c.in-While.step (spec.dearest_ways (part_of c.in-While.a)) (spec.from_entry (part_of c.in-While.a)) k = c.from_condition-at.ensures ∙ (λ i. spec.from_condition (c.from-in-While.ensures i) (spec.turn_cost (c.from-in-While.ensures i + c.step_cost.ensures.value i) (spec.way_back (spec.dearest_ways (part_of (c.get-in-While.ensures i))))) (spec.from_entry (part_of (c.get-in-While.ensures i)) (sites.body_of k (c.step_cost.ensures.value i + (c.from-in-While.ensures i + k.next)))) k.next) in
    let u = c.body_of.ensures ∙ (λ i. sites.body_of k (c.step_cost-in-While.ensures.value i + v i)) in
    (search (rules, the_lemmas), (keeps_at _ _ c.get-in-While-2.ensures (keeps_while _ _ _ _ _ _ c.in-While.is c.requires.keeps).body, omega (arith, (while_room _ _ _ _ _ _ k _ c.in-While.is c.requires.room).3, ap greatest_target u, ap (λ y. excess (part_of y)) c.get-in-While-2.ensures)))

pub returns-in_ok-push_potentials-in-While : goal.returns-in_ok-push_potentials-in-While
returns-in_ok-push_potentials-in-While t c =
    let k = cost_targets c.args.t in
    let v : c.from_condition-at.result ≡ spec.at_condition c.in-While.c c.in-While.step (spec.dearest_ways (part_of c.in-While.a)) (spec.from_entry (part_of c.in-While.a)) k = c.from_condition-at.ensures ∙ (λ i. spec.from_condition (c.from-in-While.ensures i) (spec.turn_cost (c.from-in-While.ensures i + c.step_cost.ensures.value i) (spec.way_back (spec.dearest_ways (part_of (c.get-in-While.ensures i))))) (spec.from_entry (part_of (c.get-in-While.ensures i)) (sites.body_of k (c.step_cost.ensures.value i + (c.from-in-While.ensures i + k.next)))) k.next) in
    three_pushed _ _ _ _ (c.from_condition-at.result ∷ []) (spec.step_potentials c.in-While.step c.from_condition-at.result) _ _ c.in_ok-push-in-While.ensures c.in_ok-push_step-in-While.ensures c.in_ok-push_potentials-in-While.ensures (pots_while _ _ _ _ _ _ _ _ _ _ _ c.in-While.is c.get-in-While-2.ensures v c.step_cost-in-While.ensures.value c.body_of.ensures)

pub push_potentials-requires-in-Do : goal.push_potentials-requires-in-Do
push_potentials-requires-in-Do t c =
    let k = cost_targets c.args.t in
    let v : c.from_condition-at-in-Do.result ≡ spec.at_condition c.in-Do.c None (spec.dearest_ways (part_of c.in-Do.a)) (spec.from_entry (part_of c.in-Do.a)) k = c.from_condition-at-in-Do.ensures ∙ (λ i. spec.from_condition (c.from-in-Do.ensures i) (spec.turn_cost (c.from-in-Do.ensures i + 0) (spec.way_back (spec.dearest_ways (part_of (c.get-in-Do.ensures i))))) (spec.from_entry (part_of (c.get-in-Do.ensures i)) (sites.body_of k (0 + (c.from-in-Do.ensures i + k.next)))) k.next) in
    let u = c.body_of-in-Do.ensures ∙ ap (sites.body_of k) v in
    (search (rules, the_lemmas), (keeps_at _ _ c.get-in-Do-2.ensures (keeps_do _ _ _ _ _ c.in-Do.is c.requires.keeps).body, omega (arith, (do_room _ _ _ _ _ k _ c.in-Do.is c.requires.room).2, ap greatest_target u, ap (λ y. excess (part_of y)) c.get-in-Do-2.ensures)))

pub push-requires-in-Do : goal.push-requires-in-Do
push-requires-in-Do t c =
    let k = cost_targets c.args.t in
    let v : c.from_condition-at-in-Do.result ≡ spec.at_condition c.in-Do.c None (spec.dearest_ways (part_of c.in-Do.a)) (spec.from_entry (part_of c.in-Do.a)) k = c.from_condition-at-in-Do.ensures ∙ (λ i. spec.from_condition (c.from-in-Do.ensures i) (spec.turn_cost (c.from-in-Do.ensures i + 0) (spec.way_back (spec.dearest_ways (part_of (c.get-in-Do.ensures i))))) (spec.from_entry (part_of (c.get-in-Do.ensures i)) (sites.body_of k (0 + (c.from-in-Do.ensures i + k.next)))) k.next) in
    omega (arith, v, (do_room _ _ _ _ _ k _ c.in-Do.is c.requires.room).1)

pub returns-in_ok-push-in-Do : goal.returns-in_ok-push-in-Do
returns-in_ok-push-in-Do t c =
    let k = cost_targets c.args.t in
    let v : c.from_condition-at-in-Do.result ≡ spec.at_condition c.in-Do.c None (spec.dearest_ways (part_of c.in-Do.a)) (spec.from_entry (part_of c.in-Do.a)) k = c.from_condition-at-in-Do.ensures ∙ (λ i. spec.from_condition (c.from-in-Do.ensures i) (spec.turn_cost (c.from-in-Do.ensures i + 0) (spec.way_back (spec.dearest_ways (part_of (c.get-in-Do.ensures i))))) (spec.from_entry (part_of (c.get-in-Do.ensures i)) (sites.body_of k (0 + (c.from-in-Do.ensures i + k.next)))) k.next) in
    two_pushed _ _ _ _ _ _ c.in_ok-push_potentials-in-Do.ensures c.in_ok-push-in-Do.ensures (pots_do _ _ _ _ _ _ _ _ _ c.in-Do.is c.get-in-Do-2.ensures v c.body_of-in-Do.ensures)

pub push_potentials-requires-in-Body : goal.push_potentials-requires-in-Body
push_potentials-requires-in-Body t c =
    (search (rules, the_lemmas), (keeps_at _ _ c.get-in-Body.ensures (keeps_body _ _ _ c.in-Body.is c.requires.keeps).body, omega (arith, body_room _ _ _ (cost_targets c.args.t) _ c.in-Body.is c.requires.room, ap greatest_target c.all_to.ensures, ap (λ y. excess (part_of y)) c.get-in-Body.ensures)))

pub from_entry-entry-requires-clause-keeps : goal.from_entry-entry-requires-clause-keeps
from_entry-entry-requires-clause-keeps t c = keeps_at _ _ c.get.ensures (keeps_then _ _ _ _ c.in-Then.is c.requires.keeps).second

pub from_entry-first-requires-clause-keeps : goal.from_entry-first-requires-clause-keeps
from_entry-first-requires-clause-keeps t c = keeps_at _ _ c.get-in-Choice.ensures (keeps_choice _ _ _ _ _ c.in-Choice.is c.requires.keeps).first

pub from_entry-second-requires-clause-keeps : goal.from_entry-second-requires-clause-keeps
from_entry-second-requires-clause-keeps t c = keeps_at _ _ c.get-in-Choice-2.ensures (keeps_choice _ _ _ _ _ c.in-Choice.is c.requires.keeps).second

pub from_condition-at-requires-clause-keeps : goal.from_condition-at-requires-clause-keeps
from_condition-at-requires-clause-keeps t c = keeps_at _ _ c.get-in-While.ensures (keeps_while _ _ _ _ _ _ c.in-While.is c.requires.keeps).body

pub from_condition-at-requires-in-Do-clause-keeps : goal.from_condition-at-requires-in-Do-clause-keeps
from_condition-at-requires-in-Do-clause-keeps t c = keeps_at _ _ c.get-in-Do.ensures (keeps_do _ _ _ _ _ c.in-Do.is c.requires.keeps).body
