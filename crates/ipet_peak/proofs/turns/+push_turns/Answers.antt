-- The turns of a tree are those of its children, with its own.
use Rattle.std.proofs.Common.{rules, arith, ◌≡◌, ◌+◌, [], ◌∷◌, ◌++◌, None, ap, ◌∙◌}
use Rattle.ipet_peak.specs.declared.tree.Tree.{the_lemmas}
use mir.Val.{SFits}
use mir.Syntax.{w128}
use Rattle.std.proofs.lemmas.Int.{to_z-of_z}
use Rattle.peak_laws.specs.Parts as spec
use Rattle.peak_laws.specs.Magnitudes.{cap_cost}
use Rattle.ipet_peak.specs.Trees.{part_of}
use Rattle.ipet_peak.proofs.TreeLayers.{room_then, room_choice, room_while, room_do, room_body, keeps_then, keeps_choice, keeps_while, keeps_do, keeps_body, keeps_at}
use Rattle.ipet_peak.proofs.Pushed.{none_pushed, two_pushed, turns_nothing, turns_block, turns_then, turns_choice, turns_while, turns_do}
use Rattle.ipet_peak.proofs.turns.+push_turns.Goals as goal

pub push_turns-requires : goal.push_turns-requires
push_turns-requires t c =
    let k = room_then _ _ _ _ _ c.in-Then.is c.requires.light in
    let s = keeps_then _ _ _ _ c.in-Then.is c.requires.keeps in
    (search (rules, the_lemmas), (keeps_at _ _ c.get.ensures s.first, omega (arith, k.0, ap (λ y. cap_cost (part_of y)) c.get.ensures)))

pub push_turns-requires-in-Then : goal.push_turns-requires-in-Then
push_turns-requires-in-Then t c =
    let k = room_then _ _ _ _ _ c.in-Then.is c.requires.light in
    let s = keeps_then _ _ _ _ c.in-Then.is c.requires.keeps in
    (search (rules, the_lemmas), (keeps_at _ _ c.get-in-Then.ensures s.second, omega (arith, k.1, ap (λ y. cap_cost (part_of y)) c.get-in-Then.ensures)))

pub push_turns-requires-in-Choice : goal.push_turns-requires-in-Choice
push_turns-requires-in-Choice t c =
    let k = room_choice _ _ _ _ _ _ c.in-Choice.is c.requires.light in
    let s = keeps_choice _ _ _ _ _ c.in-Choice.is c.requires.keeps in
    (search (rules, the_lemmas), (keeps_at _ _ c.get-in-Choice.ensures s.first, omega (arith, k.0, ap (λ y. cap_cost (part_of y)) c.get-in-Choice.ensures)))

pub push_turns-requires-in-Choice-2 : goal.push_turns-requires-in-Choice-2
push_turns-requires-in-Choice-2 t c =
    let k = room_choice _ _ _ _ _ _ c.in-Choice.is c.requires.light in
    let s = keeps_choice _ _ _ _ _ c.in-Choice.is c.requires.keeps in
    (search (rules, the_lemmas), (keeps_at _ _ c.get-in-Choice-2.ensures s.second, omega (arith, k.1, ap (λ y. cap_cost (part_of y)) c.get-in-Choice-2.ensures)))

pub turn-requires-clause-keeps : goal.turn-requires-clause-keeps
turn-requires-clause-keeps t c = keeps_at _ _ c.get-in-While.ensures (keeps_while _ _ _ _ _ _ c.in-While.is c.requires.keeps).body

pub turn-requires-clause-body : goal.turn-requires-clause-body
turn-requires-clause-body t c =
    let k = room_while _ _ _ _ _ _ _ c.in-While.is c.requires.light in
    omega (arith, k.0, ap (λ y. cap_cost (part_of y)) c.get-in-While.ensures)

pub push_turns-requires-in-While : goal.push_turns-requires-in-While
push_turns-requires-in-While t c =
    let k = room_while _ _ _ _ _ _ _ c.in-While.is c.requires.light in
    let s = keeps_while _ _ _ _ _ _ c.in-While.is c.requires.keeps in
    (search (rules, the_lemmas), (keeps_at _ _ c.get-in-While-2.ensures s.body, omega (arith, k.0, ap (λ y. cap_cost (part_of y)) c.get-in-While-2.ensures)))

pub push_turns-requires-in-Do : goal.push_turns-requires-in-Do
push_turns-requires-in-Do t c =
    let k = room_do _ _ _ _ _ _ c.in-Do.is c.requires.light in
    let s = keeps_do _ _ _ _ _ c.in-Do.is c.requires.keeps in
    (search (rules, the_lemmas), (keeps_at _ _ c.get-in-Do.ensures s.body, omega (arith, k.0, ap (λ y. cap_cost (part_of y)) c.get-in-Do.ensures)))

pub turn-requires-in-Do-clause-keeps : goal.turn-requires-in-Do-clause-keeps
turn-requires-in-Do-clause-keeps t c = keeps_at _ _ c.get-in-Do-2.ensures (keeps_do _ _ _ _ _ c.in-Do.is c.requires.keeps).body

pub push_turns-requires-in-Body : goal.push_turns-requires-in-Body
push_turns-requires-in-Body t c =
    let s = keeps_body _ _ _ c.in-Body.is c.requires.keeps in
    (search (rules, the_lemmas), (keeps_at _ _ c.get-in-Body.ensures s.body, omega (arith, room_body _ _ _ _ c.in-Body.is c.requires.light, ap (λ y. cap_cost (part_of y)) c.get-in-Body.ensures)))

pub returns-in-Nothing : goal.returns-in-Nothing
returns-in-Nothing t c = none_pushed _ _ (turns_nothing _ c.in-Nothing.is)

pub returns-in-Block : goal.returns-in-Block
returns-in-Block t c = none_pushed _ _ (turns_block _ _ _ c.in-Block.is)

pub returns-in_ok-push_turns-in-Then-2 : goal.returns-in_ok-push_turns-in-Then-2
returns-in_ok-push_turns-in-Then-2 t c =
    two_pushed _ _ _ _ _ _ c.in_ok-push_turns-in-Then.ensures c.in_ok-push_turns-in-Then-2.ensures (turns_then _ _ _ _ _ _ c.in-Then.is c.get.ensures c.get-in-Then.ensures)

pub returns-in_ok-push_turns-in-Choice-2 : goal.returns-in_ok-push_turns-in-Choice-2
returns-in_ok-push_turns-in-Choice-2 t c =
    two_pushed _ _ _ _ _ _ c.in_ok-push_turns-in-Choice.ensures c.in_ok-push_turns-in-Choice-2.ensures (turns_choice _ _ _ _ _ _ _ c.in-Choice.is c.get-in-Choice.ensures c.get-in-Choice-2.ensures)

pub returns-in_ok-push_turns-in-While : goal.returns-in_ok-push_turns-in-While
returns-in_ok-push_turns-in-While t c =
    let f : SFits w128 c.turn.result = search rules in
    let item = simp to_z-of_z at c.in_ok-push-in-While.ensures.ok in
    let v : spec.turn_cost (c.from.result + c.step_cost.result) (spec.way_back (spec.dearest_ways (part_of c.get-in-While.result.now))) ≡ spec.full_turn_cost c.in-While.c c.in-While.step (spec.dearest_ways (part_of c.in-While.a)) = λ i. spec.turn_cost (c.from.ensures i + c.step_cost.ensures.value i) (spec.way_back (spec.dearest_ways (part_of (c.get-in-While.ensures i)))) in
    two_pushed _ _ _ (_ ∷ []) _ _ (item ∙ ap (λ z. c.args.out.now ++ z ∷ []) c.turn.ensures) c.in_ok-push_turns-in-While.ensures (turns_while _ _ _ _ _ _ _ _ c.in-While.is c.get-in-While-2.ensures v)

pub returns-in_ok-push-in-Do : goal.returns-in_ok-push-in-Do
returns-in_ok-push-in-Do t c =
    let f : SFits w128 c.turn-in-Do.result = search rules in
    let item = simp to_z-of_z at c.in_ok-push-in-Do.ensures.ok in
    let v : spec.turn_cost (c.from-in-Do.result + 0) (spec.way_back (spec.dearest_ways (part_of c.get-in-Do-2.result.now))) ≡ spec.full_turn_cost c.in-Do.c None (spec.dearest_ways (part_of c.in-Do.a)) = λ i. spec.turn_cost (c.from-in-Do.ensures i + 0) (spec.way_back (spec.dearest_ways (part_of (c.get-in-Do-2.ensures i)))) in
    two_pushed _ _ _ _ (_ ∷ []) _ c.in_ok-push_turns-in-Do.ensures (item ∙ ap (λ z. c.push_turns-in-Do.new.out ++ z ∷ []) c.turn-in-Do.ensures) (turns_do _ _ _ _ _ _ _ c.in-Do.is c.get-in-Do.ensures v)
