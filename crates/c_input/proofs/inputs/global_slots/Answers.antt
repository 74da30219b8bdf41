use Rattle.std.proofs.Common.{◌+◌, ◌++◌, drop, length, refl, sym, ap, ◌∙◌, subst}
use Rattle.std.specs.Prelude.{IsTrue}
use Rattle.std.proofs.lemmas.Option.{slice_get_read}
use Rattle.c_tree.specs.Meaning.Runs.{are_of, outer_types, global_slots}
use Rattle.c_tree.specs.Keeping.WellFormed.{WellFormedGlobals}
use Rattle.c_input.proofs.InputParts.{first_takes, rest_takes, drop_is, slots_step}
use Rattle.c_input.proofs.inputs.global_slots.Goals as goal

pub next_slot-requires-clause-own : goal.next_slot-requires-clause-own
next_slot-requires-clause-own c =
    let gs = c.args.globals.now in
    let i = c.loop-global.global-index in
    let g = c.global-item.result in
    let zs = c.loop-global.rest.now in
    let here = drop_is gs i g (slice_get_read gs (length gs) i g refl c.loop-global-test.true c.global-item.is) in
    first_takes g (drop (i + 1) gs) zs (subst (λ gs. IsTrue (are_of (outer_types gs) zs)) here c.loop-global.invariant.1.1)

pub loop-global-preserved : goal.loop-global-preserved
loop-global-preserved c =
    let gs = c.args.globals.now in
    let i = c.loop-global.global-index in
    let g = c.global-item.result in
    let zs = c.loop-global.rest.now in
    let here = drop_is gs i g (slice_get_read gs (length gs) i g refl c.loop-global-test.true c.global-item.is) in
    let fit = subst (λ gs. IsTrue (are_of (outer_types gs) zs)) here c.loop-global.invariant.1.1 in
    let formed = subst WellFormedGlobals here c.loop-global.invariant.1.0 in
    let e = c.in_ok-slot.ensures in
    let slots = c.loop-global.slots.items in
    (slots_step g (drop (i + 1) gs) zs c.in_ok-slot.more.now c.in_ok-slot.slot slots _ _ e.slot e.rest c.in_ok-push.ensures (ap (λ gs. slots ++ global_slots gs zs) (sym here) ∙ c.loop-global.invariant.0), (formed.1, subst (λ zs. IsTrue (are_of (outer_types (drop (i + 1) gs)) zs)) (sym e.rest) (rest_takes g (drop (i + 1) gs) zs fit)))
