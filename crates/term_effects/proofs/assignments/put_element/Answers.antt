use Rattle.std.proofs.Common.{option_copied, length, sym, ap, ◌∙◌, arith}
use Rattle.term_steps.proofs.Growing.{below_read}
use Rattle.term_steps.proofs.ExpressionRuns.{mapped}
use Rattle.term_effects.proofs.EffectRuns.{held_array, element_put, no_element_put}
use Rattle.term_effects.proofs.assignments.put_element.Goals as goal

pub returns-in-None : goal.returns-in-None
returns-in-None c = mapped _ c.nowhere.result c.nowhere.ensures (λ cs h. no_element_put (option_copied c.held-slot.result) c.args.store.now c.args.var c.args.at c.args.value c.held-slot.ensures (sym c.array_in.ensures ∙ ap option_copied c.in-None.is) c.requires.there h)

pub overflow_cast-len : goal.overflow_cast-len
overflow_cast-len c = omega (arith, c.len.ensures, (held_array c.in-Some.elements.now c.args.var c.held-slot.ensures (sym c.array_in.ensures ∙ ap option_copied c.in-Some.is) c.requires.there).1)

pub replaced-requires-clause-elements_in : goal.replaced-requires-clause-elements_in
replaced-requires-clause-elements_in c = below_read _ _ c.as_slice.ensures (held_array c.in-Some.elements.now c.args.var c.held-slot.ensures (sym c.array_in.ensures ∙ ap option_copied c.in-Some.is) c.requires.there).0 c.in_ok-inside-in-Some.ensures.grows

pub replaced-requires-clause-few : goal.replaced-requires-clause-few
replaced-requires-clause-few c = omega (arith, ap length c.as_slice.ensures, (held_array c.in-Some.elements.now c.args.var c.held-slot.ensures (sym c.array_in.ensures ∙ ap option_copied c.in-Some.is) c.requires.there).1)

pub returns-in_ok-push-in-Some : goal.returns-in_ok-push-in-Some
returns-in_ok-push-in-Some c = mapped _ c.joined.result c.joined.ensures (λ all is. element_put c.args.store.now c.in-Some.elements.now c.args.var c.args.at c.args.value c.held-slot.ensures (sym c.array_in.ensures ∙ ap option_copied c.in-Some.is) c.held_ty-ty.ensures c.len.ensures c.as_slice.ensures c.in_ok-inside-in-Some.ensures c.in_ok-after-in-Some.ensures c.put_slot.ensures c.in_ok-push-in-Some.ensures.ok is c.requires.there c.requires.at_in c.requires.value_in)
