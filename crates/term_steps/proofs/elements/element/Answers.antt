use Rattle.std.proofs.Common.{◌≡◌, option_copied, Some, None, length, sym, ap, ◌∙◌}
use Rattle.term_steps.specs.Parts.{array_in}
use Rattle.term_steps.proofs.ExpressionRuns.{mapped}
use Rattle.term_steps.proofs.OperandRuns.{array_there, element_read, no_element_read}
use Rattle.term_steps.proofs.elements.element.Goals as goal

pub element_of-requires-clause-elements_in : goal.element_of-requires-clause-elements_in
element_of-requires-clause-elements_in c = (array_there (length c.args.terms.now.ops) (option_copied c.args.slot) c.in-Some.elements.now (sym c.array_in.ensures ∙ ap option_copied c.in-Some.is) c.requires.slot_in).0

pub element_of-requires-clause-few : goal.element_of-requires-clause-few
element_of-requires-clause-few c = (array_there (length c.args.terms.now.ops) (option_copied c.args.slot) c.in-Some.elements.now (sym c.array_in.ensures ∙ ap option_copied c.in-Some.is) c.requires.slot_in).1

pub returns-in-Some : goal.returns-in-Some
returns-in-Some c = mapped _ c.element_of.result c.element_of.ensures (λ j h. element_read (option_copied c.args.slot) c.in-Some.elements.now c.args.at (sym c.array_in.ensures ∙ ap option_copied c.in-Some.is) c.held_ty-ty.ensures h)

pub returns-in-None : goal.returns-in-None
returns-in-None c = mapped _ c.no_element.result c.no_element.ensures (λ j h. no_element_read (option_copied c.args.slot) c.args.at (sym c.array_in.ensures ∙ ap option_copied c.in-None.is) c.held_ty-ty.ensures h)
