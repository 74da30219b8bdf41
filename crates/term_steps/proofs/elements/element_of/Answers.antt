use Rattle.term_steps.proofs.Growing.{below_read}
use Rattle.term_steps.proofs.OperandRuns.{element_given}
use Rattle.term_steps.proofs.elements.element_of.Goals as goal

pub picked-requires-clause-elements_in : goal.picked-requires-clause-elements_in
picked-requires-clause-elements_in c = below_read _ _ c.as_slice.ensures c.requires.elements_in c.in_ok-zero.ensures.grows

pub returns : goal.returns
returns c = element_given c.args.ty c.args.at _ c.args.elements.now _ c.len.result c.len.ensures c.as_slice.ensures c.in_ok-zero.ensures c.in_ok-value.ensures c.in_ok-inside.ensures c.requires.at_in c.in_ok-push.ensures.ok
