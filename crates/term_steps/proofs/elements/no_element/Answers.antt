use Rattle.term_steps.proofs.OperandRuns.{no_element_given}
use Rattle.term_steps.proofs.elements.no_element.Goals as goal

pub returns : goal.returns
returns c = no_element_given c.args.ty c.args.at _ c.in_ok-zero.ensures c.requires c.in_ok-push.ensures.ok
