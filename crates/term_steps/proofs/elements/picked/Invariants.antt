use Rattle.std.proofs.Common.{◌<◌, length, drop}
use Rattle.cond_laws.specs.TermStores as spec
use Rattle.term_steps.proofs.Runs.{Rest}
use Rattle.term_steps.proofs.elements.picked.Given as goal

abbrev pub invariant-loop-index : goal.invariant-loop-index
invariant-loop-index l = record {
  rest : Rest (spec.element_choice l.fn.at 0 l.fn.other l.fn.elements) (spec.element_choice l.fn.at l.index l.chosen (drop l.index l.elements)) (λ x. x) l.fn.terms l.terms;
  there : l.chosen < length l.terms.ops;
}
