use Rattle.std.proofs.Common.{◌≡◌, ◌++◌, length, drop}
use Rattle.cond_laws.specs.TermStores as spec
use Rattle.cond_laws.specs.Conditions.{AllBelow}
use Rattle.term_steps.proofs.Runs.{Rest}
use Rattle.term_effects.proofs.arrays.replaced.Given as goal

abbrev pub invariant-loop-index : goal.invariant-loop-index
invariant-loop-index l = record {
  rest : Rest (spec.elements_after l.fn.at 0 l.fn.value l.fn.elements) (spec.elements_after l.fn.at l.index l.fn.value (drop l.index l.elements)) (λ ns. l.after ++ ns) l.fn.terms l.terms;
  there : AllBelow (length l.terms.ops) l.after;
  many : length l.after ≡ l.index;
}
