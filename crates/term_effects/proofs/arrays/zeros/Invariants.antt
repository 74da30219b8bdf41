use Rattle.std.proofs.Common.{◌≡◌, ◌-◌, ◌++◌, length}
use Rattle.cond_laws.specs.TermStores as spec
use Rattle.cond_laws.specs.Conditions.{AllBelow}
use Rattle.term_steps.proofs.Runs.{Rest}
use Rattle.term_effects.proofs.arrays.zeros.Given as goal

abbrev pub invariant-loop-index : goal.invariant-loop-index
invariant-loop-index l = record {
  rest : Rest (spec.zero_terms l.fn.count) (spec.zero_terms (l.count - l._index)) (λ ns. l.list ++ ns) l.fn.terms l.terms;
  there : AllBelow (length l.terms.ops) l.list;
  many : length l.list ≡ l._index;
}
