use Rattle.std.proofs.Common.{◌≡◌, ◌++◌, length, drop}
use Rattle.cond_laws.specs.Conditions.{AllBelow}
use Rattle.cond_laws.specs.TermPaths as spec
use Rattle.term_steps.proofs.Runs.{Rest}
use Rattle.path_cond.proofs.starts.numbers.Given as goal

abbrev pub invariant-loop-value : goal.invariant-loop-value
invariant-loop-value l = record {
  rest : Rest (spec.numbers l.fn.ty l.fn.values) (spec.numbers l.fn.ty (drop l.value-index l.values)) (λ more. l.words ++ more) l.fn.terms l.terms;
  there : AllBelow (length l.terms.ops) l.words;
  many : length l.words ≡ l.value-index;
}
