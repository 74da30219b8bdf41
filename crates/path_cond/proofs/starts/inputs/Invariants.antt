use Rattle.std.proofs.Common.{◌≡◌, ◌+◌, ◌-◌, ◌++◌, length}
use Rattle.cond_laws.specs.Conditions.{AllBelow}
use Rattle.cond_laws.specs.TermPaths as spec
use Rattle.term_steps.proofs.Runs.{Rest}
use Rattle.path_cond.proofs.starts.inputs.Given as goal

abbrev pub invariant-loop-k : goal.invariant-loop-k
invariant-loop-k l = record {
  rest : Rest (spec.input_terms l.fn.first l.fn.count) (spec.input_terms (l.fn.first + l.k) (l.fn.count - l.k)) (λ more. l.numbers ++ more) l.fn.terms l.terms;
  there : AllBelow (length l.terms.ops) l.numbers;
  many : length l.numbers ≡ l.k;
}
