use Rattle.std.proofs.Common.{◌++◌, length, drop}
use Rattle.cond_laws.specs.TermExpressions as spec
use Rattle.cond_laws.specs.Conditions.{AllBelow}
use Rattle.term_steps.proofs.Runs.{Rest}
use Rattle.term_steps.proofs.expressions.all_exprs.Given as goal

-- the values so far and those of the rest are all
abbrev pub invariant-loop-e : goal.invariant-loop-e
invariant-loop-e l = record {
  rest : Rest (spec.all_exprs l.fn.exprs l.store) (spec.all_exprs (drop l.e-index l.exprs) l.store) (λ more. spec.listed_terms (l.values ++ more.terms) (l.conditions ++ more.conditions)) l.fn.terms l.terms;
  values_in : AllBelow (length l.terms.ops) l.values;
  conditions_in : AllBelow (length l.terms.ops) l.conditions;
}
