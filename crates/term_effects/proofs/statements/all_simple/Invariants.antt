use Rattle.std.proofs.Common.{◌++◌, length, drop}
use Rattle.cond_laws.specs.TermStatements as spec
use Rattle.cond_laws.specs.TermStatements.{effect_with}
use Rattle.cond_laws.specs.Conditions.{AllBelow}
use Rattle.cond_laws.specs.Fits.{FitStore}
use Rattle.term_steps.proofs.Runs.{Rest}
use Rattle.term_effects.proofs.statements.all_simple.Given as goal

-- the effect so far and that of the rest are all
abbrev pub invariant-loop-statement : goal.invariant-loop-statement
invariant-loop-statement l = record {
  rest : Rest (spec.simple_effects l.fn.statements l.fn.store) (spec.simple_effects (drop l.statement-index l.statements) l.store) (λ e. effect_with e.now (l.conditions ++ e.conditions)) l.fn.terms l.terms;
  there : FitStore (length l.terms.ops) l.store;
  conditions_in : AllBelow (length l.terms.ops) l.conditions;
}
