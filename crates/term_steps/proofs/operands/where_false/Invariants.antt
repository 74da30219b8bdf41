use Rattle.std.proofs.Common.{◌++◌, length, drop}
use Rattle.cond_laws.specs.TermOperators as spec
use Rattle.cond_laws.specs.Conditions.{AllBelow}
use Rattle.term_steps.proofs.Runs.{Rest}
use Rattle.term_steps.proofs.operands.where_false.Given as goal

abbrev pub invariant-loop-condition : goal.invariant-loop-condition
invariant-loop-condition l = record {
  rest : Rest (spec.conditions_where_false l.fn.chooser l.fn.conditions) (spec.conditions_where_false l.fn.chooser (drop l.condition-index l.conditions)) (λ cs. l.chosen ++ cs) l.fn.terms l.terms;
  there : AllBelow (length l.terms.ops) l.chosen;
}
