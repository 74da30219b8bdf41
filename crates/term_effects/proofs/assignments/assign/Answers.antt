use Rattle.std.proofs.Common.{arith}
use Rattle.term_steps.proofs.Growing.{judged_stays, store_stays}
use Rattle.term_steps.proofs.ExpressionRuns.{mapped}
use Rattle.term_effects.proofs.EffectRuns.{scalar_assigned, element_assigned}
use Rattle.term_effects.proofs.assignments.assign.Goals as goal

pub assigned_value-requires-in-Elem : goal.assigned_value-requires-in-Elem
assigned_value-requires-in-Elem c = store_stays c.requires c.in_ok-at-in-Elem.ensures.grows

pub put_element-requires-clause-there : goal.put_element-requires-clause-there
put_element-requires-clause-there c = store_stays c.requires (omega (arith, c.in_ok-at-in-Elem.ensures.grows, c.in_ok-value-in-Elem.ensures.grows))

pub put_element-requires-clause-at_in : goal.put_element-requires-clause-at_in
put_element-requires-clause-at_in c = judged_stays c.in_ok-at-in-Elem.ensures.fits c.in_ok-value-in-Elem.ensures.grows

pub returns-in_ok-value-in-Scalar : goal.returns-in_ok-value-in-Scalar
returns-in_ok-value-in-Scalar c = scalar_assigned c.args.op.now c.args.value.now c.args.store.now _ c.in-Scalar.x c.in-Scalar.is c.put_term.ensures c.requires c.in_ok-value-in-Scalar.ensures

pub returns-in_ok-value-in-Elem : goal.returns-in_ok-value-in-Elem
returns-in_ok-value-in-Elem c = mapped _ c.put_element.result c.put_element.ensures (λ cs h. element_assigned c.args.op.now c.args.value.now c.args.store.now c.in-Elem.x c.in-Elem.is c.in_ok-at-in-Elem.ensures c.in_ok-value-in-Elem.ensures h)
