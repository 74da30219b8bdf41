use Rattle.term_steps.proofs.Growing.{judged_stays, store_stays}
use Rattle.term_steps.proofs.ExpressionRuns.{mapped}
use Rattle.term_effects.proofs.EffectRuns.{compound_runs}
use Rattle.term_effects.proofs.assignments.assigned_value.Goals as goal

pub expr-requires-in-Some : goal.expr-requires-in-Some
expr-requires-in-Some c = store_stays c.requires c.in_ok-before-in-Some.ensures.grows

pub operated-requires-clause-p_in : goal.operated-requires-clause-p_in
operated-requires-clause-p_in c = judged_stays c.in_ok-before-in-Some.ensures.fits c.in_ok-value-in-Some.ensures.grows

pub returns-in_ok-value-in-Some : goal.returns-in_ok-value-in-Some
returns-in_ok-value-in-Some c = mapped _ c.operated.result c.operated.ensures (λ j h. compound_runs c.args.place.now c.args.value.now c.args.store.now c.in-Some.op c.in-Some.is c.in_ok-before-in-Some.ensures c.in_ok-value-in-Some.ensures h)
