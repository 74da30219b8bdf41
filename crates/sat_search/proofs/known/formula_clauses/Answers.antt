use Rattle.sat_search.proofs.Knowing.{copied_more}
use Rattle.sat_search.proofs.known.formula_clauses.Goals as goal

pub loop-clause-preserved : goal.loop-clause-preserved
loop-clause-preserved c =
    copied_more c.args.clauses.now c.loop-clause.known _ c.loop-clause.clause-index c.clause-item.result c.literals.result.now c.loop-clause-test.true c.clause-item.is c.literals.ensures.value c.loop-clause.invariant c.in_ok-push.ensures
