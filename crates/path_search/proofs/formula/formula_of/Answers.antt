use Rattle.std.proofs.Common.{length, sym, subst}
use Rattle.cond_laws.specs.Conditions.{AllBelow}
use Rattle.path_search.proofs.Findings.{each_below, blasted_says}
use Rattle.path_search.proofs.formula.formula_of.Goals as goal

pub blast-requires : goal.blast-requires
blast-requires c =
    let k = length c.in_ok-condition.condition.terms.ops in
    each_below k c.as_slice.result.now (subst (AllBelow k) (sym c.as_slice.ensures) c.in_ok-condition.ensures.fits.conditions)

pub returns-clause-says : goal.returns-clause-says
returns-clause-says c =
    let told = c.in_ok-condition.ensures in
    blasted_says c.args.plan.now.program c.args.list.now c.in_ok-condition.condition c.as_slice.result.now c.blast.result
    told.terms told.drives told.fits c.as_slice.ensures c.blast.ensures.variables c.blast.ensures.clauses
