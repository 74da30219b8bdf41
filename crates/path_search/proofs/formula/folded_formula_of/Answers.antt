use Rattle.std.proofs.Common.{◌<◌, All, length, sym, subst}
use Rattle.path_search.proofs.FoldedLists.{each_there, folded_says}
use Rattle.path_search.proofs.formula.folded_formula_of.Goals as goal

pub blast-requires : goal.blast-requires
blast-requires c =
    let new = c.in_ok-folded.folded in
    subst (λ us. All (λ u. u < length new.terms.ops) us) (sym c.as_slice-2.ensures)
    (each_there c.in_ok-terms.field-0.terms new.terms c.as_slice.result.now new.numbers c.in_ok-folded.ensures.same)

pub returns-clause-says : goal.returns-clause-says
returns-clause-says c =
    let told = c.in_ok-terms.ensures in
    folded_says c.args.plan.now.program c.args.list.now c.in_ok-terms.field-0 c.as_slice.result.now c.as_slice-2.result.now
    c.in_ok-folded.folded c.blast.result told.terms told.drives told.inputs c.as_slice.ensures c.in_ok-folded.ensures
    c.len.ensures.store.fits c.as_slice-2.ensures c.blast.ensures.variables c.blast.ensures.clauses
