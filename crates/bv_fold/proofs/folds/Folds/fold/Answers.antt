use Rattle.std.proofs.Common.{List, subst, sym, ap, ◌∙◌}
use Rattle.std.specs.Prelude.{slice_index}
use Rattle.bv_fold.specs.Folding.{IsFold}
use Rattle.bv_fold.specs.Remembered.{Remembered}
use Rattle.bv_fold.proofs.FoldedTerms.{remembered_is_fold}
use Rattle.bv_fold.proofs.folds.Folds.fold.Goals as goal

pub returns-clause-folded : goal.returns-clause-folded
returns-clause-folded c =
    let on = c.in_ok-go_on.ensures in
    let old = c.args.terms.now in
    let new = c.go_on.new.terms in
    let same = c.as_slice-2.ensures ∙ ap (λ (r : Remembered). r.folds) c.self-2.view_is in
    subst (λ (l : List _). IsFold old new c.args.term (slice_index l c.args.term)) (sym same)
    (remembered_is_fold old new c.go_on.new.self c.args.term on.kept on.remembered c.requires.there on.reached)
