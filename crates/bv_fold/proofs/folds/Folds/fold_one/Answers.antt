use Rattle.std.proofs.Common.{length, List, sym, ap, ◌∙◌, subst}
use Rattle.std.specs.Prelude.{slice_get}
use Rattle.bv_fold.specs.Folding.{IsConst}
use Rattle.bv_fold.specs.Remembered.{Remembered, IsRemembered}
use Rattle.bv_fold.specs.Steps.{HasConstants}
use Rattle.bv_fold.proofs.FoldedTerms.{remembered_further, one_remembered}
use Rattle.bv_fold.proofs.folds.Folds.fold_one.Goals as goal

pub returns-in_err-number-clause-remembered : goal.returns-in_err-number-clause-remembered
returns-in_err-number-clause-remembered c =
    remembered_further c.args.terms.now c.fold_next.new.terms c.args.self.now c.fold_next.ensures.kept c.fold_next.ensures.fits c.requires.remembered

pub returns-in_err-push-clause-remembered : goal.returns-in_err-push-clause-remembered
returns-in_err-push-clause-remembered c =
    let inside = c.self.inside in
    let old = c.args.terms.now in
    let new = c.fold_next.new.terms in
    subst (λ (l : List _). IsRemembered new (record { folds = l; words = inside.words })) (sym c.in_err-push.ensures.err)
    (remembered_further old new (record { folds = inside.folds; words = inside.words }) c.fold_next.ensures.kept c.fold_next.ensures.fits
    (subst (IsRemembered old) (sym c.self.view_is) c.requires.remembered))

pub returns-clause-remembered : goal.returns-clause-remembered
returns-clause-remembered c =
    let inside = c.self.inside in
    let old = c.args.terms.now in
    let new = c.fold_next.new.terms in
    let step = c.in_ok-number.ensures in
    one_remembered old new (record { folds = inside.folds; words = inside.words }) c.push.new.self c.args.next c.in_ok-number.number
    step.kept step.fits (subst (IsRemembered old) (sym c.self.view_is) c.requires.remembered)
    (ap (λ (r : Remembered). length r.folds) c.self.view_is ∙ c.requires.next) c.requires.there step.same
    (subst (λ l. HasConstants old.ops l c.args.next → IsConst (slice_get new.ops c.in_ok-number.number)) c.as_slice-2.ensures step.constant)
    c.in_ok-push.ensures.ok
