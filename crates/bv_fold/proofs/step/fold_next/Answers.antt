use Rattle.std.proofs.Common.{rules, length, sym, subst, ◌∙◌}
use Rattle.bv_fold.specs.Folding.{operands}
use Rattle.bv_fold.specs.Steps.{AreBelow, HasConstants}
use Rattle.bv_fold.proofs.Renamed.{operands_below}
use Rattle.bv_fold.proofs.NextFolds.{fits_at, over_folds_fits}
use Rattle.bv_fold.proofs.PutTerms.{stand_same, constant_same, constant_found}
use Rattle.bv_term.specs.Stores.{FitsOp}
use Rattle.bv_fold.proofs.step.fold_next.Goals as goal

pub over_folds-op-requires : goal.over_folds-op-requires
over_folds-op-requires c =
    let terms = c.args.terms.now in
    let o = c.op.result.now in
    subst (λ k. AreBelow k (operands o)) (sym c.requires.next)
    (operands_below (length terms.inputs) c.args.term o (fits_at terms c.args.term o c.len.ensures.store.fits (sym c.op.ensures)))

pub simplify-stand-requires : goal.simplify-stand-requires
simplify-stand-requires c =
    let terms = c.args.terms.now in
    subst (FitsOp (length terms.inputs) (length terms.ops)) (sym c.over_folds-op.ensures)
    (over_folds_fits terms c.args.folded.now c.args.term c.op.result.now c.len.ensures.store.fits (sym c.op.ensures) c.requires.next c.requires.folds)

pub returns-then-is_over_constants-clause-same : goal.returns-then-is_over_constants-clause-same
returns-then-is_over_constants-clause-same c =
    constant_same c.put_constant.result c.args.terms.now c.put_constant.new.terms c.args.words.now c.args.folded.now c.args.term _ c.op.result.now c.over_folds-op.result
    c.len.ensures.store.fits (sym c.op.ensures) c.requires.next c.requires.folds c.requires.words c.requires.word (search rules)
    c.over_folds-op.ensures (sym c.is_over_constants.ensures ∙ c.if-is_over_constants.true) c.put_constant.ensures.kept c.put_constant.ensures.put

pub returns-then-is_over_constants-clause-constant : goal.returns-then-is_over_constants-clause-constant
returns-then-is_over_constants-clause-constant c =
    constant_found (HasConstants c.args.terms.now.ops c.args.folded.now c.args.term) c.put_constant.result c.put_constant.new.terms _ c.put_constant.ensures.constant

pub returns-else-is_over_constants-clause-same : goal.returns-else-is_over_constants-clause-same
returns-else-is_over_constants-clause-same c =
    stand_same c.put_stand.result c.args.terms.now c.put_stand.new.terms c.args.folded.now c.args.term c.op.result.now c.over_folds-op.result c.simplify-stand.result
    c.len.ensures.store.fits (sym c.op.ensures) c.requires.next c.requires.folds c.over_folds-op.ensures c.simplify-stand.ensures c.put_stand.ensures.kept c.put_stand.ensures.put
