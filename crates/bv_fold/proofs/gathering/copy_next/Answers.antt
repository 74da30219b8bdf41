use Rattle.std.proofs.Common.{◌<◌, length, sym, subst}
use Rattle.bv_term.specs.declared.op.Op.{Op}
use Rattle.bv_term.specs.Stores.{FitsOp}
use Rattle.bv_fold.specs.declared.stand.Stand.TheVariants as stand
use Rattle.bv_fold.specs.Folding.{operands}
use Rattle.bv_fold.specs.Gathered.{IsMarked, IsSameIn}
use Rattle.bv_fold.specs.Standing.{IsPut}
use Rattle.bv_fold.specs.Steps.{AreBelow}
use Rattle.bv_fold.proofs.Renamed.{operands_below}
use Rattle.bv_fold.proofs.NextFolds.{fits_at}
use Rattle.bv_fold.proofs.MarkedTerms.{marked_of, not_marked, operands_marked}
use Rattle.bv_fold.proofs.CopiedTerms.{copy_fits, copy_same}
use Rattle.bv_fold.proofs.PutTerms.{if_ok}
use Rattle.bv_fold.proofs.gathering.copy_next.Goals as goal

pub over_folds-requires : goal.over_folds-requires
over_folds-requires c =
    let terms = c.args.terms.now in
    let o = c.op.result.now in
    subst (λ k. AreBelow k (operands o)) (sym c.requires.next)
    (operands_below (length terms.inputs) c.args.next o (fits_at terms c.args.next o c.len.ensures.store.fits (sym c.op.ensures)))

pub put_operator-requires : goal.put_operator-requires
put_operator-requires c =
    let terms = c.args.terms.now in
    let apart = c.args.apart.now in
    let marks = c.args.marks.now in
    let o = c.op.result.now in
    let here = marked_of marks c.args.next (subst (λ k. c.args.next < k) (sym c.requires.count) c.requires.there) c.if-marks-next.true in
    subst (FitsOp (length apart.inputs) (length apart.ops)) (sym c.over_folds.ensures)
    (copy_fits terms apart marks c.args.numbers.now c.args.next o c.len.ensures.store.fits (sym c.op.ensures) c.requires.next c.requires.copied
    (operands_marked terms.ops marks c.args.next o c.requires.closed (sym c.op.ensures) here))

pub returns-then-marks-next-clause-same : goal.returns-then-marks-next-clause-same
returns-then-marks-next-clause-same c =
    let terms = c.args.terms.now in
    let apart = c.args.apart.now in
    let new = c.put_operator.new.terms in
    let marks = c.args.marks.now in
    let numbers = c.args.numbers.now in
    let o = c.op.result.now in
    let over = c.over_folds.result in
    if_ok (IsPut apart new (stand.Operator over)) (λ n. IsMarked marks c.args.next → IsSameIn terms new c.args.next n) c.put_operator.result c.put_operator.ensures.put
    (λ n put here. copy_same terms apart new marks numbers c.args.next n o c.len.ensures.store.fits (sym c.op.ensures) c.requires.next c.requires.copied
    (operands_marked terms.ops marks c.args.next o c.requires.closed (sym c.op.ensures) here) c.put_operator.ensures.kept
    (subst (λ (x : Op). IsPut apart new (stand.Operator x) n) c.over_folds.ensures put))

pub returns-else-marks-next-clause-same : goal.returns-else-marks-next-clause-same
returns-else-marks-next-clause-same c = λ marked. absurd (not_marked c.args.marks.now c.args.next c.if-marks-next.false marked)
