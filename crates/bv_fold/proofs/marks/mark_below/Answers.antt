use Rattle.std.proofs.Common.{length, List, sym, ◌∙◌, subst}
use Rattle.bv_fold.specs.Folding.{operands}
use Rattle.bv_fold.specs.Gathered.{AreMarked, AreMoreMarks, IsMarked}
use Rattle.bv_fold.specs.Steps.{AreBelow}
use Rattle.bv_term.specs.declared.op.Op.{Op}
use Rattle.bv_fold.proofs.Renamed.{operands_below}
use Rattle.bv_fold.proofs.NextFolds.{fits_at}
use Rattle.bv_fold.proofs.TermFacts.{operands_there}
use Rattle.bv_fold.proofs.MarkedTerms.{with_more, with_marked, with_only, not_marked, some_same}
use Rattle.bv_fold.proofs.marks.mark_below.Goals as goal

pub mark_operands-requires : goal.mark_operands-requires
mark_operands-requires c =
    subst (λ k. AreBelow k (operands c.op.result.now)) (sym c.requires.count)
    (operands_there c.args.terms.now c.args.term c.op.result.now c.requires.there c.len.ensures.store.fits (sym c.op.ensures))

pub returns-then-marks-term-clause-more : goal.returns-then-marks-term-clause-more
returns-then-marks-term-clause-more c =
    subst (AreMoreMarks c.args.marks.now) (sym c.mark_operands.ensures) (with_more c.args.marks.now (operands c.op.result.now))

pub returns-then-marks-term-clause-below : goal.returns-then-marks-term-clause-below
returns-then-marks-term-clause-below c = λ o is _.
    let terms = c.args.terms.now in
    let here = c.op.result.now in
    let below = subst (λ k. AreBelow k (operands here)) (sym c.requires.count)
    (operands_there terms c.args.term here c.requires.there c.len.ensures.store.fits (sym c.op.ensures)) in
    subst (λ (x : Op). AreMarked c.mark_operands.new.marks (operands x)) (some_same here o (c.op.ensures ∙ is))
    (subst (λ (l : List _). AreMarked l (operands here)) (sym c.mark_operands.ensures) (with_marked c.args.marks.now (operands here) below))

pub returns-then-marks-term-clause-only : goal.returns-then-marks-term-clause-only
returns-then-marks-term-clause-only c = λ t above is.
    let terms = c.args.terms.now in
    let here = c.op.result.now in
    let below = operands_below (length terms.inputs) c.args.term here (fits_at terms c.args.term here c.len.ensures.store.fits (sym c.op.ensures)) in
    with_only c.args.marks.now (operands here) c.args.term t below above (subst (λ (l : List _). IsMarked l t) c.mark_operands.ensures is)

pub returns-else-marks-term-clause-below : goal.returns-else-marks-term-clause-below
returns-else-marks-term-clause-below c = λ o is marked. absurd (not_marked c.args.marks.now c.args.term c.if-marks-term.false marked)
