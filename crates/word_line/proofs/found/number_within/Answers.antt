-- A number that is read and lies outside the limits is the only one that is written.
use Rattle.std.proofs.Common.{arith, sym, ◌∙◌}
use Rattle.word_line.proofs.Writing.{is_read}
use Rattle.word_line.proofs.found.number_within.Goals as goal

pub returns-then-number-from-clause-none : goal.returns-then-number-from-clause-none
returns-then-number-from-clause-none c = λ n h.
    let same = is_read c.args.text.now c.args.least c.args.most c.in_ok-number.number n c.ranges.most.fits
    c.in_ok-number.ensures.0 (sym c.as_bytes.ensures.value ∙ c.in_ok-number.ensures.1) h in
    omega (arith, same, h.enough, c.if-number-from.true, c.from.ensures)

pub returns-then-number-from-2-clause-none : goal.returns-then-number-from-2-clause-none
returns-then-number-from-2-clause-none c = λ n h.
    let same = is_read c.args.text.now c.args.least c.args.most c.in_ok-number.number n c.ranges.most.fits
    c.in_ok-number.ensures.0 (sym c.as_bytes.ensures.value ∙ c.in_ok-number.ensures.1) h in
    omega (arith, same, h.within, c.if-number-from-2.true, c.from-2.ensures)
