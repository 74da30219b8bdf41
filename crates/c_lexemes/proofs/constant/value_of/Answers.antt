use Rattle.std.proofs.Common.{◌+◌, ◌*◌, ◌^◌, ◌≤◌, get_or, arith}
use Rattle.std.specs.Char.{digit_value}
use Rattle.c_lexemes.proofs.Numerals.{held-over, held-end}
use Rattle.c_lexemes.proofs.constant.value_of.Goals as goal

pub returns-in_err-scaled : goal.returns-in_err-scaled
returns-in_err-scaled c =
    let h = rw c.from-in-loop-byte.ensures at c.in_err-scaled.ensures in
    let i = c.loop-byte.byte-index in
    let over : 2 ^ 64 ≤ c.loop-byte.value * c.args.base + digit_value (get_or c.args.digits.now i 0) = omega arith in
    rw c.from_residual-in_err-scaled.ensures (held-over c.args.base c.loop-byte.value i c.args.digits.now c.requires.low c.loop-byte-test.true c.loop-byte.invariant.value over)

pub returns-in_err-value : goal.returns-in_err-value
returns-in_err-value c =
    let h = rw (c.in_ok-scaled.ensures.1, c.from-in-loop-byte.ensures, c.from-in-loop-byte-2.ensures, c.in_ok-digit.ensures.value.1, c.from.ensures) at c.in_err-value.ensures in
    let i = c.loop-byte.byte-index in
    let over : 2 ^ 64 ≤ c.loop-byte.value * c.args.base + digit_value (get_or c.args.digits.now i 0) = omega arith in
    rw c.from_residual-in_err-value.ensures (held-over c.args.base c.loop-byte.value i c.args.digits.now c.requires.low c.loop-byte-test.true c.loop-byte.invariant.value over)

pub returns : goal.returns
returns c =
    let kept = c.loop-byte.invariant in
    held-end c.args.base c.loop-byte.value c.loop-byte.byte-index c.args.digits.now kept.small kept.some c.loop-byte-test.false kept.value kept.numeral
