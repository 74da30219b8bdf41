use Rattle.std.proofs.Common.{sym, ◌∙◌, arith}
use Rattle.text_lines.proofs.Decimals.{wide, one_number}
use Rattle.cnf_form.proofs.number.number_of.Goals as goal

pub returns-then-number-from : goal.returns-then-number-from
returns-then-number-from c = λ n small same.
    let read = c.in_ok-number.ensures in
    let is = one_number n c.in_ok-number.number (wide n (omega (arith, small, c.requires))) (wide c.in_ok-number.number read.0) (sym same ∙ read.1) in
    omega (arith, is, small, c.from.ensures, c.if-number-from.true)
