use Rattle.std.proofs.Common.{◌≡◌, get_or, sym, ◌∙◌, arith}
use Rattle.cnf_form.proofs.Words.Decimals.{minus_split, no_integer_behind_minus, no_minus_zero}
use Rattle.cnf_form.proofs.number.integer_of.Goals as goal

pub returns-in_err-number-in-45 : goal.returns-in_err-number-in-45
returns-in_err-number-in-45 c =
    let first : get_or c.args.bytes.now 0 0 ≡ 45 = grind arith in
    let split = minus_split c.args.bytes.now c.in-45.len_at_least first in
    let none = rw c.from.ensures at c.in_err-number-in-45.ensures in
    rw c.from_residual.ensures (λ z small same. no_integer_behind_minus _ none z small (sym split ∙ same))

pub returns-then-number-eq0 : goal.returns-then-number-eq0
returns-then-number-eq0 c = λ z small same.
    let first : get_or c.args.bytes.now 0 0 ≡ 45 = grind arith in
    let split = minus_split c.args.bytes.now c.in-45.len_at_least first in
    no_minus_zero _ (rw c.if-number-eq0.true at c.in_ok-number-in-45.ensures.1) z small (sym split ∙ same)
