use Rattle.std.proofs.Common.{sym, ◌∙◌, ap, arith, Some}
use Rattle.std.proofs.lemmas.Bool.{false≢true}
use Rattle.report_text.specs.Texts.{same}
use Rattle.report_text.proofs.Numbers.{no_closed, same_number}
use Rattle.report_text.proofs.number.closed_course.Goals as goal

pub returns-in_default : goal.returns-in_default
returns-in_default c = no_closed c.args.digits.now c.args.limit c.args.except (omega (arith, c.ranges.limit)) (λ n within new is. c.in_default.ensures n (omega (arith, within, c.ranges.limit)) is)

pub returns-then-number-limit : goal.returns-then-number-limit
returns-then-number-limit c = no_closed c.args.digits.now c.args.limit c.args.except (omega (arith, c.ranges.limit)) (λ n within new is.
    let number = same_number c.args.digits.now n c.in-Some.number (omega (arith, within, c.ranges.limit)) c.in-Some.ensures.0 is c.in-Some.ensures.1 in
    omega (arith, number, within, c.if-number-limit.true))

pub returns-then-same : goal.returns-then-same
returns-then-same c = no_closed c.args.digits.now c.args.limit c.args.except (omega (arith, c.ranges.limit)) (λ n within new is.
    let number = same_number c.args.digits.now n c.in-Some.number (omega (arith, within, c.ranges.limit)) c.in-Some.ensures.0 is c.in-Some.ensures.1 in
    false≢true (sym new ∙ ap (λ m. same c.args.except (Some m)) number ∙ sym (c.if-same.ensures)))
