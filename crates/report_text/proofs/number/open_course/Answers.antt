use Rattle.std.proofs.Common.{◌≡◌, true, sym, ◌∙◌, ap, arith, Some}
use Rattle.report_text.specs.Texts.{same}
use Rattle.report_text.proofs.Numbers.{no_open, stops_whole, stops_longer, front_small, same_number, not_again}
use Rattle.report_text.proofs.number.open_course.Goals as goal

pub returns-in_default : goal.returns-in_default
returns-in_default c = no_open c.args.digits.now c.args.limit c.args.except (omega (arith, c.ranges.limit)) c.requires.some c.requires.«open» (λ k n is within new cases.
    c.in_default.ensures k (front_small k n c.args.limit within (omega (arith, c.ranges.limit)) cases).1 is)

pub returns-then-number-limit : goal.returns-then-number-limit
returns-then-number-limit c = no_open c.args.digits.now c.args.limit c.args.except (omega (arith, c.ranges.limit)) c.requires.some c.requires.«open» (λ k n is within new cases.
    let small = front_small k n c.args.limit within (omega (arith, c.ranges.limit)) cases in
    let number = same_number c.args.digits.now k c.in-Some.number small.1 c.in-Some.ensures.0 is c.in-Some.ensures.1 in
    omega (arith, small.0, number, within, c.if-number-limit.true))

pub returns-then-not-same : goal.returns-then-not-same
returns-then-not-same c = stops_whole c.args.digits.now c.args.limit c.args.except c.in-Some.number c.if-number-limit.false (sym (c.if-not-same.ensures)) c.in-Some.ensures.1

pub returns-then-number-eq0 : goal.returns-then-number-eq0
returns-then-number-eq0 c = no_open c.args.digits.now c.args.limit c.args.except (omega (arith, c.ranges.limit)) c.requires.some c.requires.«open» (λ k n is within new cases.
    let small = front_small k n c.args.limit within (omega (arith, c.ranges.limit)) cases in
    let number = same_number c.args.digits.now k c.in-Some.number small.1 c.in-Some.ensures.0 is c.in-Some.ensures.1 in
    let old : same c.args.except (Some k) ≡ true = ap (λ m. same c.args.except (Some m)) number ∙ sym (c.if-not-same.ensures) in
    not_again c.args.except k n old new (λ more. omega (arith, more.0, number, c.if-number-eq0.true)) cases)

pub returns-then-number-limit-2 : goal.returns-then-number-limit-2
returns-then-number-limit-2 c = stops_longer c.args.digits.now c.args.limit c.args.except c.in-Some.number (omega (arith, c.ranges.limit)) (omega (arith, c.if-number-eq0.false)) c.if-number-limit-2.true (sym (c.if-not-same.ensures)) c.in-Some.ensures.1

pub returns-else-number-limit-2 : goal.returns-else-number-limit-2
returns-else-number-limit-2 c = no_open c.args.digits.now c.args.limit c.args.except (omega (arith, c.ranges.limit)) c.requires.some c.requires.«open» (λ k n is within new cases.
    let small = front_small k n c.args.limit within (omega (arith, c.ranges.limit)) cases in
    let number = same_number c.args.digits.now k c.in-Some.number small.1 c.in-Some.ensures.0 is c.in-Some.ensures.1 in
    let old : same c.args.except (Some k) ≡ true = ap (λ m. same c.args.except (Some m)) number ∙ sym (c.if-not-same.ensures) in
    not_again c.args.except k n old new (λ more. omega (arith, more.1, number, within, c.if-number-limit-2.false)) cases)
