use Rattle.std.proofs.Common.{length, arith}
use Rattle.text_lines.proofs.Leaving.{not_empty, is_empty}
use Rattle.cnf_form.proofs.Logs.LogHeads.{stray_number, stray_rest, whole_head}
use Rattle.cnf_form.proofs.log_head.head_behind_mark.Goals as goal

pub returns-in_default-number_of : goal.returns-in_default-number_of
returns-in_default-number_of c =
    stray_number c.args.behind.now c.in-Some.digits.now c.in-Some.rest.now c.in-Some.ensures.some (λ n few. c.in_default-number_of.ensures n (omega (arith, few, c.from.ensures)))

pub returns-then-not-is_empty : goal.returns-then-not-is_empty
returns-then-not-is_empty c =
    stray_rest c.args.behind.now c.in-Some.digits.now c.in-Some.rest.now c.in-Some.ensures.some (not_empty (length c.in-Some.rest.now) c.is_empty.result c.is_empty.ensures c.if-not-is_empty.true)

pub returns : goal.returns
returns c =
    whole_head c.args.behind.now c.in-Some.digits.now c.in-Some.rest.now c.in-Some-number_of.count c.in-Some.ensures.some (is_empty (length c.in-Some.rest.now) c.is_empty.result c.is_empty.ensures c.if-not-is_empty.false)
    (omega (arith, c.in-Some-number_of.ensures.0, c.from.ensures)) c.in-Some-number_of.ensures.1
