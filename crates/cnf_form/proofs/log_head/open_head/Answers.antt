use Rattle.std.proofs.Common.{length, arith}
use Rattle.text_lines.proofs.Leaving.{not_empty, is_empty}
use Rattle.cnf_form.proofs.Logs.LogHeads.{lacks_number, lacks_feed, open_stray}
use Rattle.cnf_form.proofs.log_head.open_head.Goals as goal

pub returns-then-is_empty : goal.returns-then-is_empty
returns-then-is_empty c = lacks_number c.args.behind.now (is_empty (length c.args.behind.now) c.is_empty.result c.is_empty.ensures c.if-is_empty.true)

pub returns-in-Some : goal.returns-in-Some
returns-in-Some c = lacks_feed c.args.behind.now c.in-Some.field-0 (omega (arith, c.in-Some.ensures.0, c.from.ensures)) c.in-Some.ensures.1

pub returns-in-None : goal.returns-in-None
returns-in-None c =
    let some = not_empty (length c.args.behind.now) c.is_empty.result c.is_empty.ensures c.if-is_empty.false in
    open_stray c.args.behind.now c.requires some (λ n few. c.in-None.ensures n (omega (arith, few, c.from.ensures)))
