use Rattle.std.proofs.Common.{length, sym, ◌∙◌, arith}
use Rattle.std.proofs.lemmas.Bool.{false≢true}
use Rattle.text_lines.proofs.Leaving.{not_empty, is_empty}
use Rattle.cnf_form.proofs.Logs.LogLines.{hints_end, hints_grow_at_once, hints_grow_by, open_stray_hint}
use Rattle.cnf_form.proofs.log_line.end_hints.Goals as goal
use Rattle.std.proofs.iter.SplitParts.{length_zero-nil}

pub returns-then-is_word : goal.returns-then-is_word
returns-then-is_word c =
    rw (c.new.ensures.clause, c.new.ensures.hints) (hints_end c.args.clause c.args.hints.items c.args.rest.now c.requires.clause c.requires.small (c.is_word.ensures.0 c.if-is_word.true))

pub returns-then-is_empty : goal.returns-then-is_empty
returns-then-is_empty c =
    rw (length_zero-nil c.args.rest.now (is_empty (length c.args.rest.now) c.is_empty.result c.is_empty.ensures c.if-is_empty.true)) (hints_grow_at_once c.args.clause c.args.hints.items c.requires.clause c.requires.small)

pub returns-in-Some : goal.returns-in-Some
returns-in-Some c =
    hints_grow_by c.args.clause c.args.hints.items c.args.rest.now c.in-Some.field-0 c.requires.clause c.requires.small (omega (arith, c.in-Some.ensures.0)) c.in-Some.ensures.1

pub returns : goal.returns
returns c =
    open_stray_hint c.args.clause c.args.hints.items c.args.rest.now c.requires.clause c.requires.small c.requires.bare (not_empty (length c.args.rest.now) c.is_empty.result c.is_empty.ensures c.if-is_empty.false)
    (λ same. false≢true (sym c.if-is_word.false ∙ c.is_word.ensures.1 same)) (λ n few. c.in-None.ensures n (omega (arith, few)))
