use Rattle.std.proofs.Common.{◌≡◌, length, take, codes, ◌∙◌, ap, sym, arith}
use Rattle.std.proofs.lemmas.Bool.{false≢true}
use Rattle.cnf_form.proofs.Logs.LogHeads.{stops_in_mark, no_mark}
use Rattle.cnf_form.proofs.log_head.log_head_of.Goals as goal

pub returns-then-is_word : goal.returns-then-is_word
returns-then-is_word c = stops_in_mark c.args.line.now (length c.args.line.now) (c.is_word.ensures.0 c.if-is_word.true ∙ ap (take (length c.args.line.now)) c.as_slice-mark.ensures)

pub returns-else-is_word : goal.returns-else-is_word
returns-else-is_word c =
    let mark : c.as_slice-mark.result.now ≡ codes "p log " = c.as_slice-mark.ensures in
    no_mark c.args.line.now (omega (arith, c.if-line-mark.true, ap length mark)) (λ same. false≢true (sym c.if-is_word.false ∙ c.is_word.ensures.1 (same ∙ ap (take (length c.args.line.now)) (sym mark))))
