use Rattle.std.proofs.Common.{◌≡◌, true, not, get_or, ap, sym, ◌∙◌}
use Rattle.cnf_form.specs.Forms.{is_gap}
use Rattle.text_lines.proofs.Bytes.{all_more}
use Rattle.cnf_form.proofs.word.word_len.Goals as goal

pub loop-i-preserved : goal.loop-i-preserved
loop-i-preserved c =
    let here : not (is_gap (get_or c.args.text.now c.loop-i.i 0)) ≡ true = ap not (sym c.is_gap.ensures ∙ c.if-is_gap.false) in
    all_more (λ b. not (is_gap b)) c.args.text.now c.loop-i.i c.loop-i-test.true c.loop-i.invariant here
