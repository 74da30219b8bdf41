use Rattle.std.proofs.Common.{sym, ◌∙◌}
use Rattle.cnf_form.specs.Forms.{is_gap}
use Rattle.text_lines.proofs.Bytes.{all_more}
use Rattle.cnf_form.proofs.word.gap_len.Goals as goal

pub loop-i-preserved : goal.loop-i-preserved
loop-i-preserved c = all_more is_gap c.args.text.now c.loop-i.i c.loop-i-test.true c.loop-i.invariant (sym c.is_gap.ensures ∙ c.if-not-is_gap.false)
