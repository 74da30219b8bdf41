use Rattle.std.proofs.Common.{◌==◌, not, get_or, ap, ne_eqb}
use Rattle.text_lines.proofs.Bytes.{all_more}
use Rattle.text_lines.proofs.line.first_line.Goals as goal

pub loop-i-preserved : goal.loop-i-preserved
loop-i-preserved c = all_more (λ b. not (b == 10)) c.args.text.now c.loop-i.i c.loop-i-test.true c.loop-i.invariant (ap not (ne_eqb (get_or c.args.text.now c.loop-i.i 0) 10 c.if-byte-eq10.false))
