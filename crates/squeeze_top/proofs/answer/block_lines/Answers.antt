-- At the end all lines are written.
use Rattle.squeeze_top.proofs.BlockLines.{no_lines, all_written}
use Rattle.squeeze_top.proofs.answer.block_lines.Goals as goal

pub returns : goal.returns
returns c = all_written c.loop-func.text.items _ _ (no_lines _ _ c.in-None.ensures.steps) c.loop-func.invariant
