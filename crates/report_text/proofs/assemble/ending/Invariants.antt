use Rattle.std.proofs.Common.{◌≡◌, length}
use Rattle.report_text.specs.Values.{end_of}
use Rattle.report_text.proofs.assemble.ending.Given as goal

abbrev pub invariant-loop-after : goal.invariant-loop-after
invariant-loop-after l = end_of l.rest ≡ end_of l.lines

abbrev pub decreases-loop-after : goal.decreases-loop-after
decreases-loop-after l = length l.rest
