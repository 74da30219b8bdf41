use Rattle.std.proofs.Common.{◌≡◌, ◌++◌, None, length}
use Rattle.report_text.specs.Values.{values_of}
use Rattle.report_text.proofs.assemble.values.Given as goal

abbrev pub invariant-loop-value : goal.invariant-loop-value
invariant-loop-value l = l.values.items ++ values_of l.before l.rest ≡ values_of None l.lines

abbrev pub decreases-loop-value : goal.decreases-loop-value
decreases-loop-value l = length l.rest
