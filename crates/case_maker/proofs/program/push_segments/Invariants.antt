use Rattle.std.proofs.Common.{◌≡◌, ◌++◌, take}
use Rattle.std.specs.List.{flat_map}
use Rattle.case_maker.specs.Lines.{joined_lines, segment_lines}
use Rattle.case_maker.proofs.program.push_segments.Given as goal

abbrev pub invariant-loop-segment : goal.invariant-loop-segment
invariant-loop-segment l = l.text.items ≡ l.fn.text.items ++ joined_lines (flat_map segment_lines (take l.segment-index l.segments))
