use Rattle.std.proofs.Common.{◌<◌, ◌≤◌, length, [], reverse}
use Rattle.sat_search.specs.Tracing.{Traces}
use Rattle.search_tables.specs.Marking.{MarksMore}
use Rattle.sat_search.proofs.analysis.trace_level.Given as goal

abbrev pub invariant-loop-marks : goal.invariant-loop-marks
invariant-loop-marks l = record {
  more : MarksMore l.trail.literals l.fn.marks l.marks;
  behind : l.marks.low < l.place;
  inside : l.place ≤ length l.trail.literals;
  hinted : 0 < length l.hints.items;
  traced : Traces l.known l.trail.literals l.place l.marks.seen.items [] (reverse l.hints.items);
}

abbrev pub decreases-loop-marks : goal.decreases-loop-marks
decreases-loop-marks l = l.place
