use Rattle.std.proofs.Common.{◌≡◌, ◌++◌, drop}
use Rattle.graph_lists.specs.Spans.{spot_spans}
use Rattle.graph_lists.proofs.interval.spans_of.Given as goal

-- the loop copies so far, and then the rest, are all
abbrev pub invariant-loop-test : goal.invariant-loop-test
invariant-loop-test l = l.spans ++ spot_spans l.test (drop l.test l.spots) ≡ spot_spans 0 l.spots
