use Rattle.std.proofs.Common.{All, take}
use Rattle.search_tables.specs.Marking.{IsSeen}
use Rattle.search_tables.specs.Marking.{MarksMore}
use Rattle.search_tables.proofs.marks.Marks.mark.Given as goal

abbrev pub invariant-loop-literal : goal.invariant-loop-literal
invariant-loop-literal l = record {
  more : MarksMore l.trail.literals l.fn.self l.self;
  marked : All (IsSeen l.self.seen.items) (take l.literal-index l.literals);
}
