use Rattle.std.proofs.Common.{All, take}
use Rattle.search_tables.specs.Marking.{IsSeen}
use Rattle.search_tables.proofs.marks.Marks.are_seen.Given as goal

abbrev pub invariant-loop-literal : goal.invariant-loop-literal
invariant-loop-literal l = All (IsSeen l.self.seen.items) (take l.literal-index l.literals)
