use Rattle.std.proofs.Common.{◌≡◌, ◌+◌, false, drop}
use Rattle.c_tree.specs.Meaning.Spans.{list_span}
use Rattle.c_spans.specs.Capped.{capped_span}
use Rattle.c_spans.proofs.spans.+spans.Given as goal

-- the spans of the statements so far and of the rest are that of the list
abbrev pub invariant-list_span-loop-stmt : goal.invariant-list_span-loop-stmt
invariant-list_span-loop-stmt l = record {
  cut : capped_span l.total ≡ l.total;
  whole : capped_span (l.total + list_span l.above l.k (drop l.stmt-index l.stmts) l.run) ≡ capped_span (list_span l.above l.k l.stmts false);
}
