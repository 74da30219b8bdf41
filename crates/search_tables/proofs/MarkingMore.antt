-- Marks, more and more of them.
use Rattle.std.proofs.Common.{ℤ, List, refl, ◌∙◌, arith}
use Rattle.search_tables.specs.declared.marks.Marks.{Marks}
use Rattle.search_tables.specs.Marking.{MarksMore}

pub MarksMore-same : (literals : List ℤ) (marks : Marks) → MarksMore literals marks marks
MarksMore-same literals marks = record {
  sized = refl;
  from = refl;
  lower = omega arith;
  above = λ h. h;
  grows = λ l h. h;
  low = λ h. h;
}

pub MarksMore-then : (literals : List ℤ) (one other last : Marks) → MarksMore literals one other → MarksMore literals other last → MarksMore literals one last
MarksMore-then literals one other last before after = record {
  sized = after.sized ∙ before.sized;
  from = after.from ∙ before.from;
  lower = omega (arith, before.lower, after.lower);
  above = λ h. after.above (before.above h);
  grows = λ l h. after.grows l (before.grows l h);
  low = λ h. after.low (before.low h);
}
