use Rattle.std.proofs.Common.{◌≡◌, length, drop}
use Rattle.bv_fold.specs.Gathered.{marked_with}
use Rattle.bv_fold.specs.Steps.{AreBelow}
use Rattle.bv_fold.proofs.marks.mark_all.Given as goal

-- the terms that are left come to the same marks
abbrev pub invariant-loop-term : goal.invariant-loop-term
invariant-loop-term l = record {
  below : AreBelow (length l.marks) (drop l.term-index l.wanted);
  same : marked_with l.marks (drop l.term-index l.wanted) ≡ marked_with l.initial.marks l.wanted;
}
