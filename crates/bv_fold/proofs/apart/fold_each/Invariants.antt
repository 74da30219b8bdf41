use Rattle.std.proofs.Common.{length, take, drop}
use Rattle.bv_fold.specs.Folding.{IsExtended}
use Rattle.bv_fold.specs.Gathered.{AreSameIn}
use Rattle.bv_fold.specs.Remembered.{IsRemembered}
use Rattle.bv_fold.specs.Steps.{AreBelow}
use Rattle.bv_fold.proofs.apart.fold_each.Given as goal

-- the wanted terms so far are folded
abbrev pub invariant-loop-term : goal.invariant-loop-term
invariant-loop-term l = record {
  kept : IsExtended l.fn.terms l.terms;
  remembered : IsRemembered l.terms l.folds;
  same : AreSameIn l.fn.terms l.terms (take l.term-index l.wanted) l.numbers;
  below : AreBelow (length l.fn.terms.ops) (drop l.term-index l.wanted);
}
