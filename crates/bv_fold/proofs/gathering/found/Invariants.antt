use Rattle.std.proofs.Common.{◌≡◌, ◌++◌, length, drop, map}
use Rattle.std.specs.Prelude.{slice_index}
use Rattle.bv_fold.specs.Steps.{AreBelow}
use Rattle.bv_fold.proofs.gathering.found.Given as goal

-- the numbers so far, and those of the terms that are left
abbrev pub invariant-loop-term : goal.invariant-loop-term
invariant-loop-term l = record {
  below : AreBelow (length l.numbers) (drop l.term-index l.wanted);
  all : l.found ++ map (slice_index l.numbers) (drop l.term-index l.wanted) ≡ map (slice_index l.numbers) l.wanted;
}
