use Rattle.std.proofs.Common.{◌≡◌, ◌-◌, length}
use Rattle.bv_fold.specs.Gathered.{AreClosedFrom, AreMoreMarks}
use Rattle.bv_fold.proofs.marks.close.Given as goal

-- the last terms are closed
abbrev pub invariant-loop-done : goal.invariant-loop-done
invariant-loop-done l = record {
  more : AreMoreMarks l.initial.marks l.marks;
  count : length l.marks ≡ length l.terms.ops;
  closed : AreClosedFrom l.terms.ops (l.count - l.done) l.marks;
}
