use Rattle.std.proofs.Common.{◌≡◌, length}
use Rattle.bv_fold.specs.Gathered.{AreCopied}
use Rattle.bv_fold.proofs.gathering.copy_marked.Given as goal

-- the marked ones so far are copied
abbrev pub invariant-loop-next : goal.invariant-loop-next
invariant-loop-next l = record {
  count : length l.numbers ≡ l.next;
  copied : AreCopied l.terms l.apart l.marks l.numbers;
}
