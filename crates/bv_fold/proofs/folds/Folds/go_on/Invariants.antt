use Rattle.std.proofs.Common.{◌≡◌, ◌<◌, ◌≤◌, length}
use Rattle.bv_fold.specs.Folding.{IsExtended}
use Rattle.bv_fold.specs.Remembered.{IsRemembered}
use Rattle.bv_fold.proofs.folds.Folds.go_on.Given as goal

-- the terms so far are folded, and their words are there
abbrev pub invariant-loop-next : goal.invariant-loop-next
invariant-loop-next l = record {
  kept : IsExtended l.fn.terms l.terms;
  remembered : IsRemembered l.terms l.self;
  count : length l.self.folds ≡ l.next;
  all : l.term < length l.self.words;
  there : l.term < length l.terms.ops;
  last : l.first ≤ l.term;
}
