use Rattle.std.proofs.Common.{length}
use Rattle.cost_document.proofs.NumberedKeys.{Marks}
use Rattle.cost_document.proofs.numbers.mark_numbers.Given as goal

abbrev pub invariant-loop-key : goal.invariant-loop-key
invariant-loop-key l = Marks l.function (length l.fn.held) l.entries.entries l.key-iterator l.held
