use Rattle.std.proofs.Common.{◌≡◌, take}
use Rattle.bit_blast.proofs.blasting.operators.Given as goal

abbrev pub invariant-loop-term : goal.invariant-loop-term
invariant-loop-term l = l.ops.items ≡ take l.term l.terms.ops
