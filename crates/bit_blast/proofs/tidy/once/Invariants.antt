use Rattle.std.proofs.Common.{◌≡◌, drop}
use Rattle.bit_circuits.specs.Tidy.{once as once_of}
use Rattle.bit_blast.proofs.tidy.once.Given as goal

abbrev pub invariant-loop-i : goal.invariant-loop-i
invariant-loop-i l = l.kept.items ≡ once_of (drop l.i l.literals)
