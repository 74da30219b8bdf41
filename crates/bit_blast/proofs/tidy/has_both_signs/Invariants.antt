use Rattle.std.proofs.Common.{◌≡◌, drop}
use Rattle.bit_circuits.specs.Tidy.{has_both_signs as has_both_signs_of}
use Rattle.bit_blast.proofs.tidy.has_both_signs.Given as goal

abbrev pub invariant-loop-i : goal.invariant-loop-i
invariant-loop-i l = has_both_signs_of (drop l.i l.literals) ≡ has_both_signs_of l.literals
