use Rattle.std.proofs.Common.{◌≡◌, ◌-◌, ◌++◌}
use Rattle.bit_circuits.specs.Words.{constant_bits as constant_of}
use Rattle.bit_circuits.proofs.word.constant.Given as goal

abbrev pub invariant-loop-i : goal.invariant-loop-i
invariant-loop-i l = l.word.items ++ constant_of (32 - l.i) l.rest ≡ constant_of 32 l.number
