use Rattle.std.proofs.Common.{◌≡◌, ◌-◌, ◌+◌, ◌*◌, ◌++◌}
use Rattle.bit_circuits.specs.Formula.{variables_from, input_bits as input_bits_of}
use Rattle.bit_circuits.proofs.word.input_bits.Given as goal

abbrev pub invariant-loop-i : goal.invariant-loop-i
invariant-loop-i l = (l.next ≡ 2 + 32 * l.input + l.i) × (l.word.items ++ variables_from (32 - l.i) l.next ≡ input_bits_of l.input)
