use Rattle.std.proofs.Common.{◌≡◌, drop}
use Rattle.cnf_form.specs.Truth.{literal_true}
use Rattle.bit_circuits.specs.Words.{word_value}
use Rattle.bit_circuits.specs.Formula.{input_bits}
use Rattle.bit_blast.proofs.decoding.word_at.Given as goal

abbrev pub invariant-loop-bit : goal.invariant-loop-bit
invariant-loop-bit l = l.word ≡ word_value (literal_true l.values) (drop l.bit (input_bits l.n))
