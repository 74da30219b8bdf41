-- The bits of operators of two words.
use Rattle.std.specs.Prelude.{ℤ, List}
use Rattle.bit_circuits.specs.declared.gate.Gate.TheVariants as gates
use Rattle.bit_circuits.specs.declared.binary.Binary.{Binary}
use Rattle.bit_circuits.specs.declared.binary.Binary.TheVariants as binary
use Rattle.bit_circuits.specs.Circuits.{Circuit, done, ◌>>=◌}
use Rattle.bit_circuits.specs.Words.{
  false_literal,
  truth_word,
  top,
  pairwise,
  add,
  subtract,
  multiply,
  quotient_bits,
  remainder_bits,
  quotient_signed,
  remainder_signed,
  shift_up,
  shift_down,
  equal,
  less,
  less_signed,
}

unfoldable pub binary_bits : Binary → List ℤ → List ℤ → Circuit (List ℤ)
binary_bits binary.Add xs ys = add xs ys
binary_bits binary.Sub xs ys = subtract xs ys
binary_bits binary.Mul xs ys = multiply xs ys
binary_bits binary.DivU xs ys = quotient_bits xs ys
binary_bits binary.RemU xs ys = remainder_bits xs ys
binary_bits binary.DivS xs ys = quotient_signed xs ys
binary_bits binary.RemS xs ys = remainder_signed xs ys
binary_bits binary.Shl xs ys = shift_up xs ys
binary_bits binary.ShrU xs ys = shift_down false_literal xs ys
binary_bits binary.ShrS xs ys = shift_down (top xs) xs ys
binary_bits binary.And xs ys = pairwise (λ l m. gates.And l m) xs ys
binary_bits binary.Or xs ys = pairwise (λ l m. gates.Or l m) xs ys
binary_bits binary.Xor xs ys = pairwise (λ l m. gates.Xor l m) xs ys
binary_bits binary.Eq xs ys = equal xs ys >>= (λ l. done (truth_word 32 l))
binary_bits binary.LtU xs ys = less xs ys >>= (λ l. done (truth_word 32 l))
binary_bits binary.LtS xs ys = less_signed xs ys >>= (λ l. done (truth_word 32 l))
