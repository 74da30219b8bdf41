-- Which gate two bits have.
use Rattle.std.specs.Prelude.{ℤ}
use Rattle.bit_circuits.specs.declared.gate.Gate.{Gate}
use Rattle.bit_circuits.specs.declared.gate.Gate.TheVariants as gates
use Rattle.bit_circuits.specs.declared.pair.Pair.{Pair}
use Rattle.bit_circuits.specs.declared.pair.Pair.TheVariants as pairs

abbrev pub gate_of : Pair → ℤ → ℤ → Gate
gate_of pairs.And x y = gates.And x y
gate_of pairs.Or x y = gates.Or x y
gate_of pairs.Xor x y = gates.Xor x y
gate_of (pairs.Choice c) x y = gates.Choice c x y
