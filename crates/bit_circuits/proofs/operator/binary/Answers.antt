use Rattle.std.proofs.Common.{◌≡◌, arith, refl, sym, ap, ◌∙◌, subst}
use Rattle.bit_circuits.specs.Words.{truth_word, equal as equal_of, less as less_of, less_signed as less_signed_of, shift_up, shift_down}
use Rattle.bit_circuits.specs.Binaries.{binary_bits}
use Rattle.bit_circuits.specs.Circuits.{done, ◌>>=◌}
use Rattle.bit_circuits.specs.Runs.{Adds}
use Rattle.bit_circuits.proofs.Construction.Steps.{ok_more, flag-adds}
use Rattle.bit_circuits.proofs.operator.binary.Goals as goal

pub returns-in-Add : goal.returns-in-Add
unfolding binary_bits
returns-in-Add c = rw c.in-Add.is c.add.ensures

pub returns-in-Sub : goal.returns-in-Sub
unfolding binary_bits
returns-in-Sub c = rw c.in-Sub.is c.subtract.ensures

pub returns-in-Mul : goal.returns-in-Mul
unfolding binary_bits
returns-in-Mul c = rw c.in-Mul.is c.multiply.ensures

pub returns-in-DivU : goal.returns-in-DivU
unfolding binary_bits
returns-in-DivU c = rw c.in-DivU.is c.quotient.ensures

pub returns-in-RemU : goal.returns-in-RemU
unfolding binary_bits
returns-in-RemU c = rw c.in-RemU.is c.remainder.ensures

pub returns-in-DivS : goal.returns-in-DivS
unfolding binary_bits
returns-in-DivS c = rw c.in-DivS.is c.quotient_signed.ensures

pub returns-in-RemS : goal.returns-in-RemS
unfolding binary_bits
returns-in-RemS c = rw c.in-RemS.is c.remainder_signed.ensures

pub returns-in-And : goal.returns-in-And
unfolding binary_bits
returns-in-And c = rw c.in-And.is c.pairwise.ensures

pub returns-in-Or : goal.returns-in-Or
unfolding binary_bits
returns-in-Or c = rw c.in-Or.is c.pairwise-in-Or.ensures

pub returns-in-Xor : goal.returns-in-Xor
unfolding binary_bits
returns-in-Xor c = rw c.in-Xor.is c.pairwise-in-Xor.ensures

pub returns-in-Shl : goal.returns-in-Shl
unfolding binary_bits shift_up
returns-in-Shl c = rw c.in-Shl.is c.stages.ensures

pub returns-in-ShrU : goal.returns-in-ShrU
unfolding binary_bits shift_down
returns-in-ShrU c = rw c.in-ShrU.is (rw c.falsity.ensures at c.stages-in-ShrU.ensures)

pub returns-in-ShrS : goal.returns-in-ShrS
unfolding binary_bits shift_down
returns-in-ShrS c = rw c.in-ShrS.is (rw c.top.ensures at c.stages-in-ShrS.ensures)

pub returns-in_ok-bit-in-Eq : goal.returns-in_ok-bit-in-Eq
unfolding binary_bits
returns-in_ok-bit-in-Eq c =
    rw c.in-Eq.is (ok_more (λ word. word.items ≡ truth_word 32 c.in_ok-bit-in-Eq.bit) (λ bits. Adds (equal_of c.args.xs.now c.args.ys.now >>= (λ l. done (truth_word 32 l))) c.args.netlist.now c.equal.new.netlist bits.items) c.truth_word.result
    (λ word e. flag-adds (equal_of c.args.xs.now c.args.ys.now) _ _ c.in_ok-bit-in-Eq.bit word.items c.in_ok-bit-in-Eq.ensures e) c.truth_word.ensures)

pub returns-in_ok-bit-in-LtU : goal.returns-in_ok-bit-in-LtU
unfolding binary_bits
returns-in_ok-bit-in-LtU c =
    rw c.in-LtU.is (ok_more (λ word. word.items ≡ truth_word 32 c.in_ok-bit-in-LtU.bit) (λ bits. Adds (less_of c.args.xs.now c.args.ys.now >>= (λ l. done (truth_word 32 l))) c.args.netlist.now c.less.new.netlist bits.items) c.truth_word-in-LtU.result
    (λ word e. flag-adds (less_of c.args.xs.now c.args.ys.now) _ _ c.in_ok-bit-in-LtU.bit word.items c.in_ok-bit-in-LtU.ensures e) c.truth_word-in-LtU.ensures)

pub returns-in_ok-bit-in-LtS : goal.returns-in_ok-bit-in-LtS
unfolding binary_bits
returns-in_ok-bit-in-LtS c =
    rw c.in-LtS.is (ok_more (λ word. word.items ≡ truth_word 32 c.in_ok-bit-in-LtS.bit) (λ bits. Adds (less_signed_of c.args.xs.now c.args.ys.now >>= (λ l. done (truth_word 32 l))) c.args.netlist.now c.less_signed.new.netlist bits.items) c.truth_word-in-LtS.result
    (λ word e. flag-adds (less_signed_of c.args.xs.now c.args.ys.now) _ _ c.in_ok-bit-in-LtS.bit word.items c.in_ok-bit-in-LtS.ensures e) c.truth_word-in-LtS.ensures)
