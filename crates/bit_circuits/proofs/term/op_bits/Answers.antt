use Rattle.std.proofs.Common.{◌≡◌, map, neg_ℤ, arith, refl, sym, ap, ◌∙◌, subst}
use Rattle.bit_circuits.specs.Words.{constant_bits}
use Rattle.bit_circuits.specs.Formula.{input_bits, bits_at, op_bits}
use Rattle.bit_circuits.specs.Binaries.{binary_bits}
use Rattle.bit_circuits.specs.Circuits.{done}
use Rattle.bit_circuits.specs.Runs.{Adds}
use Rattle.bit_circuits.proofs.Construction.Steps.{ok_more, done-same}
use Rattle.bit_circuits.proofs.term.op_bits.Goals as goal

pub returns-in-Input : goal.returns-in-Input
unfolding op_bits
returns-in-Input c =
    rw c.in-Input.is (ok_more (λ w. w.items ≡ input_bits c.in-Input.n) (λ w. Adds (done (input_bits c.in-Input.n)) c.args.netlist.now c.args.netlist.now w.items) c.input_bits.result
    (λ w e. done-same (input_bits c.in-Input.n) w.items c.args.netlist.now e) c.input_bits.ensures)

pub returns-in-Const : goal.returns-in-Const
unfolding op_bits
returns-in-Const c =
    rw c.in-Const.is (ok_more (λ w. w.items ≡ constant_bits 32 c.in-Const.n) (λ w. Adds (done (constant_bits 32 c.in-Const.n)) c.args.netlist.now c.args.netlist.now w.items) c.constant.result
    (λ w e. done-same (constant_bits 32 c.in-Const.n) w.items c.args.netlist.now e) c.constant.ensures)

pub returns-in-Not : goal.returns-in-Not
unfolding op_bits
returns-in-Not c =
    let bits = bits_at (map (λ w. w.items) c.args.words.now) c.in-Not.a in
    rw c.in-Not.is (ok_more (λ w. w.items ≡ map neg_ℤ c.bits_at.result.now) (λ w. Adds (done (map neg_ℤ bits)) c.args.netlist.now c.args.netlist.now w.items) c.turned.result
    (λ w e. done-same (map neg_ℤ bits) w.items c.args.netlist.now (e ∙ ap (map neg_ℤ) c.bits_at.ensures)) c.turned.ensures)

pub returns-in-Neg : goal.returns-in-Neg
unfolding op_bits
returns-in-Neg c = rw c.in-Neg.is (rw c.bits_at-in-Neg.ensures at c.negate.ensures)

pub returns-in-Add : goal.returns-in-Add
unfolding op_bits binary_bits
returns-in-Add c = rw c.in-Add.is (rw (c.bits_at-in-Add.ensures, c.bits_at-in-Add-2.ensures) at c.binary.ensures)

pub returns-in-Sub : goal.returns-in-Sub
unfolding op_bits binary_bits
returns-in-Sub c = rw c.in-Sub.is (rw (c.bits_at-in-Sub.ensures, c.bits_at-in-Sub-2.ensures) at c.binary-in-Sub.ensures)

pub returns-in-Mul : goal.returns-in-Mul
unfolding op_bits binary_bits
returns-in-Mul c = rw c.in-Mul.is (rw (c.bits_at-in-Mul.ensures, c.bits_at-in-Mul-2.ensures) at c.binary-in-Mul.ensures)

pub returns-in-DivU : goal.returns-in-DivU
unfolding op_bits binary_bits
returns-in-DivU c = rw c.in-DivU.is (rw (c.bits_at-in-DivU.ensures, c.bits_at-in-DivU-2.ensures) at c.binary-in-DivU.ensures)

pub returns-in-RemU : goal.returns-in-RemU
unfolding op_bits binary_bits
returns-in-RemU c = rw c.in-RemU.is (rw (c.bits_at-in-RemU.ensures, c.bits_at-in-RemU-2.ensures) at c.binary-in-RemU.ensures)

pub returns-in-DivS : goal.returns-in-DivS
unfolding op_bits binary_bits
returns-in-DivS c = rw c.in-DivS.is (rw (c.bits_at-in-DivS.ensures, c.bits_at-in-DivS-2.ensures) at c.binary-in-DivS.ensures)

pub returns-in-RemS : goal.returns-in-RemS
unfolding op_bits binary_bits
returns-in-RemS c = rw c.in-RemS.is (rw (c.bits_at-in-RemS.ensures, c.bits_at-in-RemS-2.ensures) at c.binary-in-RemS.ensures)

pub returns-in-Shl : goal.returns-in-Shl
unfolding op_bits binary_bits
returns-in-Shl c = rw c.in-Shl.is (rw (c.bits_at-in-Shl.ensures, c.bits_at-in-Shl-2.ensures) at c.binary-in-Shl.ensures)

pub returns-in-ShrU : goal.returns-in-ShrU
unfolding op_bits binary_bits
returns-in-ShrU c = rw c.in-ShrU.is (rw (c.bits_at-in-ShrU.ensures, c.bits_at-in-ShrU-2.ensures) at c.binary-in-ShrU.ensures)

pub returns-in-ShrS : goal.returns-in-ShrS
unfolding op_bits binary_bits
returns-in-ShrS c = rw c.in-ShrS.is (rw (c.bits_at-in-ShrS.ensures, c.bits_at-in-ShrS-2.ensures) at c.binary-in-ShrS.ensures)

pub returns-in-And : goal.returns-in-And
unfolding op_bits binary_bits
returns-in-And c = rw c.in-And.is (rw (c.bits_at-in-And.ensures, c.bits_at-in-And-2.ensures) at c.binary-in-And.ensures)

pub returns-in-Or : goal.returns-in-Or
unfolding op_bits binary_bits
returns-in-Or c = rw c.in-Or.is (rw (c.bits_at-in-Or.ensures, c.bits_at-in-Or-2.ensures) at c.binary-in-Or.ensures)

pub returns-in-Xor : goal.returns-in-Xor
unfolding op_bits binary_bits
returns-in-Xor c = rw c.in-Xor.is (rw (c.bits_at-in-Xor.ensures, c.bits_at-in-Xor-2.ensures) at c.binary-in-Xor.ensures)

pub returns-in-Eq : goal.returns-in-Eq
unfolding op_bits binary_bits
returns-in-Eq c = rw c.in-Eq.is (rw (c.bits_at-in-Eq.ensures, c.bits_at-in-Eq-2.ensures) at c.binary-in-Eq.ensures)

pub returns-in-LtU : goal.returns-in-LtU
unfolding op_bits binary_bits
returns-in-LtU c = rw c.in-LtU.is (rw (c.bits_at-in-LtU.ensures, c.bits_at-in-LtU-2.ensures) at c.binary-in-LtU.ensures)

pub returns-in-LtS : goal.returns-in-LtS
unfolding op_bits binary_bits
returns-in-LtS c = rw c.in-LtS.is (rw (c.bits_at-in-LtS.ensures, c.bits_at-in-LtS-2.ensures) at c.binary-in-LtS.ensures)

pub returns-in-Ite : goal.returns-in-Ite
unfolding op_bits
returns-in-Ite c = rw c.in-Ite.is (rw (c.bits_at-in-Ite.ensures, c.bits_at-in-Ite-2.ensures, c.bits_at-in-Ite-3.ensures) at c.if_some.ensures)
