use Rattle.std.proofs.Common.{arith, refl, sym, subst}
use Rattle.bit_circuits.specs.Words.{differ as differ_of}
use Rattle.bit_circuits.specs.Runs.{Adds}
use Rattle.bit_circuits.proofs.Circuits.Loops.{differ-more, differ-end}
use Rattle.bit_circuits.proofs.gate_words.differ.Goals as goal

pub loop-i-preserved : goal.loop-i-preserved
loop-i-preserved c = differ-more (λ t z. Adds (differ_of c.args.some c.args.xs.now c.args.ys.now) c.args.netlist.now t z) c.args.xs.now c.args.ys.now c.loop-i.i c.index-xs-i.result c.index-ys-i.result c.loop-i.some c.in_ok-bit.bit c.in_ok-some.some c.loop-i.netlist c.add.new.self c.add-in-loop-i.new.self (omega arith) c.requires c.index-xs-i.is c.index-ys-i.is c.in_ok-bit.ensures c.in_ok-some.ensures c.loop-i.invariant

pub returns : goal.returns
returns c = differ-end (λ t z. Adds (differ_of c.args.some c.args.xs.now c.args.ys.now) c.args.netlist.now t z) c.args.xs.now c.args.ys.now c.loop-i.i c.loop-i.some c.loop-i.netlist (omega arith) c.loop-i.invariant
