use Rattle.std.proofs.Common.{arith, refl, sym, subst}
use Rattle.bit_circuits.specs.Words.{masked_word as masked_of}
use Rattle.bit_circuits.specs.Runs.{Adds}
use Rattle.bit_circuits.proofs.Circuits.Loops.{masked_word-more, masked_word-end}
use Rattle.bit_circuits.proofs.gate_words.masked.Goals as goal

pub loop-i-preserved : goal.loop-i-preserved
loop-i-preserved c = masked_word-more (λ t ls. Adds (masked_of c.args.chosen c.args.xs.now) c.args.netlist.now t ls) c.args.chosen c.args.xs.now c.loop-i.bits.items c.push.new.self.items c.loop-i.i c.index-xs-i.result c.in_ok-bit.bit c.loop-i.netlist c.add.new.self (omega arith) c.index-xs-i.is c.in_ok-bit.ensures c.in_ok-push.ensures.items c.loop-i.invariant

pub returns : goal.returns
returns c = masked_word-end (λ t ls. Adds (masked_of c.args.chosen c.args.xs.now) c.args.netlist.now t ls) c.args.chosen c.args.xs.now c.loop-i.bits.items c.loop-i.i c.loop-i.netlist (omega arith) c.loop-i.invariant
