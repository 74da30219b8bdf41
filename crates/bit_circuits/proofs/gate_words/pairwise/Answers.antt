use Rattle.std.proofs.Common.{arith, refl, sym, subst}
use Rattle.bit_circuits.specs.Words.{pairwise as pairwise_of}
use Rattle.bit_circuits.specs.Pairs.{gate_of}
use Rattle.bit_circuits.specs.Circuits.{gate}
use Rattle.bit_circuits.specs.Runs.{Adds}
use Rattle.bit_circuits.proofs.Circuits.Loops.{pairwise-more, pairwise-end}
use Rattle.bit_circuits.proofs.gate_words.pairwise.Goals as goal

pub loop-i-preserved : goal.loop-i-preserved
loop-i-preserved c = pairwise-more (λ t ls. Adds (pairwise_of (gate_of c.args.kind.now) c.args.xs.now c.args.ys.now) c.args.netlist.now t ls) (gate_of c.args.kind.now) c.args.xs.now c.args.ys.now c.loop-i.bits.items c.push.new.self.items c.loop-i.i c.index-xs-i.result c.index-ys-i.result c.in_ok-bit.bit c.loop-i.netlist c.add.new.self (omega arith) c.requires c.index-xs-i.is c.index-ys-i.is (subst (λ g. Adds (gate g) c.loop-i.netlist c.add.new.self c.in_ok-bit.bit) c.gate_of.ensures c.in_ok-bit.ensures) c.in_ok-push.ensures.items c.loop-i.invariant

pub returns : goal.returns
returns c = pairwise-end (λ t ls. Adds (pairwise_of (gate_of c.args.kind.now) c.args.xs.now c.args.ys.now) c.args.netlist.now t ls) (gate_of c.args.kind.now) c.args.xs.now c.args.ys.now c.loop-i.bits.items c.loop-i.i c.loop-i.netlist (omega arith) c.loop-i.invariant
