use Rattle.std.proofs.Common.{arith, refl, sym, subst}
use Rattle.bit_circuits.specs.Words.{sum as sum_of}
use Rattle.bit_circuits.specs.Runs.{Adds}
use Rattle.bit_circuits.proofs.Circuits.Loops.{sum-more, sum-end}
use Rattle.bit_circuits.proofs.sum.sum.Goals as goal

pub loop-i-preserved : goal.loop-i-preserved
loop-i-preserved c = sum-more (λ t ls. Adds (sum_of c.args.carry c.args.xs.now c.args.ys.now) c.args.netlist.now t ls) c.args.xs.now c.args.ys.now c.loop-i.bits.items c.push.new.self.items c.loop-i.i c.index-xs-i.result c.index-ys-i.result c.loop-i.carry c.in_ok-half.half c.in_ok-bit.bit c.in_ok-carry.carry c.loop-i.netlist c.add.new.self c.add-in-loop-i.new.self c.add-in-loop-i-2.new.self (omega arith) c.requires c.index-xs-i.is c.index-ys-i.is c.in_ok-half.ensures c.in_ok-bit.ensures c.in_ok-carry.ensures c.in_ok-push.ensures.items c.loop-i.invariant

pub returns : goal.returns
returns c = sum-end (λ t ls. Adds (sum_of c.args.carry c.args.xs.now c.args.ys.now) c.args.netlist.now t ls) c.args.xs.now c.args.ys.now c.loop-i.bits.items _ c.loop-i.i c.loop-i.carry c.loop-i.netlist (omega arith) c.requires c.in_ok-push-2.ensures.items c.loop-i.invariant
