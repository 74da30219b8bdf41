use Rattle.std.proofs.Common.{arith, refl, sym, subst}
use Rattle.bit_circuits.specs.Words.{carry as carry_of}
use Rattle.bit_circuits.specs.Runs.{Adds}
use Rattle.bit_circuits.proofs.Circuits.Loops.{carry-more, carry-end}
use Rattle.bit_circuits.proofs.sum.carry.Goals as goal

pub loop-i-preserved : goal.loop-i-preserved
loop-i-preserved c = carry-more (λ t z. Adds (carry_of c.args.carry c.args.xs.now c.args.ys.now) c.args.netlist.now t z) c.args.xs.now c.args.ys.now c.loop-i.i c.index-xs-i.result c.index-ys-i.result c.loop-i.carry c.in_ok-carry.carry c.loop-i.netlist c.add.new.self (omega arith) c.requires c.index-xs-i.is c.index-ys-i.is c.in_ok-carry.ensures c.loop-i.invariant

pub returns : goal.returns
returns c = carry-end (λ t z. Adds (carry_of c.args.carry c.args.xs.now c.args.ys.now) c.args.netlist.now t z) c.args.xs.now c.args.ys.now c.loop-i.i c.loop-i.carry c.loop-i.netlist (omega arith) c.loop-i.invariant
