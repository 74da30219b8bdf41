use Rattle.std.proofs.Common.{arith, refl, sym, subst}
use Rattle.bit_circuits.specs.Words.{any as any_of}
use Rattle.bit_circuits.specs.Runs.{Adds}
use Rattle.bit_circuits.proofs.Circuits.Loops.{any-more, any-end}
use Rattle.bit_circuits.proofs.gate_words.any.Goals as goal

pub loop-i-preserved : goal.loop-i-preserved
loop-i-preserved c = any-more (λ t z. Adds (any_of c.args.some c.args.xs.now) c.args.netlist.now t z) c.args.xs.now c.loop-i.i c.index-xs-i.result c.loop-i.some c.in_ok-some.some c.loop-i.netlist c.add.new.self (omega arith) c.index-xs-i.is c.in_ok-some.ensures c.loop-i.invariant

pub returns : goal.returns
returns c = any-end (λ t z. Adds (any_of c.args.some c.args.xs.now) c.args.netlist.now t z) c.args.xs.now c.loop-i.i c.loop-i.some c.loop-i.netlist (omega arith) c.loop-i.invariant
