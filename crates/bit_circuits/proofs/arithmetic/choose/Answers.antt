use Rattle.std.proofs.Common.{◌≡◌, arith, refl, sym, ap, ◌∙◌}
use Rattle.bit_circuits.specs.Runs.{Adds}
use Rattle.bit_circuits.specs.declared.gate.Gate.TheVariants as gates
use Rattle.bit_circuits.specs.Words.{pairwise as pairwise_of, choose as choose_of}
use Rattle.bit_circuits.proofs.Construction.Steps.{ok_more, choose-adds}
use Rattle.bit_circuits.proofs.arithmetic.choose.Goals as goal

pub returns : goal.returns
returns c =
    ok_more (λ bits. Adds (pairwise_of (λ x y. gates.Choice c.args.chooser x y) c.args.xs.now c.args.ys.now) c.args.netlist.now c.pairwise.new.netlist bits.items) (λ bits. Adds (choose_of c.args.chooser c.args.xs.now c.args.ys.now) c.args.netlist.now c.pairwise.new.netlist bits.items) c.pairwise.result
    (λ bits a. choose-adds c.args.chooser c.args.xs.now c.args.ys.now bits.items _ _ a) c.pairwise.ensures
