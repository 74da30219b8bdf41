use Rattle.std.proofs.Common.{◌≡◌, arith, refl, sym, ap, ◌∙◌}
use Rattle.bit_circuits.specs.Runs.{Adds}
use Rattle.bit_circuits.specs.Words.{choose as choose_of, if_some as if_some_of}
use Rattle.bit_circuits.proofs.Construction.Steps.{ok_more, if_some-adds}
use Rattle.bit_circuits.proofs.arithmetic.if_some.Goals as goal

pub returns : goal.returns
returns c =
    ok_more (λ bits. Adds (choose_of c.in_ok-some.some c.args.xs.now c.args.ys.now) c.any.new.netlist c.choose.new.netlist bits.items) (λ bits. Adds (if_some_of c.args.tested.now c.args.xs.now c.args.ys.now) c.args.netlist.now c.choose.new.netlist bits.items) c.choose.result
    (λ bits a. if_some-adds c.args.tested.now c.args.xs.now c.args.ys.now bits.items _ _ _ _ _ c.falsity.ensures c.in_ok-some.ensures a) c.choose.ensures
