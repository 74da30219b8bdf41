use Rattle.std.proofs.Common.{◌≡◌, ◌<◌, ◌≤◌, ◌+◌, ◌*◌, ◌^◌, length, arith, refl, sym, ap, ◌∙◌, subst}
use Rattle.bit_circuits.specs.Runs.{Adds}
use Rattle.bit_circuits.specs.Words.{negate_if as negate_if_of, magnitude as magnitude_of}
use Rattle.bit_circuits.proofs.Construction.Steps.{ok_more}
use Rattle.bit_circuits.proofs.Construction.Turning.{magnitude-adds}
use Rattle.bit_circuits.proofs.sign.magnitude.Goals as goal

pub returns : goal.returns
returns c =
    ok_more (λ bits. Adds (negate_if_of c.top.result c.args.xs.now) c.args.netlist.now c.negate_if.new.netlist bits.items) (λ bits. Adds (magnitude_of c.args.xs.now) c.args.netlist.now c.negate_if.new.netlist bits.items) c.negate_if.result
    (λ bits a. magnitude-adds c.top.result c.args.xs.now bits.items _ _ c.top.ensures a) c.negate_if.ensures
