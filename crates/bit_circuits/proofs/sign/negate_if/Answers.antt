use Rattle.std.proofs.Common.{◌≡◌, ◌<◌, ◌≤◌, ◌+◌, ◌*◌, ◌^◌, length, arith, refl, sym, ap, ◌∙◌, subst}
use Rattle.bit_circuits.specs.Runs.{Adds}
use Rattle.bit_circuits.specs.Words.{choose as choose_of, negate_if as negate_if_of}
use Rattle.bit_circuits.proofs.Construction.Steps.{ok_more}
use Rattle.bit_circuits.proofs.Construction.Turning.{negate-wide, negate_if-adds}
use Rattle.bit_circuits.proofs.sign.negate_if.Goals as goal

pub choose-requires : goal.choose-requires
choose-requires c = ap length c.as_slice.ensures.value ∙ negate-wide c.args.xs.now c.in_ok-negated.ensures

pub returns : goal.returns
returns c =
    ok_more (λ bits. Adds (choose_of c.args.chooser c.as_slice.result.now c.args.xs.now) c.negate.new.netlist c.choose.new.netlist bits.items) (λ bits. Adds (negate_if_of c.args.chooser c.args.xs.now) c.args.netlist.now c.choose.new.netlist bits.items) c.choose.result
    (λ bits a. negate_if-adds c.args.chooser c.args.xs.now _ _ bits.items _ _ _ c.as_slice.ensures.value c.in_ok-negated.ensures a) c.choose.ensures
