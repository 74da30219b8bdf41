use Rattle.std.proofs.Common.{◌≡◌, ◌<◌, ◌≤◌, ◌+◌, ◌*◌, ◌^◌, length, arith, refl, sym, ap, ◌∙◌, subst}
use Rattle.bit_circuits.specs.Runs.{Adds}
use Rattle.bit_circuits.specs.Words.{negate_if as negate_if_of, remainder_signed as remainder_signed_of}
use Rattle.bit_circuits.proofs.Construction.Steps.{ok_more}
use Rattle.bit_circuits.proofs.Construction.Turning.{magnitude-wide, remainder_signed-adds}
use Rattle.bit_circuits.proofs.sign.remainder_signed.Goals as goal

pub remainder-requires : goal.remainder-requires
remainder-requires c = let e : length c.as_slice-2.result.now ≡ length c.args.ds.now = ap length c.as_slice-2.ensures.value ∙ magnitude-wide c.args.ds.now c.in_ok-divisor.ensures in omega arith

pub returns : goal.returns
returns c =
    ok_more (λ bits. Adds (negate_if_of c.top.result c.as_slice-3.result.now) c.remainder.new.netlist c.negate_if.new.netlist bits.items) (λ bits. Adds (remainder_signed_of c.args.xs.now c.args.ds.now) c.args.netlist.now c.negate_if.new.netlist bits.items) c.negate_if.result
    (λ bits a. remainder_signed-adds c.args.xs.now c.args.ds.now _ _ _ _ _ _ bits.items _ _ _ _ _ _ c.as_slice.ensures.value c.as_slice-2.ensures.value c.top.ensures c.as_slice-3.ensures.value
    c.in_ok-dividend.ensures c.in_ok-divisor.ensures c.in_ok-bits.ensures a) c.negate_if.ensures
