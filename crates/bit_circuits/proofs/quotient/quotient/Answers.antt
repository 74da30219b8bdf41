use Rattle.std.proofs.Common.{◌≡◌, arith, refl, sym, ap, ◌∙◌, subst}
use Rattle.bit_circuits.specs.Runs.{Adds}
use Rattle.bit_circuits.specs.Words.{masked_word as masked_of, quotient_bits as quotient_of}
use Rattle.bit_circuits.proofs.Construction.Steps.{ok_more}
use Rattle.bit_circuits.proofs.Circuits.Widths.{quotient_bits-adds}
use Rattle.bit_circuits.proofs.quotient.quotient.Goals as goal

pub returns : goal.returns
returns c =
    ok_more (λ bits. Adds (masked_of c.in_ok-some.some c.as_slice.result.now) c.any.new.netlist c.masked.new.netlist bits.items) (λ bits. Adds (quotient_of c.args.xs.now c.args.ds.now) c.args.netlist.now c.masked.new.netlist bits.items) c.masked.result
    (λ bits a. quotient_bits-adds c.args.xs.now c.args.ds.now _ _ _ _ _ _ _ _ _ _ c.falsity.ensures c.as_slice.ensures.value c.in_ok-both.ensures c.in_ok-some.ensures a) c.masked.ensures
