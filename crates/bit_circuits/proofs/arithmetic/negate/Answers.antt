use Rattle.std.proofs.Common.{◌≡◌, arith, refl, sym, ap, ◌∙◌}
use Rattle.bit_circuits.specs.Runs.{Adds}
use Rattle.bit_circuits.specs.Words.{subtract as subtract_of, negate as negate_of}
use Rattle.bit_circuits.proofs.Construction.Steps.{ok_more, negate-adds}
use Rattle.bit_circuits.proofs.arithmetic.negate.Goals as goal

pub returns : goal.returns
returns c =
    ok_more (λ bits. Adds (subtract_of c.as_slice.result.now c.args.xs.now) c.args.netlist.now c.subtract.new.netlist bits.items) (λ bits. Adds (negate_of c.args.xs.now) c.args.netlist.now c.subtract.new.netlist bits.items) c.subtract.result
    (λ bits a. negate-adds c.args.xs.now c.as_slice.result.now bits.items _ _ (c.as_slice.ensures.value ∙ c.in_ok-none.ensures) a) c.subtract.ensures
