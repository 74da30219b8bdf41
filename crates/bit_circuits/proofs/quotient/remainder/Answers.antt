use Rattle.std.proofs.Common.{◌≡◌, arith, refl, sym, ap, ◌∙◌, subst}
use Rattle.bit_circuits.specs.Runs.{Adds}
use Rattle.bit_circuits.proofs.Circuits.Widths.{remainder_bits-adds}
use Rattle.bit_circuits.proofs.quotient.remainder.Goals as goal

pub returns : goal.returns
returns c = remainder_bits-adds c.args.xs.now c.args.ds.now _ _ _ _ c.in_ok-both.ensures
