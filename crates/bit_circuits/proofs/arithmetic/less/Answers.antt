use Rattle.std.proofs.Common.{◌≡◌, arith, refl, sym, ap, ◌∙◌}
use Rattle.bit_circuits.specs.Runs.{Adds}
use Rattle.bit_circuits.proofs.Construction.Steps.{less-adds}
use Rattle.bit_circuits.proofs.arithmetic.less.Goals as goal

pub returns : goal.returns
returns c = less-adds c.args.xs.now c.args.ys.now c.as_slice.result.now _ _ _ _ _ c.truth.ensures (c.as_slice.ensures.value ∙ c.in_ok-others.ensures) c.negated.ensures c.in_ok-fits.ensures
