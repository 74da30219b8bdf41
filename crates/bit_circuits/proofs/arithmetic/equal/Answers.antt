use Rattle.std.proofs.Common.{◌≡◌, arith, refl, sym, ap, ◌∙◌}
use Rattle.bit_circuits.specs.Runs.{Adds}
use Rattle.bit_circuits.proofs.Construction.Steps.{equal-adds}
use Rattle.bit_circuits.proofs.arithmetic.equal.Goals as goal

pub returns : goal.returns
returns c = equal-adds c.args.xs.now c.args.ys.now _ _ _ _ _ c.falsity.ensures c.negated.ensures c.in_ok-other.ensures
