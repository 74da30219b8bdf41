use Rattle.std.proofs.Common.{sym, subst, FitsSigned}
use Rattle.std.specs.Int.{w128}
use Rattle.std.proofs.lemmas.Int.{to_z-of_z}
use Rattle.lin_rows.proofs.Summing.{SomeIff-two}
use Rattle.lin_rows.proofs.steps.subtract_product.Goals as goal

pub returns : goal.returns
returns c =
    let fits_rest = c.ranges.rest in
    let fits_factor = c.ranges.factor in
    let fits_count = c.ranges.count in
    let product = simp to_z-of_z at c.in_ok-checked_mul.ensures in
    let fits_product = subst (FitsSigned w128) (sym product.1) product.0 in
    SomeIff-two _ _ _ product.0 (simp product.1 at (simp to_z-of_z at c.checked_sub.ensures))
