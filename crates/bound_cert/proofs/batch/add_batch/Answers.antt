use Rattle.std.proofs.Common.{rules, FitsSigned, refl}
use Rattle.std.specs.Int.{w128}
use Rattle.std.proofs.lemmas.Bool.{false≢true}
use Rattle.std.proofs.lemmas.Int.{to_z-of_z}
use Rattle.bound_cert.proofs.Batches.{batch-parts, best_products-lefts}
use Rattle.bound_cert.proofs.Edges.{SomeIff-same}
use Rattle.bound_cert.proofs.batch.add_batch.Goals as goal

pub returns-in_err-scale : goal.returns-in_err-scale
returns-in_err-scale c =
    let fits_d : FitsSigned w128 c.args.by.now.d = search rules in
    let made = simp to_z-of_z at c.in_err-scale.ensures.made in
    let parts = batch-parts c.args.rows.now c.args.by.now c.args.first c.args.sum c.args.costs.now c.args.limits.now c.requires.limits in
    rw c.from_residual.ensures (λ h. false≢true (made.1 (parts.0 h).0))

pub returns-in_err-less_rows : goal.returns-in_err-less_rows
returns-in_err-less_rows c =
    let fits_d : FitsSigned w128 c.args.by.now.d = search rules in
    let started = simp to_z-of_z at c.in_ok-scale.ensures.starts in
    let made = rw (c.rows.ensures, c.y.ensures, started) at c.in_err-less_rows.ensures.made in
    let parts = batch-parts c.args.rows.now c.args.by.now c.args.first c.args.sum c.args.costs.now c.args.limits.now c.requires.limits in
    rw c.from_residual-in_err-less_rows.ensures (λ h. false≢true (made.1 (parts.0 h).1))

pub returns : goal.returns
returns c =
    let fits_d : FitsSigned w128 c.args.by.now.d = search rules in
    let fits_sum = c.ranges.sum in
    let scaled = simp to_z-of_z at c.in_ok-scale.ensures.made in
    let started = simp to_z-of_z at c.in_ok-scale.ensures.starts in
    let made = rw (c.rows.ensures, c.y.ensures, started) at c.in_ok-less_rows.ensures.made in
    let left = rw (c.rows.ensures, c.y.ensures, started) at c.in_ok-less_rows.ensures.left in
    let products = best_products-lefts c.args.rows.now c.args.by.now c.args.first c.args.costs.now c.args.limits.now in
    let added = rw left at (simp to_z-of_z at c.add_best.ensures) in
    let parts = batch-parts c.args.rows.now c.args.by.now c.args.first c.args.sum c.args.costs.now c.args.limits.now c.requires.limits in
    rw (← products) (SomeIff-same _ _ _ _ (λ h. (parts.0 h).2) (λ h. parts.1 (scaled.0 refl, made.0 refl, h)) added)
