use Rattle.std.proofs.Common.{rules, ◌+◌, slice_set, FitsSigned, subst, sym}
use Rattle.std.specs.Int.{w128}
use Rattle.std.proofs.lemmas.Bool.{false≢true}
use Rattle.std.proofs.lemmas.Int.{to_z-of_z}
use Rattle.bound_cert.proofs.Scaling.{Scaled, Scaled-start, Scaled-next, Scaled-stop, Scaled-all}
use Rattle.bound_cert.proofs.batch.scale.Goals as goal

pub loop-i-init : goal.loop-i-init
loop-i-init c = let fits_d = c.ranges.d in simp to_z-of_z (Scaled-start c.args.d c.args.costs.now c.args.reduced.now c.requires)

pub returns-in_err-reduced : goal.returns-in_err-reduced
returns-in_err-reduced c =
    let fits_d = c.ranges.d in
    let fits_cost : FitsSigned w128 c.from.result = search rules in
    let fails = simp c.from.ensures at (simp to_z-of_z at c.in_err-reduced.ensures) in
    let stops = Scaled-stop c.loop-i-test.true (simp to_z-of_z at c.loop-i.invariant) fails in
    rw c.from_residual.ensures (record { made = (λ yes. absurd (false≢true yes), λ stays. absurd (stops stays)); starts = search rules })

pub loop-i-preserved : goal.loop-i-preserved
loop-i-preserved c =
    let fits_d = c.ranges.d in
    let fits_cost : FitsSigned w128 c.from.result = search rules in
    let fits_value : FitsSigned w128 c.in_ok-reduced.field-0 = search rules in
    let scaled = simp c.from.ensures at (simp to_z-of_z at c.in_ok-reduced.ensures) in
    let next = Scaled-next c.loop-i-test.true (simp to_z-of_z at c.loop-i.invariant) scaled.0 in
    simp to_z-of_z (subst (λ z. Scaled c.args.d c.args.costs.now (c.loop-i.i + 1) (slice_set c.loop-i.reduced c.loop-i.i z)) (sym scaled.1) next)

pub returns : goal.returns
returns c =
    let fits_d = c.ranges.d in
    let all = Scaled-all c.loop-i-test.false (simp to_z-of_z at c.loop-i.invariant) in
    record { made = (λ yes. all.0, λ stays. search rules); starts = all.1 }
