use Rattle.std.proofs.Common.{rules, arith, ◌+◌, pos, ◌+ℤ◌, slice_index_or, FitsSigned, subst, sym, drop, ap, ◌∙◌}
use Rattle.std.specs.Int.{w128}
use Rattle.std.proofs.lemmas.Int.{to_z-of_z}
use Rattle.std.proofs.lemmas.List.{drop_more, drop_all}
use Rattle.lin_rows.proofs.Summing.{Reached, Reached-next, Reached-stop, Reached-all, fold-plus}
use Rattle.bound_cert.specs.Batches.{best_products}
use Rattle.bound_cert.proofs.batch.add_best.Goals as goal

pub returns-in_err-sum : goal.returns-in_err-sum
returns-in_err-sum c =
    let i = c.loop-i.i in
    let left = slice_index_or c.args.reduced.now i (pos 0) in
    let fits_start = c.ranges.sum in
    let fits_sum = c.loop-i.invariant.fits in
    let fits_left : FitsSigned w128 left = search rules in
    let fits_count : FitsSigned w128 c.from-count.result = search rules in
    let count = c.from-count.ensures ∙ ap pos (simp to_z-of_z at c.best_limit.ensures) in
    let fails = rw count at (simp to_z-of_z at c.in_err-sum.ensures) in
    let lefts = drop_more c.args.reduced.now i (pos 0) c.loop-i-test.true in
    let limits = drop_more c.args.limits.now i (0, 0) (omega (arith, c.requires)) in
    let reached = rw (lefts, limits) at (simp to_z-of_z at c.loop-i.invariant) in
    rw c.from_residual.ensures (Reached-stop reached fails)

pub loop-i-preserved : goal.loop-i-preserved
loop-i-preserved c =
    let i = c.loop-i.i in
    let left = slice_index_or c.args.reduced.now i (pos 0) in
    let fits_start = c.ranges.sum in
    let fits_sum = c.loop-i.invariant.fits in
    let fits_left : FitsSigned w128 left = search rules in
    let fits_count : FitsSigned w128 c.from-count.result = search rules in
    let count = c.from-count.ensures ∙ ap pos (simp to_z-of_z at c.best_limit.ensures) in
    let added = rw count at (simp to_z-of_z at c.in_ok-sum.ensures) in
    let lefts = drop_more c.args.reduced.now i (pos 0) c.loop-i-test.true in
    let limits = drop_more c.args.limits.now i (0, 0) (omega (arith, c.requires)) in
    let reached = rw (lefts, limits) at (simp to_z-of_z at c.loop-i.invariant) in
    let next = subst (λ s. Reached (λ s z. s +ℤ z) c.args.sum (best_products c.args.reduced.now c.args.limits.now) s (best_products (drop (i + 1) c.args.reduced.now) (drop (i + 1) c.args.limits.now))) (sym added.1) (Reached-next reached added.0) in
    let fits_next = next.fits in
    simp to_z-of_z next

pub returns : goal.returns
returns c =
    let fits_start = c.ranges.sum in
    let none = drop_all c.loop-i.i c.args.reduced.now c.loop-i-test.false in
    let all = Reached-all (rw none at (simp to_z-of_z at c.loop-i.invariant)) in
    (all.0, all.1 ∙ fold-plus c.args.sum (best_products c.args.reduced.now c.args.limits.now))
