use Rattle.std.proofs.Common.{rules, ◌+◌, slice_index_or, pos, ◌+ℤ◌, FitsSigned, subst, sym, drop, ◌∙◌, arith}
use lib.IntN.{+ℤ_idl}
use Rattle.std.specs.Int.{w128}
use Rattle.std.proofs.lemmas.Int.{to_z-of_z}
use Rattle.std.proofs.lemmas.List.{drop_more, drop_all}
use Rattle.lin_rows.specs.Steps.{total}
use Rattle.lin_rows.proofs.Summing.{Reached, Reached-next, Reached-stop, Reached-all, fold-plus}
use Rattle.bound_cert.specs.Dual.{weighted_rights}
use Rattle.bound_cert.proofs.dual.right_sides.Goals as goal

pub returns-in_err-sum : goal.returns-in_err-sum
returns-in_err-sum c =
    let i = c.loop-i.i in
    let row = c.index-rows-i.result in
    let fits_sum = c.loop-i.invariant.fits in
    let fits_y : FitsSigned w128 (slice_index_or c.args.y.now i (pos 0)) = search rules in
    let fits_right : FitsSigned w128 row.right = search rules in
    let fails = simp to_z-of_z at c.in_err-sum.ensures in
    let rows = drop_more c.args.rows.now i row c.loop-i-test.true in
    let ys = drop_more c.args.y.now i (pos 0) (omega (arith, c.requires)) in
    let reached = rw (rows, ys, ← c.index-rows-i.is) at c.loop-i.invariant in
    rw c.from_residual.ensures (Reached-stop reached fails)

pub loop-i-preserved : goal.loop-i-preserved
loop-i-preserved c =
    let i = c.loop-i.i in
    let row = c.index-rows-i.result in
    let fits_sum = c.loop-i.invariant.fits in
    let fits_y : FitsSigned w128 (slice_index_or c.args.y.now i (pos 0)) = search rules in
    let fits_right : FitsSigned w128 row.right = search rules in
    let added = simp to_z-of_z at c.in_ok-sum.ensures in
    let rows = drop_more c.args.rows.now i row c.loop-i-test.true in
    let ys = drop_more c.args.y.now i (pos 0) (omega (arith, c.requires)) in
    let reached = rw (rows, ys, ← c.index-rows-i.is) at c.loop-i.invariant in
    let next = subst (λ s. Reached (λ sum z. sum +ℤ z) (pos 0) (weighted_rights c.args.rows.now c.args.y.now) s (weighted_rights (drop (i + 1) c.args.rows.now) (drop (i + 1) c.args.y.now))) (sym added.1) (Reached-next reached added.0) in
    let fits_next = next.fits in
    simp to_z-of_z next

pub returns : goal.returns
returns c =
    let none = drop_all c.loop-i.i c.args.rows.now c.loop-i-test.false in
    let all = Reached-all (rw none at c.loop-i.invariant) in
    (all.0, all.1 ∙ fold-plus (pos 0) (weighted_rights c.args.rows.now c.args.y.now) ∙ +ℤ_idl (total (weighted_rights c.args.rows.now c.args.y.now)))
