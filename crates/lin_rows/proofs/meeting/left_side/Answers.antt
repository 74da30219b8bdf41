use Rattle.std.proofs.Common.{rules, ◌+◌, slice_index_or, pos, FitsSigned, ◌+ℤ◌, subst, sym, drop, ap, ◌∙◌}
use lib.IntN.{+ℤ_idl}
use Rattle.std.specs.Int.{w128}
use Rattle.std.proofs.lemmas.Int.{to_z-of_z}
use Rattle.std.proofs.lemmas.List.{at_drop_more, at_drop_all}
use Rattle.lin_rows.specs.Meeting.{products, left_side}
use Rattle.lin_rows.proofs.Summing.{Reached, Reached-next, Reached-stop, Reached-all, fold-plus}
use Rattle.lin_rows.proofs.meeting.left_side.Goals as goal

pub returns-in_err-sum : goal.returns-in_err-sum
returns-in_err-sum c =
    let i = c.loop-edge.edge-index in
    let fits_sum = c.loop-edge.invariant.fits in
    let fits_factor : FitsSigned w128 (slice_index_or c.args.terms.now i (0, pos 0)).1 = search rules in
    let fits_count : FitsSigned w128 c.from-count.result = search rules in
    let count = c.from-count.ensures ∙ ap (λ e. pos (slice_index_or c.args.counts.now e 0)) c.from.ensures in
    let fails = simp count at (simp to_z-of_z at c.in_err-sum.ensures) in
    let more = at_drop_more (λ ts. products ts c.args.counts.now) c.args.terms.now i (0, pos 0) c.loop-edge-test.true in
    let reached = rw more at c.loop-edge.invariant in
    rw c.from_residual.ensures (Reached-stop reached fails)

pub loop-edge-preserved : goal.loop-edge-preserved
loop-edge-preserved c =
    let i = c.loop-edge.edge-index in
    let fits_sum = c.loop-edge.invariant.fits in
    let fits_factor : FitsSigned w128 (slice_index_or c.args.terms.now i (0, pos 0)).1 = search rules in
    let fits_count : FitsSigned w128 c.from-count.result = search rules in
    let count = c.from-count.ensures ∙ ap (λ e. pos (slice_index_or c.args.counts.now e 0)) c.from.ensures in
    let added = simp count at (simp to_z-of_z at c.in_ok-sum.ensures) in
    let more = at_drop_more (λ ts. products ts c.args.counts.now) c.args.terms.now i (0, pos 0) c.loop-edge-test.true in
    let reached = rw more at c.loop-edge.invariant in
    let next = subst (λ s. Reached (λ sum z. sum +ℤ z) (pos 0) (products c.args.terms.now c.args.counts.now) s (products (drop (i + 1) c.args.terms.now) c.args.counts.now)) (sym added.1) (Reached-next reached added.0) in
    let fits_next = next.fits in
    simp to_z-of_z next

pub returns : goal.returns
returns c =
    let none = at_drop_all (λ ts. products ts c.args.counts.now) c.args.terms.now c.loop-edge.edge-index c.loop-edge-test.false in
    let all = Reached-all (rw none at c.loop-edge.invariant) in
    (all.0, all.1 ∙ fold-plus (pos 0) (products c.args.terms.now c.args.counts.now) ∙ +ℤ_idl (left_side c.args.terms.now c.args.counts.now))
