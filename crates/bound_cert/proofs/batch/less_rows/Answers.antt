use Rattle.std.proofs.Common.{rules, arith, ◌+◌, pos, slice_index_or, FitsSigned, drop, refl}
use Rattle.std.specs.Int.{w128}
use Rattle.std.proofs.lemmas.Bool.{false≢true}
use Rattle.std.proofs.lemmas.Int.{to_z-of_z}
use Rattle.std.proofs.lemmas.List.{drop_more, drop_all}
use Rattle.bound_cert.specs.Dual.{weighted_terms, weighted_factors}
use Rattle.bound_cert.proofs.Batches.{Pending-lists, Pending-lists_stop, Pending-all}
use Rattle.bound_cert.proofs.batch.less_rows.Goals as goal

pub returns-in_err-less_terms : goal.returns-in_err-less_terms
returns-in_err-less_terms c =
    let i = c.loop-i.i in
    let row = c.index-rows-i.result in
    let y = slice_index_or c.args.y.now i (pos 0) in
    let fits_y : FitsSigned w128 y = search rules in
    let made = rw c.terms.ensures at (simp to_z-of_z at c.in_err-less_terms.ensures.made) in
    let rows = drop_more c.args.rows.now i row c.loop-i-test.true in
    let ys = drop_more c.args.y.now i (pos 0) (omega (arith, c.requires)) in
    let pending = rw (rows, ys, ← c.index-rows-i.is) at c.loop-i.invariant in
    let stops = Pending-lists_stop (weighted_terms y row.terms) (weighted_factors (drop (i + 1) c.args.rows.now) (drop (i + 1) c.args.y.now)) pending (λ stays. false≢true (made.1 stays)) in
    rw c.from_residual.ensures (record { made = (λ yes. absurd (false≢true yes), λ stays. absurd (stops stays)); left = search rules })

pub loop-i-preserved : goal.loop-i-preserved
loop-i-preserved c =
    let i = c.loop-i.i in
    let row = c.index-rows-i.result in
    let y = slice_index_or c.args.y.now i (pos 0) in
    let fits_y : FitsSigned w128 y = search rules in
    let made = rw c.terms.ensures at (simp to_z-of_z at c.in_ok-less_terms.ensures.made) in
    let left = rw c.terms.ensures at (simp to_z-of_z at c.in_ok-less_terms.ensures.left) in
    let rows = drop_more c.args.rows.now i row c.loop-i-test.true in
    let ys = drop_more c.args.y.now i (pos 0) (omega (arith, c.requires)) in
    let pending = rw (rows, ys, ← c.index-rows-i.is) at c.loop-i.invariant in
    let next = Pending-lists (weighted_terms y row.terms) (weighted_factors (drop (i + 1) c.args.rows.now) (drop (i + 1) c.args.y.now)) pending (made.0 refl) in
    rw left next

pub returns : goal.returns
returns c =
    let all = Pending-all (rw (drop_all c.loop-i.i c.args.rows.now c.loop-i-test.false) at c.loop-i.invariant) in
    record { made = (λ yes. all.0, λ stays. search rules); left = all.1 }
