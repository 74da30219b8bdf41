use Rattle.std.proofs.Common.{rules, arith, ◌≡◌, ◌≢◌, ◌<◌, ◌+◌, ◌-◌, ◌∷◌, ℕ, ◌*ℤ◌, pos, length, slice_index_or, slice_set, FitsSigned, subst, sym, drop}
use Rattle.std.specs.Int.{w128}
use Rattle.std.proofs.lemmas.Bool.{false≢true}
use Rattle.std.proofs.lemmas.Int.{to_z-of_z}
use Rattle.std.proofs.lemmas.List.{drop_more, drop_all}
use Rattle.bound_cert.specs.Dual.{weighted_terms}
use Rattle.bound_cert.proofs.Batches.{OneMore, weighted_terms-one, Pending, Pending-skip, Pending-one, Pending-one_stop, Pending-all}
use Rattle.bound_cert.proofs.batch.less_terms.Goals as goal
use Rattle.bound_cert.proofs.batch.less_terms.Goals.{then-edge-first-via-then-edge-first, then-edge-first-via-else-edge-first+then-edge-first-2}

pub loop-named-preserved-then-edge-first : goal.loop-named-preserved-then-edge-first
loop-named-preserved-then-edge-first c =
    let i = c.loop-named.named-index in
    let term = slice_index_or c.args.terms.now i (0, pos 0) in
    let rest = drop (i + 1) c.args.terms.now in
    let fits_y = c.ranges.y in
    let pending = rw (drop_more c.args.terms.now i (0, pos 0) c.loop-named-test.true) at (simp to_z-of_z at c.loop-named.invariant) in
    let named : c.from-edge.result ≡ term.0 = c.from-edge.ensures in
    let outside : (k : ℕ) → k < length c.loop-named.reduced → term.0 ≢ c.args.first + k = λ k h same.
    elim c.then-edge-first.branch [
      | then-edge-first-via-then-edge-first w ↦ omega (arith, w.if-edge-first.true, named, same, h)
      | then-edge-first-via-else-edge-first+then-edge-first-2 w ↦ omega (arith, w.if-edge-first-2.true, named, same, h)
    ] in
    simp to_z-of_z (Pending-skip (weighted_terms c.args.y (term ∷ rest)) (weighted_terms c.args.y rest) pending (λ k h. (weighted_terms-one c.args.y term rest).apart (c.args.first + k) (outside k h)))

pub returns-in_err-reduced : goal.returns-in_err-reduced
returns-in_err-reduced c =
    let i = c.loop-named.named-index in
    let term = slice_index_or c.args.terms.now i (0, pos 0) in
    let rest = drop (i + 1) c.args.terms.now in
    let at = c.from-edge.result - c.args.first in
    let fits_y = c.ranges.y in
    let fits_factor : FitsSigned w128 term.1 = search rules in
    let fits_left : FitsSigned w128 (slice_index_or c.loop-named.reduced at (pos 0)) = search rules in
    let fails = simp to_z-of_z at c.in_err-reduced.ensures in
    let pending = rw (drop_more c.args.terms.now i (0, pos 0) c.loop-named-test.true) at (simp to_z-of_z at c.loop-named.invariant) in
    let place : term.0 ≡ c.args.first + at = omega (arith, c.from-edge.ensures, c.if-edge-first.false) in
    let one = subst (λ k. OneMore (weighted_terms c.args.y (term ∷ rest)) (weighted_terms c.args.y rest) k (c.args.y *ℤ term.1)) place (weighted_terms-one c.args.y term rest) in
    let stops = Pending-one_stop (weighted_terms c.args.y (term ∷ rest)) (weighted_terms c.args.y rest) (c.args.y *ℤ term.1) (pos 0) at pending one c.if-edge-first-2.false fails in
    rw c.from_residual.ensures (record { made = (λ yes. absurd (false≢true yes), λ stays. absurd (stops stays)); left = search rules })

pub loop-named-preserved : goal.loop-named-preserved
loop-named-preserved c =
    let i = c.loop-named.named-index in
    let term = slice_index_or c.args.terms.now i (0, pos 0) in
    let rest = drop (i + 1) c.args.terms.now in
    let at = c.from-edge.result - c.args.first in
    let fits_y = c.ranges.y in
    let fits_factor : FitsSigned w128 term.1 = search rules in
    let fits_left : FitsSigned w128 (slice_index_or c.loop-named.reduced at (pos 0)) = search rules in
    let taken = simp to_z-of_z at c.in_ok-reduced.ensures in
    let pending = rw (drop_more c.args.terms.now i (0, pos 0) c.loop-named-test.true) at (simp to_z-of_z at c.loop-named.invariant) in
    let place : term.0 ≡ c.args.first + at = omega (arith, c.from-edge.ensures, c.if-edge-first.false) in
    let one = subst (λ k. OneMore (weighted_terms c.args.y (term ∷ rest)) (weighted_terms c.args.y rest) k (c.args.y *ℤ term.1)) place (weighted_terms-one c.args.y term rest) in
    let next = Pending-one (weighted_terms c.args.y (term ∷ rest)) (weighted_terms c.args.y rest) (c.args.y *ℤ term.1) (pos 0) at pending one c.if-edge-first-2.false taken.0 in
    let fits_next = subst (FitsSigned w128) (sym taken.1) taken.0.1 in
    simp to_z-of_z (subst (λ z. Pending (weighted_terms c.args.y c.args.terms.now) (weighted_terms c.args.y rest) c.args.first c.args.reduced.now (slice_set c.loop-named.reduced at z)) (sym taken.1) next)

pub returns : goal.returns
returns c =
    let fits_y = c.ranges.y in
    let all = Pending-all (rw (drop_all c.loop-named.named-index c.args.terms.now c.loop-named-test.false) at (simp to_z-of_z at c.loop-named.invariant)) in
    record { made = (λ yes. all.0, λ stays. search rules); left = all.1 }
