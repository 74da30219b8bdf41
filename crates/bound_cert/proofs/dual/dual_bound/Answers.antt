use Rattle.std.proofs.Common.{rules, arith, [], ◌≡◌, ◌≤◌, ◌+◌, ℤ, length, FitsSigned, subst, sym, drop, ◌∙◌}
use Rattle.std.specs.Int.{w128}
use Rattle.std.proofs.lemmas.Bool.{eqb-true}
use Rattle.std.proofs.lemmas.Int.{to_z-of_z}
use Rattle.std.proofs.lemmas.List.{drop_all, length-drop}
use Rattle.lin_rows.proofs.StepLists.{Tells-none, Tells-some}
use Rattle.lin_rows.specs.declared.row.Row.{Row}
use Rattle.bound_cert.specs.Fitting.{Takes}
use Rattle.bound_cert.specs.Law.{IsBound, HaveEntries}
use Rattle.bound_cert.proofs.Duality.{weak_duality_lem}
use Rattle.bound_cert.proofs.Edges.{Bounded, Bounded-start, Bounded-next, Bounded-stop, Bounded-all, rights-stop}
use Rattle.bound_cert.proofs.dual.dual_bound.Goals as goal
use Rattle.plain_laws.proofs.Zips.{AllZip-length}

pub right_sides-requires : goal.right_sides-requires
right_sides-requires c =
    rw (c.rows.ensures, c.y.ensures) (AllZip-length (λ (row : Row) (y : ℤ). Takes row.kind y) c.args.rows.now.rows c.args.by.now.y c.requires.fits.each)

pub returns-in_err-sum : goal.returns-in_err-sum
returns-in_err-sum c =
    let fails = rw (c.rows.ensures, c.y.ensures) at c.in_err-sum.ensures in
    let tells = Tells-none {T = ℤ} _ (rights-stop c.args.rows.now c.args.objective.now c.args.within.now c.args.by.now fails) in
    rw c.from_residual.ensures (record { none = tells.none; some = tells.some; value = search rules; above = search rules })

pub loop-costs-init : goal.loop-costs-init
loop-costs-init c =
    let fits_sum : FitsSigned w128 c.in_ok-sum.sum = search rules in
    let added = rw (c.rows.ensures, c.y.ensures) at c.in_ok-sum.ensures in
    let start = Bounded-start c.args.rows.now c.args.objective.now c.args.within.now c.args.by.now c.in_ok-sum.sum fits_sum added in
    rw (c.costs-costs.ensures, c.limits-limits.ensures.value) (record { bounded = simp to_z-of_z start; same = omega (arith, c.requires.costs, c.requires.limits); below = omega arith })

pub add_batch-requires-clause-rows : goal.add_batch-requires-clause-rows
add_batch-requires-clause-rows c = AllZip-length (λ (row : Row) (y : ℤ). Takes row.kind y) c.args.rows.now.rows c.args.by.now.y c.requires.fits.each

pub returns-in_err-sum-2 : goal.returns-in_err-sum-2
returns-in_err-sum-2 c =
    let n = c.min-count.result in
    let within : n ≤ length c.loop-costs.costs.now = omega (arith, c.min-count.ensures) in
    let fails = rw (c.split_at.ensures.front, c.split_at-in-loop-costs.ensures.front) at c.in_err-sum-2.ensures in
    let tells = Tells-none {T = ℤ} _ (Bounded-stop n within c.loop-costs.invariant.same c.loop-costs.invariant.bounded fails) in
    rw c.from_residual-in_err-sum-2.ensures (record { none = tells.none; some = tells.some; value = search rules; above = search rules })

pub loop-costs-preserved : goal.loop-costs-preserved
loop-costs-preserved c =
    let n = c.min-count.result in
    let costs = c.loop-costs.costs.now in
    let limits = c.loop-costs.limits.now in
    let within : n ≤ length costs = omega (arith, c.min-count.ensures) in
    let same = c.loop-costs.invariant.same in
    let added = rw (c.split_at.ensures.front, c.split_at-in-loop-costs.ensures.front) at c.in_ok-sum-2.ensures in
    let fits_next : FitsSigned w128 c.in_ok-sum-2.sum = search rules in
    let next = Bounded-next n within same c.loop-costs.invariant.bounded added.0 (subst (FitsSigned w128) added.1 fits_next) in
    let bounded = subst (λ s. Bounded c.args.rows.now c.args.objective.now c.args.within.now c.args.by.now (c.loop-costs.first + n) s (drop n costs) (drop n limits)) (sym added.1) next in
    rw (c.split_at.ensures.back, c.split_at-in-loop-costs.ensures.back)
    (record { bounded = simp to_z-of_z bounded; same = omega (arith, same, length-drop n costs, length-drop n limits); below = omega (arith, within, length-drop n costs, c.loop-costs.invariant.below) })

pub returns : goal.returns
returns c =
    let empty : length c.loop-costs.costs.now ≡ 0 = eqb-true _ _ (sym c.is_empty.ensures ∙ c.loop-costs-test.false) in
    let none : c.loop-costs.costs.now ≡ [] = drop_all 0 c.loop-costs.costs.now (omega (arith, empty)) in
    let all = Bounded-all (rw none at c.loop-costs.invariant.bounded) in
    let fits_d : FitsSigned w128 c.args.by.now.d = search rules in
    let fits_bound : FitsSigned w128 c.div_euclid.result = search rules in
    let bound = rw all.1 at (simp to_z-of_z at c.div_euclid.ensures) in
    let tells = Tells-some c.div_euclid.result _ all.0 in
    let entries : HaveEntries c.args.rows.now c.args.objective.now c.args.within.now = record { costs = c.requires.costs; limits = c.requires.limits } in
    let law = weak_duality_lem c.args.rows.now c.args.objective.now c.args.within.now c.args.by.now entries c.requires.fits in
    let above = subst (IsBound c.args.rows.now c.args.objective.now c.args.within.now) (sym bound) law in
    record { none = tells.none; some = tells.some; value = simp to_z-of_z bound; above = simp to_z-of_z above }
