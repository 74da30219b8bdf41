-- Weak duality without a box.
use Rattle.std.proofs.Common.{◌≡◌, ℕ, zero, suc, ◌+◌, ◌≤◌, List, [], ◌∷◌, map, ℤ, pos, negsuc, ◌+ℤ◌, ◌*ℤ◌, ◌≤ℤ◌, arith, ap, refl, ◌∙◌, subst, All}
use Rattle.std.specs.Int.{int_div_euclid}
use Rattle.std.specs.List.{AllZip}
use Rattle.std.proofs.lemmas.Int.{ints}
use Rattle.std.proofs.lemmas.List.{length-map}
use Rattle.std.proofs.lemmas.List.Elements.{All-head, All-tail, All-map}
use lib.IntN.{+ℤ_idl, +ℤ_idr, zero-*ℤ, *ℤ-zero}
use Rattle.lin_rows.specs.Steps.{total}
use Rattle.lin_rows.specs.Vectors.{cost}
use Rattle.lin_rows.specs.declared.count_box.CountBox.{CountBox}
use Rattle.lin_rows.specs.declared.multipliers.Multipliers.{Multipliers}
use Rattle.lin_rows.specs.declared.row.Rows.{Rows}
use Rattle.bound_cert.specs.Dual.{weighted_rights, reduced_cost, reduced_costs, best_limit, edge_bounds}
use Rattle.bound_cert.specs.Law.{BeginsAtZero, HaveEntries, DualOfCovered, WeakDualityWithoutBox}
use Rattle.bound_cert.proofs.Duality.{weak_duality_lem}

-- ---- no edge counts

-- where r is not positive and the least count is 0, r comes to nothing at the best limit
nothing_left : (r : ℤ) (limit : ℕ × ℕ) → limit.0 ≡ 0 → r ≤ℤ pos 0 → r *ℤ pos (best_limit r limit) ≡ pos 0
nothing_left (pos zero) limit none h = zero-*ℤ (pos limit.1)
nothing_left (pos (suc n)) limit none h = absurd (omega (arith, ints))
nothing_left (negsuc n) limit none h = ap (λ k. negsuc n *ℤ pos k) none ∙ *ℤ-zero (negsuc n)

no_bounds : (rows : Rows) (by : Multipliers) (e : ℕ) (costs : List ℕ) (limits : List (ℕ × ℕ)) → All (λ (limit : ℕ × ℕ). limit.0 ≡ 0) limits → All (λ (r : ℤ). r ≤ℤ pos 0) (reduced_costs rows by e costs) → total (edge_bounds rows by e costs limits) ≡ pos 0
no_bounds rows by e [] limits none covered = refl
no_bounds rows by e (c ∷ cs) [] none covered = refl
no_bounds rows by e (c ∷ cs) (limit ∷ limits) none covered =
    let IsNone : ℕ × ℕ → Type 0 = λ limit. limit.0 ≡ 0 in
    let IsTaken : ℤ → Type 0 = λ r. r ≤ℤ pos 0 in
    let r = reduced_cost rows by e c in
    let others = reduced_costs rows by (e + 1) cs in
    ap (λ z. z +ℤ total (edge_bounds rows by (e + 1) cs limits)) (nothing_left r limit (All-head IsNone limit limits none) (All-head IsTaken r others covered))
    ∙ +ℤ_idl (total (edge_bounds rows by (e + 1) cs limits))
    ∙ no_bounds rows by (e + 1) cs limits (All-tail IsNone limit limits none) (All-tail IsTaken r others covered)

pub dual_of_covered : DualOfCovered
dual_of_covered rows objective within by none covered =
    let rights = total (weighted_rights rows.rows by.y) in
    ap (λ z. int_div_euclid (rights +ℤ z) by.d) (no_bounds rows by 0 objective.costs within.limits none covered)
    ∙ ap (λ z. int_div_euclid z by.d) (+ℤ_idr rights)

-- ---- the box from 0 to a vector

abbrev from_zero : ℕ → ℕ × ℕ
from_zero n = (0, n)

ordered : (x : List ℕ) → All (λ (limit : ℕ × ℕ). limit.0 ≤ limit.1) (map from_zero x)
ordered x = All-map (λ (limit : ℕ × ℕ). limit.0 ≤ limit.1) from_zero x (λ k d within. omega arith)

abbrev box_to : List ℕ → CountBox
box_to x = record { limits = map from_zero x; ordered = ordered x }

lies_within : (x : List ℕ) → AllZip (λ (limit : ℕ × ℕ) (n : ℕ). (limit.0 ≤ n) × (n ≤ limit.1)) (map from_zero x) x
lies_within [] = tt
lies_within (n ∷ ns) = ((omega arith, omega arith), lies_within ns)

pub weak_duality_without_box_lem : WeakDualityWithoutBox
weak_duality_without_box_lem rows objective by costs fits covered x counts met =
    let within = box_to x in
    let none : BeginsAtZero within = All-map (λ (limit : ℕ × ℕ). limit.0 ≡ 0) from_zero x (λ k d within. refl) in
    let entries : HaveEntries rows objective within = record { costs = costs; limits = length-map x from_zero ∙ counts } in
    subst (λ v. pos (cost objective x) ≤ℤ v) (dual_of_covered rows objective within by none covered)
    (weak_duality_lem rows objective within by entries fits x (lies_within x) met)
