-- Weak duality.
use Rattle.std.proofs.Common.{◌≡◌, ℕ, suc, ◌+◌, ◌*◌, ◌<◌, ◌≤◌, Bool, true, false, List, [], ◌∷◌, length, ℤ, pos, negsuc, ◌+ℤ◌, ◌-ℤ◌, ◌*ℤ◌, ◌≤ℤ◌, arith, ap, sym, refl, ◌∙◌, subst, All, cond}
use Rattle.std.specs.Prelude.{int_le}
use Rattle.std.specs.Int.{int_div_euclid}
use Rattle.std.specs.List.{AllZip}
use Rattle.std.proofs.lemmas.Int.{ints}
use Rattle.std.proofs.lemmas.Nat.{le-div}
use Rattle.std.proofs.lemmas.List.Elements.{All-head, All-tail}
use Rattle.std.proofs.Math.Nat.{mul-le-mul_left}
use lib.Signed.{≤ℤ_refl}
use Rattle.lin_rows.specs.Meeting.{MeetsRow, Compares, left_side}
use Rattle.lin_rows.specs.Steps.{total}
use Rattle.lin_rows.specs.Vectors.{cost_by, cost}
use Rattle.lin_rows.specs.declared.multipliers.Multipliers.{Multipliers}
use Rattle.lin_rows.specs.declared.row.Row.{Row}
use Rattle.lin_rows.specs.declared.row.RowKind.{RowKind}
use Rattle.lin_rows.specs.declared.row.RowKind.TheVariants.{AtMost, Equal}
use Rattle.lin_rows.specs.declared.row.Rows.{Rows}
use Rattle.bound_cert.specs.Dual.{weighted_rights, weighted_factors, reduced_cost, best_limit, edge_bounds, scaled_bound}
use Rattle.bound_cert.specs.Fitting.{Takes}
use Rattle.bound_cert.specs.Law.{WeakDuality}
use Rattle.bound_cert.proofs.Columns.{columns, weighted_lefts, columns-weighted_factors}
use Rattle.bound_cert.proofs.Products.{plus-times, times-plus, times-times, times-mono}
use Rattle.plain_laws.proofs.Zips.{AllZip-length}

-- ---- the rows

row-le : (kind : RowKind) (y left right : ℤ) → Compares kind left right → Takes kind y → (y *ℤ left) ≤ℤ (y *ℤ right)
row-le AtMost y left right h t = times-mono y left right t h
row-le Equal y left right h t = subst (λ z. (y *ℤ left) ≤ℤ (y *ℤ z)) h (≤ℤ_refl (y *ℤ left))

plus-le : (a b c d : ℤ) → a ≤ℤ b → c ≤ℤ d → (a +ℤ c) ≤ℤ (b +ℤ d)
plus-le a b c d h k = omega (arith, ints)

-- where the rows are met, their weighted left sides come to at most their weighted right sides
weighted_lefts-le : (rows : List Row) (ys : List ℤ) (x : List ℕ) → All (MeetsRow x) rows → AllZip (λ (row : Row) (y : ℤ). Takes row.kind y) rows ys → total (weighted_lefts x rows ys) ≤ℤ total (weighted_rights rows ys)
weighted_lefts-le [] ys x met takes = ≤ℤ_refl (pos 0)
weighted_lefts-le (row ∷ rows) [] x met takes = absurd takes
weighted_lefts-le (row ∷ rows) (y ∷ ys) x met takes =
    plus-le (y *ℤ left_side row.terms x) (y *ℤ row.right) (total (weighted_lefts x rows ys)) (total (weighted_rights rows ys))
    (row-le row.kind y (left_side row.terms x) row.right (All-head (MeetsRow x) row rows met) takes.0)
    (weighted_lefts-le rows ys x (All-tail (MeetsRow x) row rows met) takes.1)

-- ---- the edges

-- within its limits a count comes to at most what the best limit does
best_limit-le : (r : ℤ) (limit : ℕ × ℕ) (n : ℕ) → limit.0 ≤ n → n ≤ limit.1 → (r *ℤ pos n) ≤ℤ (r *ℤ pos (best_limit r limit))
best_limit-le r limit n low high = by (int_le (pos 0) r) refl
  where
    by : (t : Bool) → int_le (pos 0) r ≡ t → (r *ℤ pos n) ≤ℤ (r *ℤ pos (cond t limit.1 limit.0))
    by true e = times-mono r (pos n) (pos limit.1) (omega (arith, ints)) (omega (arith, ints))
    by false e = down r e
      where
        down : (r : ℤ) → int_le (pos 0) r ≡ false → (r *ℤ pos n) ≤ℤ (r *ℤ pos limit.0)
        down (pos a) e = absurd (omega (arith, ints))
        down (negsuc a) e = let more = mul-le-mul_left (a + 1) low in omega (arith, ints)

sum-le : (whole rest own row bound bounds rows : ℤ) → whole ≡ own +ℤ row → own ≤ℤ bound → rest ≤ℤ (bounds +ℤ rows) → (whole +ℤ rest) ≤ℤ ((bound +ℤ bounds) +ℤ (row +ℤ rows))
sum-le whole rest own row bound bounds rows e h k = omega (arith, ints)

back : (a b : ℤ) → a ≡ (a -ℤ b) +ℤ b
back a b = omega (arith, ints)

-- d times the cost, from an edge on, is at most the bounds of the edges and what the rows took
edges-le : (rows : Rows) (by : Multipliers) (e : ℕ) (costs : List ℕ) (limits : List (ℕ × ℕ)) (x : List ℕ) → length costs ≡ length x → AllZip (λ (limit : ℕ × ℕ) (n : ℕ). (limit.0 ≤ n) × (n ≤ limit.1)) limits x → (by.d *ℤ pos (cost_by costs x)) ≤ℤ (total (edge_bounds rows by e costs limits) +ℤ columns (λ k. total (weighted_factors rows.rows by.y k)) e x)
edges-le rows by e [] [] [] same within = omega (arith, ints)
edges-le rows by e [] limits (n ∷ ns) same within = absurd (omega (arith, same))
edges-le rows by e (c ∷ cs) limits [] same within = absurd (omega (arith, same))
edges-le rows by e [] (limit ∷ limits) [] same within = absurd within
edges-le rows by e (c ∷ cs) [] (n ∷ ns) same within = absurd within
edges-le rows by e (c ∷ cs) (limit ∷ limits) (n ∷ ns) same within =
    let taken = total (weighted_factors rows.rows by.y e) in
    let r = reduced_cost rows by e c in
    let whole : (by.d *ℤ pos c) *ℤ pos n ≡ r *ℤ pos n +ℤ taken *ℤ pos n = ap (λ z. z *ℤ pos n) (back (by.d *ℤ pos c) taken) ∙ plus-times r taken (pos n) in
    let split : by.d *ℤ pos (c * n + cost_by cs ns) ≡ (by.d *ℤ pos c) *ℤ pos n +ℤ by.d *ℤ pos (cost_by cs ns) = times-plus by.d (pos (c * n)) (pos (cost_by cs ns)) ∙ ap (λ z. z +ℤ by.d *ℤ pos (cost_by cs ns)) (sym (times-times by.d (pos c) (pos n))) in
    subst (λ z. z ≤ℤ (total (edge_bounds rows by e (c ∷ cs) (limit ∷ limits)) +ℤ columns (λ k. total (weighted_factors rows.rows by.y k)) e (n ∷ ns))) (sym split)
    (sum-le ((by.d *ℤ pos c) *ℤ pos n) (by.d *ℤ pos (cost_by cs ns)) (r *ℤ pos n) (taken *ℤ pos n) (r *ℤ pos (best_limit r limit)) (total (edge_bounds rows by (e + 1) cs limits)) (columns (λ k. total (weighted_factors rows.rows by.y k)) (e + 1) ns) whole
    (best_limit-le r limit n within.0.0 within.0.1)
    (edges-le rows by (e + 1) cs limits ns (omega (arith, same)) within.1))

-- ---- the quotient

at_most_floor : (d s : ℤ) (n : ℕ) → pos 1 ≤ℤ d → (d *ℤ pos n) ≤ℤ s → pos n ≤ℤ int_div_euclid s d
at_most_floor (negsuc k) s n one h = absurd (omega (arith, ints))
at_most_floor (pos k) (negsuc a) n one h = absurd (omega (arith, ints))
at_most_floor (pos k) (pos a) n one h = let least = le-div n a k (omega (arith, ints)) (omega (arith, ints)) in omega (arith, ints)

-- ---- the law

swap-le : (a b c d : ℤ) → a ≤ℤ (b +ℤ c) → c ≤ℤ d → a ≤ℤ (d +ℤ b)
swap-le a b c d h k = omega (arith, ints)

pub weak_duality_lem : WeakDuality
weak_duality_lem rows objective within by entries fits x inside met =
    let counts : length within.limits ≡ length x = AllZip-length (λ (limit : ℕ × ℕ) (n : ℕ). (limit.0 ≤ n) × (n ≤ limit.1)) within.limits x inside in
    let edges : length x ≡ rows.edges = sym counts ∙ entries.limits in
    let below = subst (λ n. All (λ (row : Row). All (λ (term : ℕ × ℤ). term.0 < n) row.terms) rows.rows) (sym edges) rows.below in
    let columns_are = columns-weighted_factors rows.rows by.y x below in
    let lefts = subst (λ z. z ≤ℤ total (weighted_rights rows.rows by.y)) (sym columns_are) (weighted_lefts-le rows.rows by.y x met fits.each) in
    let scaled = edges-le rows by 0 objective.costs within.limits x (entries.costs ∙ sym edges) inside in
    at_most_floor by.d (scaled_bound rows objective within by) (cost objective x) fits.divisor
    (swap-le (by.d *ℤ pos (cost objective x)) (total (edge_bounds rows by 0 objective.costs within.limits)) (columns (λ k. total (weighted_factors rows.rows by.y k)) 0 x) (total (weighted_rights rows.rows by.y)) scaled lefts)
