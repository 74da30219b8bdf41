-- A batch of edges that are reduced side by side: each has what is left of its number, and takes the numbers of its own list.
use Rattle.std.proofs.Common.{Bool, cond, eqb, map, ◌≡◌, ◌≢◌, ◌↔◌, ℕ, zero, suc, ◌+◌, ◌<◌, ℤ, pos, ◌+ℤ◌, ◌-ℤ◌, ◌*ℤ◌, List, [], ◌∷◌, ◌++◌, length, get_or, set, FitsSigned, refl, sym, ap, ◌∙◌, subst, arith}
use Rattle.std.specs.Int.{w128}
use Rattle.std.specs.List.{fold, filter}
use Rattle.std.proofs.lemmas.Bool.{eq-eqb, ne_eqb}
use Rattle.lin_rows.specs.Steps.{addition_steps, subtraction_steps, steps_by, StaysInI128}
use Rattle.lin_rows.specs.declared.multipliers.Multipliers.{Multipliers}
use Rattle.lin_rows.specs.declared.row.Rows.{Rows}
use Rattle.bound_cert.specs.Batches.{starts, lefts, batch_steps, best_products}
use Rattle.bound_cert.specs.Dual.{weighted_terms, weighted_factors, edge_bound, edge_bounds, best_limit}
use Rattle.bound_cert.specs.DualSteps.{edge_steps, edges_steps}
use Rattle.bound_cert.proofs.Edges.{edge-parts}
use Rattle.lin_rows.proofs.StepLists.{stays-nil, stays-cons, stays-append}
use Rattle.lin_rows.proofs.Summing.{stays-two, fold-minus}
use Rattle.bound_cert.proofs.ListSteps.{steps-append, fold-append}

pub length-lefts : (w : ℕ → List ℤ) (e : ℕ) (rs : List ℤ) → length (lefts w e rs) ≡ length rs
length-lefts w e [] = refl
length-lefts w e (r ∷ rs) = ap suc (length-lefts w (e + 1) rs)

-- ---- lists that agree at the edges of the batch

pub lefts-same : (v w : ℕ → List ℤ) (e : ℕ) (rs : List ℤ) → ((k : ℕ) → k < length rs → v (e + k) ≡ w (e + k)) → lefts v e rs ≡ lefts w e rs
lefts-same v w e [] same = refl
lefts-same v w e (r ∷ rs) same =
    let here : v e ≡ w e = subst (λ k. v k ≡ w k) (omega arith) (same zero (omega arith)) in
    let later = lefts-same v w (e + 1) rs (λ k h. subst (λ j. v j ≡ w j) (omega arith) (same (suc k) (omega (arith, h)))) in
    ap (λ zs. fold (λ rest z. rest -ℤ z) r zs ∷ lefts v (e + 1) rs) here ∙ ap (λ ls. fold (λ rest z. rest -ℤ z) r (w e) ∷ ls) later

pub batch_steps-same : (v w : ℕ → List ℤ) (e : ℕ) (rs : List ℤ) → ((k : ℕ) → k < length rs → v (e + k) ≡ w (e + k)) → batch_steps v e rs ≡ batch_steps w e rs
batch_steps-same v w e [] same = refl
batch_steps-same v w e (r ∷ rs) same =
    let here : v e ≡ w e = subst (λ k. v k ≡ w k) (omega arith) (same zero (omega arith)) in
    let later = batch_steps-same v w (e + 1) rs (λ k h. subst (λ j. v j ≡ w j) (omega arith) (same (suc k) (omega (arith, h)))) in
    ap (λ zs. subtraction_steps r zs ++ batch_steps v (e + 1) rs) here ∙ ap (λ steps. subtraction_steps r (w e) ++ steps) later

-- ---- one number is taken at one edge of the batch

-- of the two lists v and w, v has one number more at one edge
pub record OneMore (v w : ℕ → List ℤ) (edge : ℕ) (z : ℤ) : Type 0 where
  pub here : v edge ≡ z ∷ w edge
  pub apart : (k : ℕ) → edge ≢ k → v k ≡ w k

pub lefts-one : (v w : ℕ → List ℤ) (z d : ℤ) (at e : ℕ) (rs : List ℤ) → OneMore v w (e + at) z → at < length rs → lefts v e rs ≡ lefts w e (set rs at (get_or rs at d -ℤ z))
lefts-one v w z d at e [] more h = absurd (omega (arith, h))
lefts-one v w z d zero e (r ∷ rs) more h =
    let here : v e ≡ z ∷ w e = subst (λ k. v k ≡ z ∷ w k) (omega arith) more.here in
    let later = lefts-same v w (e + 1) rs (λ k l. more.apart (e + 1 + k) (λ same. omega (arith, same))) in
    ap (λ zs. fold (λ rest y. rest -ℤ y) r zs ∷ lefts v (e + 1) rs) here ∙ ap (λ ls. fold (λ rest y. rest -ℤ y) (r -ℤ z) (w e) ∷ ls) later
lefts-one v w z d (suc at) e (r ∷ rs) more h =
    let other : v e ≡ w e = more.apart e (λ same. omega (arith, same)) in
    let moved : OneMore v w (e + 1 + at) z = subst (λ k. OneMore v w k z) (omega arith) more in
    let later = lefts-one v w z d at (e + 1) rs moved (omega (arith, h)) in
    ap (λ zs. fold (λ rest y. rest -ℤ y) r zs ∷ lefts v (e + 1) rs) other ∙ ap (λ ls. fold (λ rest y. rest -ℤ y) r (w e) ∷ ls) later

pub stays-one : (v w : ℕ → List ℤ) (z d : ℤ) (at e : ℕ) (rs : List ℤ) → OneMore v w (e + at) z → at < length rs → StaysInI128 (batch_steps v e rs) ↔ ((FitsSigned w128 z × FitsSigned w128 (get_or rs at d -ℤ z)) × StaysInI128 (batch_steps w e (set rs at (get_or rs at d -ℤ z))))
stays-one v w z d at e [] more h = absurd (omega (arith, h))
stays-one v w z d zero e (r ∷ rs) more h =
    let here : v e ≡ z ∷ w e = subst (λ k. v k ≡ z ∷ w k) (omega arith) more.here in
    let later = batch_steps-same v w (e + 1) rs (λ k l. more.apart (e + 1 + k) (λ same. omega (arith, same))) in
    let is : batch_steps v e (r ∷ rs) ≡ z ∷ (r -ℤ z) ∷ batch_steps w e ((r -ℤ z) ∷ rs) = ap (λ zs. subtraction_steps r zs ++ batch_steps v (e + 1) rs) here ∙ ap (λ steps. z ∷ (r -ℤ z) ∷ (subtraction_steps (r -ℤ z) (w e) ++ steps)) later in
    let step = stays-two z (r -ℤ z) (batch_steps w e ((r -ℤ z) ∷ rs)) in (
      λ k. let parts = step.0 (subst StaysInI128 is k) in ((parts.0, parts.1), parts.2),
      λ k. subst StaysInI128 (sym is) (step.1 (k.0.0, k.0.1, k.1)),
    )
stays-one v w z d (suc at) e (r ∷ rs) more h =
    let other : v e ≡ w e = more.apart e (λ same. omega (arith, same)) in
    let moved : OneMore v w (e + 1 + at) z = subst (λ k. OneMore v w k z) (omega arith) more in
    let later = stays-one v w z d at (e + 1) rs moved (omega (arith, h)) in
    let before = stays-append (subtraction_steps r (v e)) (batch_steps v (e + 1) rs) in
    let after = stays-append (subtraction_steps r (w e)) (batch_steps w (e + 1) (set rs at (get_or rs at d -ℤ z))) in (
      λ k. let parts = before.0 k in let rest = later.0 parts.1 in (rest.0, after.1 (subst (λ zs. StaysInI128 (subtraction_steps r zs)) other parts.0, rest.1)),
      λ k. let parts = after.0 k.1 in before.1 (subst (λ zs. StaysInI128 (subtraction_steps r zs)) (sym other) parts.0, later.1 (k.0, parts.1)),
    )

-- a term is one number more at the edge that it names
pub weighted_terms-one : (y : ℤ) (t : ℕ × ℤ) (ts : List (ℕ × ℤ)) → OneMore (weighted_terms y (t ∷ ts)) (weighted_terms y ts) t.0 (y *ℤ t.1)
weighted_terms-one y t ts =
    let kept = λ (k : ℕ) (b : Bool). map (λ (term : ℕ × ℤ). y *ℤ term.1) (cond b (t ∷ filter (λ (term : ℕ × ℤ). eqb term.0 k) ts) (filter (λ (term : ℕ × ℤ). eqb term.0 k) ts)) in
    record { here = ap (kept t.0) (eq-eqb t.0 t.0 refl); apart = λ k other. ap (kept k) (ne_eqb t.0 k other) }

-- ---- a list of numbers is taken at each edge of the batch

pub lefts-append : (v w : ℕ → List ℤ) (e : ℕ) (rs : List ℤ) → lefts (λ k. v k ++ w k) e rs ≡ lefts w e (lefts v e rs)
lefts-append v w e [] = refl
lefts-append v w e (r ∷ rs) =
    ap (λ l. l ∷ lefts (λ k. v k ++ w k) (e + 1) rs) (fold-append (λ rest z. rest -ℤ z) r (v e) (w e))
    ∙ ap (λ ls. fold (λ rest z. rest -ℤ z) (fold (λ rest z. rest -ℤ z) r (v e)) (w e) ∷ ls) (lefts-append v w (e + 1) rs)

pub stays-lists : (v w : ℕ → List ℤ) (e : ℕ) (rs : List ℤ) → StaysInI128 (batch_steps (λ k. v k ++ w k) e rs) ↔ (StaysInI128 (batch_steps v e rs) × StaysInI128 (batch_steps w e (lefts v e rs)))
stays-lists v w e [] = (λ h. (h, h), λ h. h.0)
stays-lists v w e (r ∷ rs) =
    let minus = λ (rest z : ℤ). rest -ℤ z in
    let left = fold minus r (v e) in
    let both = stays-append (subtraction_steps r (v e ++ w e)) (batch_steps (λ k. v k ++ w k) (e + 1) rs) in
    let own = stays-append (steps_by minus r (v e)) (steps_by minus left (w e)) in
    let first = stays-append (subtraction_steps r (v e)) (batch_steps v (e + 1) rs) in
    let second = stays-append (subtraction_steps left (w e)) (batch_steps w (e + 1) (lefts v (e + 1) rs)) in
    let rest = stays-lists v w (e + 1) rs in
    let split = steps-append minus r (v e) (w e) in (
      λ h.
          let parts = both.0 h in
          let here = own.0 (subst StaysInI128 split parts.0) in
          let later = rest.0 parts.1 in
          (first.1 (here.0, later.0), second.1 (here.1, later.1)),
      λ h.
          let one = first.0 h.0 in
          let two = second.0 h.1 in
          both.1 (subst StaysInI128 (sym split) (own.1 (one.0, two.0)), rest.1 (one.1, two.1)),
    )

-- ---- a pass over a batch

-- of the lists v, those before w are taken from `start`, which leaves `now`
pub record Pending (v w : ℕ → List ℤ) (e : ℕ) (start now : List ℤ) : Type 0 where
  pub stays : StaysInI128 (batch_steps v e start) ↔ StaysInI128 (batch_steps w e now)
  pub whole : lefts v e start ≡ lefts w e now

pub Pending-start : (v : ℕ → List ℤ) (e : ℕ) (start : List ℤ) → Pending v v e start start
Pending-start v e start = record { stays = (λ h. h, λ h. h); whole = refl }

-- the next number belongs to no edge of the batch
pub Pending-skip : {u : ℕ → List ℤ} (v w : ℕ → List ℤ) {e : ℕ} {start now : List ℤ} → Pending u v e start now → ((k : ℕ) → k < length now → v (e + k) ≡ w (e + k)) → Pending u w e start now
Pending-skip {u} v w {e} {start} {now} p same =
    let steps = batch_steps-same v w e now same in
    record {
      stays = (λ h. subst StaysInI128 steps (p.stays.0 h), λ h. p.stays.1 (subst StaysInI128 (sym steps) h));
      whole = p.whole ∙ lefts-same v w e now same;
    }

-- the next number is taken at one edge
pub Pending-one : {u : ℕ → List ℤ} (v w : ℕ → List ℤ) (z d : ℤ) (at : ℕ) {e : ℕ} {start now : List ℤ} → Pending u v e start now → OneMore v w (e + at) z → at < length now → FitsSigned w128 z × FitsSigned w128 (get_or now at d -ℤ z) → Pending u w e start (set now at (get_or now at d -ℤ z))
Pending-one v w z d at {e} {start} {now} p more h fits =
    let one = stays-one v w z d at e now more h in
    record {
      stays = (λ k. (one.0 (p.stays.0 k)).1, λ k. p.stays.1 (one.1 (fits, k)));
      whole = p.whole ∙ lefts-one v w z d at e now more h;
    }

pub Pending-one_stop : {u : ℕ → List ℤ} (v w : ℕ → List ℤ) (z d : ℤ) (at : ℕ) {e : ℕ} {start now : List ℤ} → Pending u v e start now → OneMore v w (e + at) z → at < length now → ¬ (FitsSigned w128 z × FitsSigned w128 (get_or now at d -ℤ z)) → ¬ StaysInI128 (batch_steps u e start)
Pending-one_stop v w z d at {e} {start} {now} p more h fails k = fails ((stays-one v w z d at e now more h).0 (p.stays.0 k)).0

-- the next list is taken at each edge
pub Pending-lists : {u : ℕ → List ℤ} (v w : ℕ → List ℤ) {e : ℕ} {start now : List ℤ} → Pending u (λ k. v k ++ w k) e start now → StaysInI128 (batch_steps v e now) → Pending u w e start (lefts v e now)
Pending-lists v w {e} {start} {now} p own =
    let both = stays-lists v w e now in
    record {
      stays = (λ h. (both.0 (p.stays.0 h)).1, λ h. p.stays.1 (both.1 (own, h)));
      whole = p.whole ∙ lefts-append v w e now;
    }

pub Pending-lists_stop : {u : ℕ → List ℤ} (v w : ℕ → List ℤ) {e : ℕ} {start now : List ℤ} → Pending u (λ k. v k ++ w k) e start now → ¬ StaysInI128 (batch_steps v e now) → ¬ StaysInI128 (batch_steps u e start)
Pending-lists_stop v w {e} {start} {now} p fails h = fails ((stays-lists v w e now).0 (p.stays.0 h)).0

-- all is taken
nothing-left : (e : ℕ) (rs : List ℤ) → (lefts (λ k. []) e rs ≡ rs) × StaysInI128 (batch_steps (λ k. []) e rs)
nothing-left e [] = (refl, stays-nil)
nothing-left e (r ∷ rs) = let rest = nothing-left (e + 1) rs in (ap (λ ls. r ∷ ls) rest.0, rest.1)

pub Pending-all : {u : ℕ → List ℤ} {e : ℕ} {start now : List ℤ} → Pending u (λ k. []) e start now → StaysInI128 (batch_steps u e start) × (now ≡ lefts u e start)
Pending-all {e = e} {now = now} p =
    let none = nothing-left e now in
    (p.stays.1 none.1, sym (p.whole ∙ none.0))

-- ---- a batch beside its edges one by one

-- the edges one by one stay in i128 exactly where the batch does
pub batch-parts : (rows : Rows) (by : Multipliers) (e : ℕ) (s : ℤ) (costs : List ℕ) (limits : List (ℕ × ℕ)) → length costs ≡ length limits → (let w = weighted_factors rows.rows by.y in StaysInI128 (edges_steps rows by e s costs limits) ↔ (StaysInI128 (starts by.d costs) × StaysInI128 (batch_steps w e (starts by.d costs)) × StaysInI128 (addition_steps s (best_products (lefts w e (starts by.d costs)) limits))))
batch-parts rows by e s [] [] same = (λ h. (h, h, h), λ h. h.0)
batch-parts rows by e s [] (limit ∷ limits) same = absurd (omega (arith, same))
batch-parts rows by e s (cost ∷ costs) [] same = absurd (omega (arith, same))
batch-parts rows by e s (cost ∷ costs) (limit ∷ limits) same =
    let w = weighted_factors rows.rows by.y in
    let start = by.d *ℤ pos cost in
    let bound = edge_bound rows by e cost limit in
    let left = fold (λ rest z. rest -ℤ z) start (w e) in
    let is : left *ℤ pos (best_limit left limit) ≡ bound = ap (λ r. r *ℤ pos (best_limit r limit)) (fold-minus start (w e)) in
    let later = starts by.d costs in
    let products = best_products (lefts w (e + 1) later) limits in
    let one = edge-parts rows by e s cost limit in
    let both = stays-append (edge_steps rows by e s cost limit) (edges_steps rows by (e + 1) (s +ℤ bound) costs limits) in
    let rest = batch-parts rows by (e + 1) (s +ℤ bound) costs limits (omega (arith, same)) in
    let first = stays-cons start later in
    let middle = stays-append (subtraction_steps start (w e)) (batch_steps w (e + 1) later) in
    let last = stays-two bound (s +ℤ bound) (addition_steps (s +ℤ bound) products) in (
      λ h.
          let parts = both.0 h in
          let own = one.0 parts.0 in
          let others = rest.0 parts.1 in (
            first.1 (own.0, others.0),
            middle.1 (own.1, others.1),
            subst (λ b. StaysInI128 (addition_steps s (b ∷ products))) (sym is) (last.1 (own.2.0, own.2.1, others.2)),
          ),
      λ h.
          let a = first.0 h.0 in
          let b = middle.0 h.1 in
          let c = last.0 (subst (λ b. StaysInI128 (addition_steps s (b ∷ products))) is h.2) in
          both.1 (one.1 (a.0, b.0, (c.0, c.1)), rest.1 (a.1, b.1, c.2)),
    )

-- and come to the same
pub best_products-lefts : (rows : Rows) (by : Multipliers) (e : ℕ) (costs : List ℕ) (limits : List (ℕ × ℕ)) → best_products (lefts (weighted_factors rows.rows by.y) e (starts by.d costs)) limits ≡ edge_bounds rows by e costs limits
best_products-lefts rows by e [] limits = refl
best_products-lefts rows by e (cost ∷ costs) [] = refl
best_products-lefts rows by e (cost ∷ costs) (limit ∷ limits) =
    let w = weighted_factors rows.rows by.y in
    let start = by.d *ℤ pos cost in
    ap (λ r. (r *ℤ pos (best_limit r limit)) ∷ best_products (lefts w (e + 1) (starts by.d costs)) limits) (fold-minus start (w e))
    ∙ ap (λ bs. edge_bound rows by e cost limit ∷ bs) (best_products-lefts rows by (e + 1) costs limits)
