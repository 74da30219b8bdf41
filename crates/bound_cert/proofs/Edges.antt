-- The steps of one edge after another.
use Rattle.std.proofs.Common.{arith, ap, ◌≤◌, length, take, drop, ◌≡◌, ◌↔◌, ℕ, ◌+◌, ℤ, pos, ◌+ℤ◌, ◌*ℤ◌, List, [], ◌∷◌, ◌++◌, FitsSigned, Option, Some, None, refl, sym, ◌∙◌, subst}
use lib.IntN.{+ℤ_assoc, +ℤ_idr}
use Rattle.std.specs.Int.{w128}
use Rattle.std.specs.Option.{SomeIff}
use Rattle.lin_rows.specs.Steps.{total, subtraction_steps, addition_steps, StaysInI128}
use Rattle.lin_rows.specs.declared.count_box.CountBox.{CountBox}
use Rattle.lin_rows.specs.declared.multipliers.Multipliers.{Multipliers}
use Rattle.lin_rows.specs.declared.objective.Objective.{Objective}
use Rattle.lin_rows.specs.declared.row.Rows.{Rows}
use Rattle.lin_rows.proofs.StepLists.{stays-nil, stays-cons, stays-append}
use Rattle.lin_rows.proofs.Summing.{stays-two}
use Rattle.bound_cert.specs.Dual.{weighted_rights, weighted_factors, edge_bound, edge_bounds, scaled_bound}
use Rattle.std.proofs.lemmas.List.{append_assoc, length-take-le, take-append-drop}
use Rattle.bound_cert.proofs.Columns.{total-append}
use Rattle.bound_cert.specs.DualSteps.{edge_steps, edges_steps, dual_steps}

-- the three parts of an edge's steps
pub edge-parts : (rows : Rows) (by : Multipliers) (edge : ℕ) (s : ℤ) (cost : ℕ) (limit : ℕ × ℕ) → StaysInI128 (edge_steps rows by edge s cost limit) ↔ (FitsSigned w128 (by.d *ℤ pos cost) × StaysInI128 (subtraction_steps (by.d *ℤ pos cost) (weighted_factors rows.rows by.y edge)) × (FitsSigned w128 (edge_bound rows by edge cost limit) × FitsSigned w128 (s +ℤ edge_bound rows by edge cost limit)))
edge-parts rows by edge s cost limit =
    let start = by.d *ℤ pos cost in
    let bound = edge_bound rows by edge cost limit in
    let less = subtraction_steps start (weighted_factors rows.rows by.y edge) in
    let last = bound ∷ (s +ℤ bound) ∷ [] in
    let first = stays-cons start (less ++ last) in
    let rest = stays-append less last in
    let two = stays-two bound (s +ℤ bound) [] in (
      λ h.
          let after = rest.0 (first.0 h).1 in
          let both = two.0 after.1 in
          ((first.0 h).0, after.0, (both.0, both.1)),
      λ h. first.1 (h.0, rest.1 (h.1, two.1 (h.2.0, h.2.1, stays-nil))),
    )

-- an answer by the last part is one by all of them, where the others hold
pub SomeIff-same : (r : Option ℤ) (P Q : Type 0) (v : ℤ) → (Q → P) → (P → Q) → SomeIff r P v → SomeIff r Q v
SomeIff-same None P Q v out back fails = λ q. fails (out q)
SomeIff-same (Some x) P Q v out back holds = (back holds.0, holds.1)

-- the sum has come to `sum`, and the edges from `edge` on, with these costs and limits, are still to be added
pub record Bounded (rows : Rows) (objective : Objective) (within : CountBox) (by : Multipliers) (edge : ℕ) (sum : ℤ) (costs : List ℕ) (limits : List (ℕ × ℕ)) : Type 0 where
  pub fits : FitsSigned w128 sum
  pub stays : StaysInI128 (dual_steps rows objective within by) ↔ StaysInI128 (edges_steps rows by edge sum costs limits)
  pub whole : scaled_bound rows objective within by ≡ sum +ℤ total (edge_bounds rows by edge costs limits)

-- the right sides cannot be added
pub rights-stop : (rows : Rows) (objective : Objective) (within : CountBox) (by : Multipliers) → ¬ StaysInI128 (addition_steps (pos 0) (weighted_rights rows.rows by.y)) → ¬ StaysInI128 (dual_steps rows objective within by)
rights-stop rows objective within by fails h =
    let rights = weighted_rights rows.rows by.y in
    fails ((stays-append (addition_steps (pos 0) rights) (edges_steps rows by 0 (total rights) objective.costs within.limits)).0 h).0

-- the right sides are added
pub Bounded-start : (rows : Rows) (objective : Objective) (within : CountBox) (by : Multipliers) (sum : ℤ) → FitsSigned w128 sum → StaysInI128 (addition_steps (pos 0) (weighted_rights rows.rows by.y)) × (sum ≡ total (weighted_rights rows.rows by.y)) → Bounded rows objective within by 0 sum objective.costs within.limits
Bounded-start rows objective within by sum fits added =
    let rights = weighted_rights rows.rows by.y in
    let parts = stays-append (addition_steps (pos 0) rights) (edges_steps rows by 0 (total rights) objective.costs within.limits) in
    subst (λ s. Bounded rows objective within by 0 s objective.costs within.limits) (sym added.1)
    (record { fits = subst (FitsSigned w128) added.1 fits; stays = (λ h. (parts.0 h).1, λ h. parts.1 (added.0, h)); whole = refl })

-- ---- some edges, and those after them

bounds-append : (rows : Rows) (by : Multipliers) (e : ℕ) (cs cs' : List ℕ) (ls ls' : List (ℕ × ℕ)) → length cs ≡ length ls → edge_bounds rows by e (cs ++ cs') (ls ++ ls') ≡ edge_bounds rows by e cs ls ++ edge_bounds rows by (e + length cs) cs' ls'
bounds-append rows by e [] cs' [] ls' same = ap (λ k. edge_bounds rows by k cs' ls') (omega arith)
bounds-append rows by e [] cs' (l ∷ ls) ls' same = absurd (omega (arith, same))
bounds-append rows by e (c ∷ cs) cs' [] ls' same = absurd (omega (arith, same))
bounds-append rows by e (c ∷ cs) cs' (l ∷ ls) ls' same =
    ap (λ bs. edge_bound rows by e c l ∷ bs) (bounds-append rows by (e + 1) cs cs' ls ls' (omega (arith, same)) ∙ ap (λ k. edge_bounds rows by (e + 1) cs ls ++ edge_bounds rows by k cs' ls') (omega arith))

steps-append : (rows : Rows) (by : Multipliers) (e : ℕ) (s : ℤ) (cs cs' : List ℕ) (ls ls' : List (ℕ × ℕ)) → length cs ≡ length ls → edges_steps rows by e s (cs ++ cs') (ls ++ ls') ≡ edges_steps rows by e s cs ls ++ edges_steps rows by (e + length cs) (s +ℤ total (edge_bounds rows by e cs ls)) cs' ls'
steps-append rows by e s [] cs' [] ls' same =
    ap (λ k. edges_steps rows by k s cs' ls') (omega arith) ∙ ap (λ z. edges_steps rows by (e + 0) z cs' ls') (sym (+ℤ_idr s))
steps-append rows by e s [] cs' (l ∷ ls) ls' same = absurd (omega (arith, same))
steps-append rows by e s (c ∷ cs) cs' [] ls' same = absurd (omega (arith, same))
steps-append rows by e s (c ∷ cs) cs' (l ∷ ls) ls' same =
    let bound = edge_bound rows by e c l in
    let own = edge_steps rows by e s c l in
    let more = edges_steps rows by (e + 1) (s +ℤ bound) cs ls in
    ap (λ steps. own ++ steps) (steps-append rows by (e + 1) (s +ℤ bound) cs cs' ls ls' (omega (arith, same)))
    ∙ sym (append_assoc own more (edges_steps rows by (e + 1 + length cs) ((s +ℤ bound) +ℤ total (edge_bounds rows by (e + 1) cs ls)) cs' ls'))
    ∙ ap (λ k. (own ++ more) ++ edges_steps rows by k ((s +ℤ bound) +ℤ total (edge_bounds rows by (e + 1) cs ls)) cs' ls') (omega arith)
    ∙ ap (λ z. (own ++ more) ++ edges_steps rows by (e + length (c ∷ cs)) z cs' ls') (+ℤ_assoc s bound (total (edge_bounds rows by (e + 1) cs ls)))

-- the steps up to the first n edges left, and those after
batch-split : (rows : Rows) (by : Multipliers) (e : ℕ) (s : ℤ) (n : ℕ) (costs : List ℕ) (limits : List (ℕ × ℕ)) → n ≤ length costs → length costs ≡ length limits → edges_steps rows by e s costs limits ≡ edges_steps rows by e s (take n costs) (take n limits) ++ edges_steps rows by (e + n) (s +ℤ total (edge_bounds rows by e (take n costs) (take n limits))) (drop n costs) (drop n limits)
batch-split rows by e s n costs limits h same =
    let short : length (take n costs) ≡ n = length-take-le n costs h in
    let short' : length (take n limits) ≡ n = length-take-le n limits (omega (arith, h, same)) in
    ap (λ cs. edges_steps rows by e s cs limits) (sym (take-append-drop n costs))
    ∙ ap (λ ls. edges_steps rows by e s (take n costs ++ drop n costs) ls) (sym (take-append-drop n limits))
    ∙ steps-append rows by e s (take n costs) (drop n costs) (take n limits) (drop n limits) (short ∙ sym short')
    ∙ ap (λ k. edges_steps rows by e s (take n costs) (take n limits) ++ edges_steps rows by (e + k) (s +ℤ total (edge_bounds rows by e (take n costs) (take n limits))) (drop n costs) (drop n limits)) short

bounds-split : (rows : Rows) (by : Multipliers) (e n : ℕ) (costs : List ℕ) (limits : List (ℕ × ℕ)) → n ≤ length costs → length costs ≡ length limits → edge_bounds rows by e costs limits ≡ edge_bounds rows by e (take n costs) (take n limits) ++ edge_bounds rows by (e + n) (drop n costs) (drop n limits)
bounds-split rows by e n costs limits h same =
    let short : length (take n costs) ≡ n = length-take-le n costs h in
    let short' : length (take n limits) ≡ n = length-take-le n limits (omega (arith, h, same)) in
    ap (λ cs. edge_bounds rows by e cs limits) (sym (take-append-drop n costs))
    ∙ ap (λ ls. edge_bounds rows by e (take n costs ++ drop n costs) ls) (sym (take-append-drop n limits))
    ∙ bounds-append rows by e (take n costs) (drop n costs) (take n limits) (drop n limits) (short ∙ sym short')
    ∙ ap (λ k. edge_bounds rows by e (take n costs) (take n limits) ++ edge_bounds rows by (e + k) (drop n costs) (drop n limits)) short

-- the next n edges cannot be added
pub Bounded-stop : {rows : Rows} {objective : Objective} {within : CountBox} {by : Multipliers} {edge : ℕ} {sum : ℤ} {costs : List ℕ} {limits : List (ℕ × ℕ)} (n : ℕ) → n ≤ length costs → length costs ≡ length limits → Bounded rows objective within by edge sum costs limits → ¬ StaysInI128 (edges_steps rows by edge sum (take n costs) (take n limits)) → ¬ StaysInI128 (dual_steps rows objective within by)
Bounded-stop {rows} {by = by} {edge} {sum} {costs} {limits} n h same b fails k =
    let later = edges_steps rows by (edge + n) (sum +ℤ total (edge_bounds rows by edge (take n costs) (take n limits))) (drop n costs) (drop n limits) in
    fails ((stays-append (edges_steps rows by edge sum (take n costs) (take n limits)) later).0 (subst StaysInI128 (batch-split rows by edge sum n costs limits h same) (b.stays.0 k))).0

-- the next n edges are added
pub Bounded-next : {rows : Rows} {objective : Objective} {within : CountBox} {by : Multipliers} {edge : ℕ} {sum : ℤ} {costs : List ℕ} {limits : List (ℕ × ℕ)} (n : ℕ) → n ≤ length costs → length costs ≡ length limits → Bounded rows objective within by edge sum costs limits → StaysInI128 (edges_steps rows by edge sum (take n costs) (take n limits)) → FitsSigned w128 (sum +ℤ total (edge_bounds rows by edge (take n costs) (take n limits))) → Bounded rows objective within by (edge + n) (sum +ℤ total (edge_bounds rows by edge (take n costs) (take n limits))) (drop n costs) (drop n limits)
Bounded-next {rows} {by = by} {edge} {sum} {costs} {limits} n h same b own fits =
    let first = edge_bounds rows by edge (take n costs) (take n limits) in
    let rest = edge_bounds rows by (edge + n) (drop n costs) (drop n limits) in
    let later = edges_steps rows by (edge + n) (sum +ℤ total first) (drop n costs) (drop n limits) in
    let parts = stays-append (edges_steps rows by edge sum (take n costs) (take n limits)) later in
    let split = batch-split rows by edge sum n costs limits h same in
    record {
      fits = fits;
      stays = (λ k. (parts.0 (subst StaysInI128 split (b.stays.0 k))).1, λ k. b.stays.1 (subst StaysInI128 (sym split) (parts.1 (own, k))));
      whole = b.whole ∙ ap (λ bs. sum +ℤ total bs) (bounds-split rows by edge n costs limits h same) ∙ ap (λ z. sum +ℤ z) (total-append first rest) ∙ sym (+ℤ_assoc sum (total first) (total rest));
    }

-- all edges are added
pub Bounded-all : {rows : Rows} {objective : Objective} {within : CountBox} {by : Multipliers} {edge : ℕ} {sum : ℤ} {limits : List (ℕ × ℕ)} → Bounded rows objective within by edge sum [] limits → StaysInI128 (dual_steps rows objective within by) × (sum ≡ scaled_bound rows objective within by)
Bounded-all {sum} b = (b.stays.1 stays-nil, sym (b.whole ∙ +ℤ_idr sum))
