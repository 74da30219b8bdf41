-- Costs that are scaled one by one.
use Rattle.std.proofs.Common.{◌≡◌, ◌↔◌, ℕ, ◌+◌, ◌<◌, ◌≤◌, ℤ, pos, ◌*ℤ◌, List, [], ◌∷◌, ◌++◌, length, get_or, set, take, drop, FitsSigned, refl, sym, ap, ◌∙◌, subst, arith}
use Rattle.std.specs.Int.{w128}
use Rattle.std.proofs.lemmas.List.{drop_more, drop_all, take_more, take_more_set, take_all, map-append, length-set}
use Rattle.lin_rows.specs.Steps.{StaysInI128}
use Rattle.lin_rows.proofs.StepLists.{stays-nil, stays-cons}
use Rattle.bound_cert.specs.Batches.{starts}

-- the first i costs are scaled
pub record Scaled (d : ℤ) (costs : List ℕ) (i : ℕ) (reduced : List ℤ) : Type 0 where
  pub same : length costs ≡ length reduced
  pub made : take i reduced ≡ starts d (take i costs)
  pub stays : StaysInI128 (starts d costs) ↔ StaysInI128 (starts d (drop i costs))

pub Scaled-start : (d : ℤ) (costs : List ℕ) (reduced : List ℤ) → length costs ≡ length reduced → Scaled d costs 0 reduced
Scaled-start d costs reduced same = record { same = same; made = refl; stays = (λ h. h, λ h. h) }

-- the next cost
rest-parts : (d : ℤ) (costs : List ℕ) (i : ℕ) → i < length costs → StaysInI128 (starts d (drop i costs)) ↔ (FitsSigned w128 (d *ℤ pos (get_or costs i 0)) × StaysInI128 (starts d (drop (i + 1) costs)))
rest-parts d costs i h =
    rw (drop_more costs i 0 h) (stays-cons (d *ℤ pos (get_or costs i 0)) (starts d (drop (i + 1) costs)))

pub Scaled-next : {d : ℤ} {costs : List ℕ} {i : ℕ} {reduced : List ℤ} → i < length costs → Scaled d costs i reduced → FitsSigned w128 (d *ℤ pos (get_or costs i 0)) → Scaled d costs (i + 1) (set reduced i (d *ℤ pos (get_or costs i 0)))
Scaled-next {d} {costs} {i} {reduced} h s fits =
    let parts = rest-parts d costs i h in
    let value = d *ℤ pos (get_or costs i 0) in
    let within : i < length reduced = omega (arith, h, s.same) in
    record {
      same = s.same ∙ sym (length-set reduced i value);
      made = take_more_set reduced i value within ∙ ap (λ zs. zs ++ value ∷ []) s.made ∙ sym (ap (starts d) (take_more costs i 0 h) ∙ map-append (λ (cost : ℕ). d *ℤ pos cost) (take i costs) (get_or costs i 0 ∷ []));
      stays = (λ k. (parts.0 (s.stays.0 k)).1, λ k. s.stays.1 (parts.1 (fits, k)));
    }

pub Scaled-stop : {d : ℤ} {costs : List ℕ} {i : ℕ} {reduced : List ℤ} → i < length costs → Scaled d costs i reduced → ¬ FitsSigned w128 (d *ℤ pos (get_or costs i 0)) → ¬ StaysInI128 (starts d costs)
Scaled-stop {d} {costs} {i} h s fails k = fails ((rest-parts d costs i h).0 (s.stays.0 k)).0

-- all costs are scaled
pub Scaled-all : {d : ℤ} {costs : List ℕ} {i : ℕ} {reduced : List ℤ} → length costs ≤ i → Scaled d costs i reduced → StaysInI128 (starts d costs) × (reduced ≡ starts d costs)
Scaled-all {d} {costs} {i} {reduced} past s = (
  s.stays.1 (subst (λ cs. StaysInI128 (starts d cs)) (sym (drop_all i costs past)) stays-nil),
  sym (take_all i reduced (omega (arith, s.same, past))) ∙ s.made ∙ ap (starts d) (take_all i costs past),
)
