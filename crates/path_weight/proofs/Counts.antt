-- The weight of a list by how often it has each edge.
use Rattle.std.proofs.Common.{◌≡◌, ◌≢◌, ◌⊎◌, inl, inr, ◌<◌, ◌≤◌, ℕ, zero, suc, ◌+◌, ◌*◌, ◌-◌, ◌^◌, min, true, false, if◌then◌else◌, List, [], ◌∷◌, All, refl, sym, ap, ◌∙◌, arith, add-one}
use Rattle.std.specs.Prelude.{slice_get, ◌==◌}
use Rattle.std.proofs.lemmas.Bool.{eq-eqb, ne_eqb}
use Rattle.std.proofs.lemmas.Bool.Decides.{eqb_tells}
use Rattle.c_tree.specs.declared.program.Program.{Program}
use Rattle.flow_laws.specs.Graphs.{graph, edges}
use Rattle.cond_laws.specs.Weights.{edge_weight, sum_weight}
use Rattle.flow_laws.specs.Paths.{edge_count}
use Rattle.path_weight.specs.Capped.{capped_weight}
use Rattle.plain_laws.proofs.Numbers.{min_of_sum}
use Rattle.flow_laws.proofs.Counts.CountSums.{count_same, count_other}

-- the edges below n, as often as the list has them
abbrev pub by_counts : (ℕ → ℕ) → List ℕ → ℕ → ℕ
by_counts w q zero = 0
by_counts w q (suc n) = by_counts w q n + w n * edge_count q n

abbrev pub edge_at : Program → ℕ → ℕ
edge_at p j = edge_weight p (slice_get (edges (graph p)) j)

none_counted : (w : ℕ → ℕ) (n : ℕ) → by_counts w [] n ≡ 0
none_counted w zero = refl
none_counted w (suc n) = omega (arith, none_counted w n)

-- ---- with one edge more

one_later : (w : ℕ → ℕ) (j : ℕ) (q : List ℕ) (n : ℕ) → n ≤ j → by_counts w (j ∷ q) n ≡ by_counts w q n
one_later w j q zero le = refl
one_later w j q (suc n) le =
    let here = ap (λ y. w n * y) (count_other q j n (ne_eqb j n (λ e. omega (arith, le, e)))) in
    omega (arith, here, one_later w j q n (omega (arith, le)))

last : (w : ℕ → ℕ) (j : ℕ) (q : List ℕ) (n : ℕ) → j ≡ n → by_counts w (j ∷ q) (suc n) ≡ w j + by_counts w q (suc n)
last w j q n e =
    let here = ap (λ y. w n * y) (count_same q j n (eq-eqb j n e)) in
    omega (arith, here, one_later w j q n (omega (arith, e)), ap w e)

one_more : (w : ℕ → ℕ) (j : ℕ) (q : List ℕ) (n : ℕ) → j < n → by_counts w (j ∷ q) n ≡ w j + by_counts w q n
one_more w j q zero lt = absurd (omega (arith, lt))
one_more w j q (suc n) lt = by_place (eqb_tells j n) (λ below. one_more w j q n below)
  where
    by_place : (((j == n) ≡ true) × (j ≡ n)) ⊎ (((j == n) ≡ false) × (j ≢ n)) → (j < n → by_counts w (j ∷ q) n ≡ w j + by_counts w q n) → by_counts w (j ∷ q) (suc n) ≡ w j + by_counts w q (suc n)
    by_place (inl e) before = last w j q n e.1
    by_place (inr ne) before =
        let here = ap (λ y. w n * y) (count_other q j n ne.0) in
        let below : j < n = omega (arith, lt, ne.1) in
        omega (arith, here, before below)

-- a list that names edges below n alone
pub sum_is : (p : Program) (q : List ℕ) (n : ℕ) → All (λ j. j < n) q → sum_weight p q ≡ by_counts (edge_at p) q n
sum_is p [] n all = sym (none_counted (edge_at p) n)
sum_is p (j ∷ q) n all = ap (λ k. edge_at p j + k) (sum_is p q n (λ k d lt. all (suc k) d (omega (arith, lt)))) ∙ sym (one_more (edge_at p) j q n (all 0 j (omega arith)))

pub next_edge : (w : ℕ → ℕ) (q : List ℕ) (n sum part new times : ℕ) → new ≡ min (sum + part) (2 ^ 64 - 1) → sum ≡ capped_weight (by_counts w q n) → part ≡ capped_weight (w n * times) → times ≡ edge_count q n → new ≡ capped_weight (by_counts w q (n + 1))
next_edge w q n sum part new times h is each t =
    h ∙ (λ i. min (is i + (each ∙ ap (λ k. capped_weight (w n * k)) t) i) (2 ^ 64 - 1)) ∙ min_of_sum (2 ^ 64 - 1) (by_counts w q n) (w n * edge_count q n) ∙ ap (λ k. capped_weight (by_counts w q k)) (sym (add-one n))
