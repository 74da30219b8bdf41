-- Sums of the counts of edges are counts along the list.
use Rattle.std.proofs.Common.{◌≡◌, ◌<◌, ℕ, zero, suc, ◌+◌, ◌*◌, Bool, true, false, if◌then◌else◌, List, [], ◌∷◌, Some, refl, sym, ap, ◌∙◌, subst, arith}
use Rattle.std.specs.Prelude.{slice_get, ◌==◌}
use Rattle.std.proofs.lemmas.Bool.{eq-eqb, ne_eqb}
use Rattle.flow_laws.specs.declared.graph.Edge.{Edge}
use Rattle.c_tree.specs.declared.program.Costs.{Costs}
use Rattle.flow_laws.specs.Sites.{Site}
use Rattle.flow_laws.specs.Graphs.{positions, edges}
use Rattle.flow_laws.specs.Paths.{times, edge_count, total, total_of, cost_of_edge, price, worth_of, worth}
use Rattle.flow_laws.proofs.Runs.EdgeNumbers.{Names}

pub total_positions : (js : List ℕ) (p : Edge → Bool) (i : ℕ) (es : List Edge) → total js (positions i p es) ≡ total_of js p i es
total_positions js p i [] = refl
total_positions js p i (e ∷ es) = by_edge (p e) (total_positions js p (i + 1) es)
  where
    by_edge : (b : Bool) → total js (positions (i + 1) p es) ≡ total_of js p (i + 1) es → total js (if b then i ∷ positions (i + 1) p es else positions (i + 1) p es) ≡ (if b then edge_count js i + total_of js p (i + 1) es else total_of js p (i + 1) es)
    by_edge true h = ap (λ y. edge_count js i + y) h
    by_edge false h = h

pub count_same : (js : List ℕ) (j i : ℕ) → (j == i) ≡ true → edge_count (j ∷ js) i ≡ suc (edge_count js i)
count_same js j i e = ap (λ b. if b then suc (edge_count js i) else edge_count js i) e

pub count_other : (js : List ℕ) (j i : ℕ) → (j == i) ≡ false → edge_count (j ∷ js) i ≡ edge_count js i
count_other js j i e = ap (λ b. if b then suc (edge_count js i) else edge_count js i) e

-- a number below those of the edges
total_below : (js : List ℕ) (p : Edge → Bool) (i j : ℕ) (es : List Edge) → j < i → total_of (j ∷ js) p i es ≡ total_of js p i es
total_below js p i j [] lt = refl
total_below js p i j (e ∷ es) lt = by_edge (p e) (total_below js p (i + 1) j es (omega (arith, lt)))
  where
    here : edge_count (j ∷ js) i ≡ edge_count js i
    here = count_other js j i (ne_eqb j i (λ e. omega (arith, lt, e)))

    by_edge : (b : Bool) → total_of (j ∷ js) p (i + 1) es ≡ total_of js p (i + 1) es → (if b then edge_count (j ∷ js) i + total_of (j ∷ js) p (i + 1) es else total_of (j ∷ js) p (i + 1) es) ≡ (if b then edge_count js i + total_of js p (i + 1) es else total_of js p (i + 1) es)
    by_edge true h = λ t. here t + h t
    by_edge false h = h

-- a number of theirs
total_more : (js : List ℕ) (p : Edge → Bool) (i k : ℕ) (es : List Edge) (e : Edge) → slice_get es k ≡ Some e → total_of ((i + k) ∷ js) p i es ≡ (if p e then suc (total_of js p i es) else total_of js p i es)
total_more js p i k [] e h = absurd (cc)
total_more js p i zero (d ∷ es) e h =
    let same : d ≡ e = cc in
    subst (λ y. total_of ((i + 0) ∷ js) p i (d ∷ es) ≡ (if p y then suc (total_of js p i (d ∷ es)) else total_of js p i (d ∷ es))) same (by_edge (p d))
  where
    here : edge_count ((i + 0) ∷ js) i ≡ suc (edge_count js i)
    here = count_same js (i + 0) i (eq-eqb (i + 0) i (omega arith))

    rest : total_of ((i + 0) ∷ js) p (i + 1) es ≡ total_of js p (i + 1) es
    rest = total_below js p (i + 1) (i + 0) es (omega arith)

    by_edge : (b : Bool) → (let all = if b then edge_count js i + total_of js p (i + 1) es else total_of js p (i + 1) es in (if b then edge_count ((i + 0) ∷ js) i + total_of ((i + 0) ∷ js) p (i + 1) es else total_of ((i + 0) ∷ js) p (i + 1) es) ≡ (if b then suc all else all))
    by_edge true = omega (arith, here, rest)
    by_edge false = rest
total_more js p i (suc k) (d ∷ es) e h =
    let z : i + 1 + k ≡ i + suc k = omega arith in
    let rest = subst (λ y. total_of (y ∷ js) p (i + 1) es ≡ (if p e then suc (total_of js p (i + 1) es) else total_of js p (i + 1) es)) z (total_more js p (i + 1) k es e h) in
    by_edges (p d) (p e) rest
  where
    here : edge_count ((i + suc k) ∷ js) i ≡ edge_count js i
    here = count_other js (i + suc k) i (ne_eqb (i + suc k) i (λ e. omega (arith, e)))

    by_edges : (b c : Bool) → total_of ((i + suc k) ∷ js) p (i + 1) es ≡ (if c then suc (total_of js p (i + 1) es) else total_of js p (i + 1) es) → (let all = if b then edge_count js i + total_of js p (i + 1) es else total_of js p (i + 1) es in (if b then edge_count ((i + suc k) ∷ js) i + total_of ((i + suc k) ∷ js) p (i + 1) es else total_of ((i + suc k) ∷ js) p (i + 1) es) ≡ (if c then suc all else all))
    by_edges true true h = omega (arith, here, h)
    by_edges true false h = omega (arith, here, h)
    by_edges false true h = h
    by_edges false false h = h

total_none : (p : Edge → Bool) (i : ℕ) (es : List Edge) → total_of [] p i es ≡ 0
total_none p i [] = refl
total_none p i (e ∷ es) = by_edge (p e) (total_none p (i + 1) es)
  where
    by_edge : (b : Bool) → total_of [] p (i + 1) es ≡ 0 → (if b then 0 + total_of [] p (i + 1) es else total_of [] p (i + 1) es) ≡ 0
    by_edge true h = omega (arith, h)
    by_edge false h = h

pub total_names : (p : Edge → Bool) (es : List Edge) (js : List ℕ) (q : List Edge) → Names es js q → total_of js p 0 es ≡ times p q
total_names p es [] [] h = total_none p 0 es
total_names p es [] (e ∷ q) h = absurd h
total_names p es (j ∷ js) [] h = absurd h
total_names p es (j ∷ js) (e ∷ q) h =
    let z : 0 + j ≡ j = omega arith in
    let rest = total_names p es js q h.1 in
    subst (λ y. total_of (y ∷ js) p 0 es ≡ (if p e then suc (total_of js p 0 es) else total_of js p 0 es)) z (total_more js p 0 j es e h.0) ∙ ap (λ y. if p e then suc y else y) rest

-- ---- prices

worth_none : (t : Costs) (g : List Site) (i : ℕ) (es : List Edge) → worth_of t g [] i es ≡ 0
worth_none t g i [] = refl
worth_none t g i (e ∷ es) = omega (arith, worth_none t g (i + 1) es)

worth_below : (t : Costs) (g : List Site) (q : List ℕ) (i j : ℕ) (es : List Edge) → j < i → worth_of t g (j ∷ q) i es ≡ worth_of t g q i es
worth_below t g q i j [] lt = refl
worth_below t g q i j (e ∷ es) lt =
    let here = ap (λ y. cost_of_edge t g (Some e) * y) (count_other q j i (ne_eqb j i (λ e. omega (arith, lt, e)))) in
    omega (arith, here, worth_below t g q (i + 1) j es (omega (arith, lt)))

worth_more : (t : Costs) (g : List Site) (q : List ℕ) (i k : ℕ) (es : List Edge) → worth_of t g ((i + k) ∷ q) i es ≡ cost_of_edge t g (slice_get es k) + worth_of t g q i es
worth_more t g q i k [] = refl
worth_more t g q i zero (e ∷ es) =
    let here = ap (λ y. cost_of_edge t g (Some e) * y) (count_same q (i + 0) i (eq-eqb (i + 0) i (omega arith))) in
    omega (arith, here, worth_below t g q (i + 1) (i + 0) es (omega arith))
worth_more t g q i (suc k) (e ∷ es) =
    let here = ap (λ y. cost_of_edge t g (Some e) * y) (count_other q (i + suc k) i (ne_eqb (i + suc k) i (λ e. omega (arith, e)))) in
    let z : i + 1 + k ≡ i + suc k = omega arith in
    let rest = worth_more t g q (i + 1) k es in
    omega (arith, here, rest, ap (λ y. worth_of t g (y ∷ q) (i + 1) es) z)

pub price_by_counts : (t : Costs) (g : List Site) (q : List ℕ) → price t g q ≡ worth t g q
price_by_counts t g [] = sym (worth_none t g 0 (edges g))
price_by_counts t g (j ∷ q) =
    let z : 0 + j ≡ j = omega arith in
    let more = worth_more t g q 0 j (edges g) in
    omega (arith, price_by_counts t g q, more, ap (λ y. worth_of t g (y ∷ q) 0 (edges g)) z)
