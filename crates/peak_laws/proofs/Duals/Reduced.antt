-- What the rows leave of the cost of an edge, where their multipliers are potentials and turn costs.
use Rattle.std.proofs.Common.{◌≡◌, ◌<◌, ℕ, zero, suc, ◌+◌, ◌*◌, ℤ, pos, negsuc, ◌+ℤ◌, ◌-ℤ◌, ◌*ℤ◌, Bool, true, false, if◌then◌else◌, List, [], ◌∷◌, ◌++◌, length, map, Some, refl, sym, ap, ◌∙◌, subst, arith}
use Rattle.std.specs.Prelude.{slice_get, ◌==◌}
use Rattle.std.specs.List.{filter}
use Rattle.std.proofs.lemmas.Bool.{eq-eqb, ne_eqb}
use Rattle.std.proofs.lemmas.Int.{ints}
use Rattle.flow_laws.specs.declared.graph.Edge.{Edge}
use Rattle.flow_laws.specs.Sites.{Site}
use Rattle.flow_laws.specs.Graphs.{enters, loop_of}
use Rattle.flow_laws.specs.Paths.{is_in_list}
use Rattle.lin_rows.specs.Steps.{total}
use Rattle.lin_rows.specs.declared.row.Row.{Row}
use Rattle.bound_cert.specs.Dual.{weighted_terms, weighted_factors}
use Rattle.bound_cert.proofs.Columns.{total-append}
use Rattle.bound_cert.proofs.Products.{times-plus}
use Rattle.ipet_rows.specs.FlowRows.{one_if, term, terms, node_factor, loop_factor, node_rows, loop_row}
use Rattle.peak_laws.specs.Parts.{CostedLoop, turn_limit, turns, entry_charge, turn_refund}
use Rattle.peak_laws.specs.Answers.{copies_of_loops, turn_costs}
use Rattle.peak_laws.proofs.GraphParts.Places.{Every, Agrees, agrees_alike}
use Rattle.peak_laws.proofs.Attaining.Sums.{Chosen}

-- ---- the terms of one row that name an edge

one_kept : (y : ℤ) (i j : ℕ) (z : ℤ) (ts : List (ℕ × ℤ)) → i ≡ j → total (weighted_terms y (term i z ++ ts) j) ≡ y *ℤ z +ℤ total (weighted_terms y ts j)
one_kept y i j (pos zero) ts h = omega (arith, ints)
one_kept y i j (pos (suc k)) ts h =
    ap (λ b. total (map (λ (t : ℕ × ℤ). y *ℤ t.1) (if b then (i, pos (suc k)) ∷ filter (λ t. t.0 == j) ts else filter (λ t. t.0 == j) ts))) (eq-eqb i j h)
one_kept y i j (negsuc k) ts h =
    ap (λ b. total (map (λ (t : ℕ × ℤ). y *ℤ t.1) (if b then (i, negsuc k) ∷ filter (λ t. t.0 == j) ts else filter (λ t. t.0 == j) ts))) (eq-eqb i j h)

one_left : (y : ℤ) (i j : ℕ) (z : ℤ) (ts : List (ℕ × ℤ)) → (i ≡ j → ⊥) → total (weighted_terms y (term i z ++ ts) j) ≡ total (weighted_terms y ts j)
one_left y i j (pos zero) ts h = refl
one_left y i j (pos (suc k)) ts h =
    ap (λ b. total (map (λ (t : ℕ × ℤ). y *ℤ t.1) (if b then (i, pos (suc k)) ∷ filter (λ t. t.0 == j) ts else filter (λ t. t.0 == j) ts))) (ne_eqb i j h)
one_left y i j (negsuc k) ts h =
    ap (λ b. total (map (λ (t : ℕ × ℤ). y *ℤ t.1) (if b then (i, negsuc k) ∷ filter (λ t. t.0 == j) ts else filter (λ t. t.0 == j) ts))) (ne_eqb i j h)

none_later : (y : ℤ) (f : ℕ → Edge → ℤ) (i j : ℕ) (es : List Edge) → j < i → total (weighted_terms y (terms f i es) j) ≡ pos 0
none_later y f i j [] lt = refl
none_later y f i j (e ∷ es) lt =
    one_left y i j (f i e) (terms f (i + 1) es) (λ is. omega (arith, lt, is)) ∙ none_later y f (i + 1) j es (omega (arith, lt))

row_from : (y : ℤ) (f : ℕ → Edge → ℤ) (i k : ℕ) (es : List Edge) (e : Edge) → slice_get es k ≡ Some e → total (weighted_terms y (terms f i es) (i + k)) ≡ y *ℤ f (i + k) e
row_from y f i k [] e h = absurd (cc)
row_from y f i zero (d ∷ es) e h =
    let same : d ≡ e = cc in
    let z : i ≡ i + 0 = omega arith in
    let none = none_later y f (i + 1) (i + 0) es (omega arith) in
    one_kept y i (i + 0) (f i d) (terms f (i + 1) es) z ∙ (λ l. y *ℤ f (z l) (same l) +ℤ none l) ∙ omega (arith, ints)
row_from y f i (suc k) (d ∷ es) e h =
    let z : i + 1 + k ≡ i + suc k = omega arith in
    one_left y i (i + suc k) (f i d) (terms f (i + 1) es) (λ is. omega (arith, is)) ∙ subst (λ n. total (weighted_terms y (terms f (i + 1) es) n) ≡ y *ℤ f n e) z (row_from y f (i + 1) k es e h)

pub row_is : (y : ℤ) (f : ℕ → Edge → ℤ) (es : List Edge) (j : ℕ) (e : Edge) → slice_get es j ≡ Some e → total (weighted_terms y (terms f 0 es) j) ≡ y *ℤ f j e
row_is y f es j e h =
    let z : 0 + j ≡ j = omega arith in
    subst (λ n. total (weighted_terms y (terms f 0 es) n) ≡ y *ℤ f n e) z (row_from y f 0 j es e h)

pub factors_append : (rows more : List Row) (ys zs : List ℤ) (j : ℕ) → length rows ≡ length ys → total (weighted_factors (rows ++ more) (ys ++ zs) j) ≡ total (weighted_factors rows ys j) +ℤ total (weighted_factors more zs j)
factors_append [] more [] zs j h = omega (arith, ints)
factors_append [] more (y ∷ ys) zs j h = absurd (omega (arith, h))
factors_append (row ∷ rows) more [] zs j h = absurd (omega (arith, h))
factors_append (row ∷ rows) more (y ∷ ys) zs j h =
    total-append (weighted_terms y row.terms j) (weighted_factors (rows ++ more) (ys ++ zs) j) ∙ ap (λ z. total (weighted_terms y row.terms j) +ℤ z) (factors_append rows more ys zs j (omega (arith, h))) ∙ regroup (total (weighted_terms y row.terms j)) (total (weighted_factors rows ys j)) (total (weighted_factors more zs j)) ∙ ap (λ z. z +ℤ total (weighted_factors more zs j)) (sym (total-append (weighted_terms y row.terms j) (weighted_factors rows ys j)))
  where
    regroup : (a b c : ℤ) → a +ℤ (b +ℤ c) ≡ (a +ℤ b) +ℤ c
    regroup a b c = omega (arith, ints)

-- ---- nodes: potentials

-- the number of the node v in a list of which the first is that of the node n, and 0 where it has none
abbrev pub looked_up : ℕ → List ℕ → ℕ → ℕ
looked_up n [] v = 0
looked_up n (p ∷ ps) v = (if v == n then p else 0) + looked_up (n + 1) ps v

pub below_none : (n : ℕ) (ps : List ℕ) (v : ℕ) → v < n → looked_up n ps v ≡ 0
below_none n [] v lt = refl
below_none n (p ∷ ps) v lt =
    omega (arith, ap (λ b. if b then p else 0) (ne_eqb v n (λ is. omega (arith, lt, is))), below_none (n + 1) ps v (omega (arith, lt)))

pub looked_up_agrees : (n : ℕ) (ps : List ℕ) → Agrees (looked_up n ps) n ps
looked_up_agrees n [] = tt
looked_up_agrees n (p ∷ ps) =
    let here : looked_up n (p ∷ ps) n ≡ p = omega (arith, ap (λ b. if b then p else 0) (eq-eqb n n refl), below_none (n + 1) ps n (omega arith)) in
    (here, agrees_alike (looked_up (n + 1) ps) (looked_up n (p ∷ ps)) (n + 1) ps (λ v le lt. omega (arith, ap (λ b. if b then p else 0) (ne_eqb v n (λ is. omega (arith, le, is))))) (looked_up_agrees (n + 1) ps))

pub node_factors : (es : List Edge) (n : ℕ) (ps : List ℕ) (j : ℕ) (e : Edge) → slice_get es j ≡ Some e → total (weighted_factors (node_rows es n (length ps)) (map pos ps) j) ≡ pos (looked_up n ps e.from) -ℤ pos (looked_up n ps e.to)
node_factors es n [] j e h = refl
node_factors es n (p ∷ ps) j e h =
    total-append (weighted_terms (pos p) (terms (node_factor n) 0 es) j) (weighted_factors (node_rows es (n + 1) (length ps)) (map pos ps) j) ∙ (λ i. row_is (pos p) (node_factor n) es j e h i +ℤ node_factors es (n + 1) ps j e h i) ∙ by_ends (e.from == n) (e.to == n) (looked_up (n + 1) ps e.from) (looked_up (n + 1) ps e.to)
  where
    by_ends : (a b : Bool) (f t : ℕ) → pos p *ℤ (one_if a -ℤ one_if b) +ℤ (pos f -ℤ pos t) ≡ pos ((if a then p else 0) + f) -ℤ pos ((if b then p else 0) + t)
    by_ends true true f t = omega (arith, ints)
    by_ends true false f t = omega (arith, ints)
    by_ends false true f t = omega (arith, ints)
    by_ends false false f t = omega (arith, ints)

-- ---- loops: turn costs

-- each loop's turn and entries are known by their edges
abbrev pub Known : List Site → List Edge → CostedLoop → Type 0
Known g es f = Chosen (loop_of g f.loop_copy) (turns f.loop_copy) (enters f.loop_copy) 0 es

pub times_minus : (y a b : ℕ) → pos y *ℤ (pos a -ℤ pos b) ≡ pos (y * a) -ℤ pos (y * b)
times_minus y a b =
    let back : (pos a -ℤ pos b) +ℤ pos b ≡ pos a = omega (arith, ints) in
    let all : pos y *ℤ ((pos a -ℤ pos b) +ℤ pos b) ≡ pos (y * a) = ap (λ z. pos y *ℤ z) back in
    let apart = times-plus (pos y) (pos a -ℤ pos b) (pos b) in
    omega (arith, ints, all, apart)

-- a turn and an entry of one loop
one_loop : (a b : Bool) (y m t p : ℕ) → pos y *ℤ (one_if a -ℤ pos m *ℤ one_if b) +ℤ (pos t -ℤ pos p) ≡ pos ((if a then y else 0) + t) -ℤ pos ((if b then m * y else 0) + p)
one_loop true true y m t p =
    let u : y * (m * 1) ≡ m * y = omega arith in
    let v : y * 1 ≡ y = omega arith in
    ap (λ z. z +ℤ (pos t -ℤ pos p)) (times_minus y 1 (m * 1)) ∙ (λ i. (pos (v i) -ℤ pos (u i)) +ℤ (pos t -ℤ pos p)) ∙ omega (arith, ints)
one_loop true false y m t p =
    let u : y * (m * 0) ≡ 0 = omega arith in
    let v : y * 1 ≡ y = omega arith in
    ap (λ z. z +ℤ (pos t -ℤ pos p)) (times_minus y 1 (m * 0)) ∙ (λ i. (pos (v i) -ℤ pos (u i)) +ℤ (pos t -ℤ pos p)) ∙ omega (arith, ints)
one_loop false true y m t p =
    let u : y * (m * 1) ≡ m * y = omega arith in
    let v : y * 0 ≡ 0 = omega arith in
    ap (λ z. z +ℤ (pos t -ℤ pos p)) (times_minus y 0 (m * 1)) ∙ (λ i. (pos (v i) -ℤ pos (u i)) +ℤ (pos t -ℤ pos p)) ∙ omega (arith, ints)
one_loop false false y m t p =
    let u : y * (m * 0) ≡ 0 = omega arith in
    let v : y * 0 ≡ 0 = omega arith in
    ap (λ z. z +ℤ (pos t -ℤ pos p)) (times_minus y 0 (m * 0)) ∙ (λ i. (pos (v i) -ℤ pos (u i)) +ℤ (pos t -ℤ pos p)) ∙ omega (arith, ints)

pub loop_factors : (g : List Site) (es : List Edge) (fs : List CostedLoop) (j : ℕ) (e : Edge) → slice_get es j ≡ Some e → Every (Known g es) fs → total (weighted_factors (map (loop_row es) (map (loop_of g) (copies_of_loops fs))) (map pos (turn_costs fs)) j) ≡ pos (turn_refund fs e) -ℤ pos (entry_charge fs e)
loop_factors g es [] j e h known = refl
loop_factors g es (f ∷ fs) j e h known =
    let l = loop_of g f.loop_copy in
    let z : 0 + j ≡ j = omega arith in
    let turn : (j == l.turn) ≡ turns f.loop_copy e = subst (λ n. (n == l.turn) ≡ turns f.loop_copy e) z ((known.0).turn j e h) in
    let into : is_in_list j l.into ≡ enters f.loop_copy e = subst (λ n. is_in_list n l.into ≡ enters f.loop_copy e) z ((known.0).into j e h) in
    total-append (weighted_terms (pos f.turn) (terms (loop_factor l) 0 es) j) (weighted_factors (map (loop_row es) (map (loop_of g) (copies_of_loops fs))) (map pos (turn_costs fs)) j) ∙ (λ i. row_is (pos f.turn) (loop_factor l) es j e h i +ℤ loop_factors g es fs j e h known.1 i) ∙ (λ i. pos f.turn *ℤ (one_if (turn i) -ℤ pos (turn_limit f.loop_copy) *ℤ one_if (into i)) +ℤ (pos (turn_refund fs e) -ℤ pos (entry_charge fs e))) ∙ one_loop (turns f.loop_copy e) (enters f.loop_copy e) f.turn (turn_limit f.loop_copy) (turn_refund fs e) (entry_charge fs e)
