-- The left side of a row of factors, at the counts of a list of edges.
use Rattle.std.proofs.Common.{◌≡◌, ◌≤◌, ◌<◌, ℕ, zero, suc, ◌+◌, ◌*◌, ℤ, pos, negsuc, ◌+ℤ◌, ◌-ℤ◌, ◌*ℤ◌, Bool, true, false, if◌then◌else◌, List, [], ◌∷◌, ◌++◌, length, Some, refl, sym, ap, ◌∙◌, subst, arith}
use Rattle.std.specs.Prelude.{slice_get, slice_index, ◌==◌}
use Rattle.std.proofs.lemmas.Bool.{eqb-true, ne_eqb}
use Rattle.std.proofs.lemmas.Int.{ints}
use Rattle.flow_laws.specs.declared.graph.Edge.{Edge}
use Rattle.flow_laws.specs.declared.graph.Loop.{Loop}
use Rattle.flow_laws.specs.Paths.{edge_count, total_of, is_in_list, most_turns}
use Rattle.lin_rows.specs.Meeting.{left_side}
use Rattle.bound_cert.proofs.Products.{plus-times}
use Rattle.ipet_rows.specs.FlowRows.{one_if, term, terms, node_factor, loop_factor}
use Rattle.ipet_rows.specs.Counts.{counts_from}

-- the sum of factor times count over the edges, of which the first has the number i
abbrev pub weighted : (ℕ → Edge → ℤ) → List ℕ → ℕ → List Edge → ℤ
weighted f q i [] = pos 0
weighted f q i (e ∷ es) = f i e *ℤ pos (edge_count q i) +ℤ weighted f q (i + 1) es

pub count_at : (q : List ℕ) (i k : ℕ) (es : List Edge) → k < length es → slice_index (counts_from q i es) k ≡ edge_count q (i + k)
count_at q i k [] h = absurd (omega (arith, h))
count_at q i zero (e ∷ es) h = let z : i ≡ i + 0 = omega arith in ap (edge_count q) z
count_at q i (suc k) (e ∷ es) h =
    let z : i + 1 + k ≡ i + suc k = omega arith in
    count_at q (i + 1) k es (omega (arith, h)) ∙ ap (edge_count q) z

pub one_term : (z : ℤ) (i c : ℕ) (ts : List (ℕ × ℤ)) (x : List ℕ) → slice_index x i ≡ c → left_side (term i z ++ ts) x ≡ z *ℤ pos c +ℤ left_side ts x
one_term (pos zero) i c ts x h = omega (arith, ints)
one_term (pos (suc k)) i c ts x h = ap (λ n. pos (suc k) *ℤ pos n +ℤ left_side ts x) h
one_term (negsuc k) i c ts x h = ap (λ n. negsuc k *ℤ pos n +ℤ left_side ts x) h

left_from : (f : ℕ → Edge → ℤ) (q x : List ℕ) (i : ℕ) (es : List Edge) → ((k : ℕ) → k < length es → slice_index x (i + k) ≡ edge_count q (i + k)) → left_side (terms f i es) x ≡ weighted f q i es
left_from f q x i [] h = refl
left_from f q x i (e ∷ es) h =
    let z : i + 0 ≡ i = omega arith in
    let here : slice_index x i ≡ edge_count q i = subst (λ n. slice_index x n ≡ edge_count q n) z (h 0 (omega arith)) in
    let rest = left_from f q x (i + 1) es (λ k lt. subst (λ n. slice_index x n ≡ edge_count q n) (later k) (h (suc k) (omega (arith, lt)))) in
    one_term (f i e) i (edge_count q i) (terms f (i + 1) es) x here ∙ ap (λ r. f i e *ℤ pos (edge_count q i) +ℤ r) rest
  where
    later : (k : ℕ) → i + suc k ≡ i + 1 + k
    later k = omega arith

pub left_is : (f : ℕ → Edge → ℤ) (q : List ℕ) (es : List Edge) → left_side (terms f 0 es) (counts_from q 0 es) ≡ weighted f q 0 es
left_is f q es = left_from f q (counts_from q 0 es) 0 es (λ k lt. subst (λ n. slice_index (counts_from q 0 es) n ≡ edge_count q (0 + k)) (same k) (count_at q 0 k es lt))
  where
    same : (k : ℕ) → k ≡ 0 + k
    same k = omega arith

-- ---- nodes

pub node_is : (n : ℕ) (q : List ℕ) (i : ℕ) (es : List Edge) → weighted (node_factor n) q i es ≡ pos (total_of q (λ e. e.from == n) i es) -ℤ pos (total_of q (λ e. e.to == n) i es)
node_is n q i [] = refl
node_is n q i (e ∷ es) = by_ends (e.from == n) (e.to == n) (edge_count q i) (total_of q (λ d. d.from == n) (i + 1) es) (total_of q (λ d. d.to == n) (i + 1) es) (weighted (node_factor n) q (i + 1) es) (node_is n q (i + 1) es)
  where
    by_ends : (a b : Bool) (c out into : ℕ) (w : ℤ) → w ≡ pos out -ℤ pos into → (one_if a -ℤ one_if b) *ℤ pos c +ℤ w ≡ pos (if a then c + out else out) -ℤ pos (if b then c + into else into)
    by_ends true true c out into w h = omega (arith, ints, h)
    by_ends true false c out into w h = omega (arith, ints, h)
    by_ends false true c out into w h = omega (arith, ints, h)
    by_ends false false c out into w h = omega (arith, ints, h)

-- ---- loops

-- the counts of the edges whose numbers are chosen
abbrev pub hits : (ℕ → Bool) → List ℕ → ℕ → List Edge → ℕ
hits r q i [] = 0
hits r q i (e ∷ es) = if r i then edge_count q i + hits r q (i + 1) es else hits r q (i + 1) es

pub minus_times : (a m c : ℕ) → (pos a -ℤ pos m) *ℤ pos c ≡ pos (a * c) -ℤ pos (m * c)
minus_times a m c =
    let back : (pos a -ℤ pos m) +ℤ pos m ≡ pos a = omega (arith, ints) in
    let all : ((pos a -ℤ pos m) +ℤ pos m) *ℤ pos c ≡ pos (a * c) = ap (λ z. z *ℤ pos c) back in
    let apart = plus-times (pos a -ℤ pos m) (pos m) (pos c) in
    omega (arith, ints, all, apart)

pub with_bound : (a m c : ℕ) (w : ℤ) → (pos a -ℤ pos m *ℤ pos 1) *ℤ pos c +ℤ w ≡ (pos (a * c) -ℤ pos (m * c)) +ℤ w
with_bound a m c w =
    let z : m * 1 ≡ m = omega arith in
    ap (λ n. (pos a -ℤ pos n) *ℤ pos c +ℤ w) z ∙ ap (λ y. y +ℤ w) (minus_times a m c)

pub loop_is : (l : Loop) (q : List ℕ) (i : ℕ) (es : List Edge) → weighted (loop_factor l) q i es ≡ pos (hits (λ j. j == l.turn) q i es) -ℤ pos (most_turns l * hits (λ j. is_in_list j l.into) q i es)
loop_is l q i [] = omega (arith, ints)
loop_is l q i (e ∷ es) = by_ends (i == l.turn) (is_in_list i l.into) (most_turns l) (edge_count q i) (hits (λ j. j == l.turn) q (i + 1) es) (hits (λ j. is_in_list j l.into) q (i + 1) es) (weighted (loop_factor l) q (i + 1) es) (loop_is l q (i + 1) es)
  where
    by_ends : (a b : Bool) (m c turns into : ℕ) (w : ℤ) → w ≡ pos turns -ℤ pos (m * into) → (one_if a -ℤ pos m *ℤ one_if b) *ℤ pos c +ℤ w ≡ pos (if a then c + turns else turns) -ℤ pos (m * (if b then c + into else into))
    by_ends true true m c turns into w h = with_bound 1 m c w ∙ omega (arith, ints, h)
    by_ends true false m c turns into w h =
        let z : m * 0 ≡ 0 = omega arith in
        ap (λ n. (pos 1 -ℤ pos n) *ℤ pos c +ℤ w) z ∙ omega (arith, ints, h)
    by_ends false true m c turns into w h = with_bound 0 m c w ∙ omega (arith, ints, h)
    by_ends false false m c turns into w h =
        let z : m * 0 ≡ 0 = omega arith in
        ap (λ n. (pos 0 -ℤ pos n) *ℤ pos c +ℤ w) z ∙ omega (arith, ints, h)

none_past : (t : ℕ) (q : List ℕ) (i : ℕ) (es : List Edge) → t < i → hits (λ j. j == t) q i es ≡ 0
none_past t q i [] lt = refl
none_past t q i (e ∷ es) lt =
    ap (λ b. if b then edge_count q i + hits (λ j. j == t) q (i + 1) es else hits (λ j. j == t) q (i + 1) es) (ne_eqb i t (λ z. omega (arith, lt, z))) ∙ none_past t q (i + 1) es (omega (arith, lt))

-- at most one edge has the number
pub hits_once : (t : ℕ) (q : List ℕ) (i : ℕ) (es : List Edge) → hits (λ j. j == t) q i es ≤ edge_count q t
hits_once t q i [] = omega arith
hits_once t q i (e ∷ es) = by_number (i == t) refl (hits_once t q (i + 1) es)
  where
    by_number : (b : Bool) → (i == t) ≡ b → hits (λ j. j == t) q (i + 1) es ≤ edge_count q t → (if b then edge_count q i + hits (λ j. j == t) q (i + 1) es else hits (λ j. j == t) q (i + 1) es) ≤ edge_count q t
    by_number true h rest =
        let same : i ≡ t = eqb-true i t h in
        omega (arith, ap (edge_count q) same, none_past t q (i + 1) es (omega (arith, same)))
    by_number false h rest = rest

pub hits_of : (r : ℕ → Bool) (p : Edge → Bool) (q : List ℕ) (i : ℕ) (es : List Edge) → ((k : ℕ) (e : Edge) → slice_get es k ≡ Some e → r (i + k) ≡ p e) → hits r q i es ≡ total_of q p i es
hits_of r p q i [] h = refl
hits_of r p q i (e ∷ es) h =
    let z : i + 0 ≡ i = omega arith in
    let here : r i ≡ p e = ap r (sym z) ∙ h 0 e refl in
    let rest = hits_of r p q (i + 1) es (λ k d is. ap r (later k) ∙ h (suc k) d is) in
    ap (λ b. if b then edge_count q i + hits r q (i + 1) es else hits r q (i + 1) es) here ∙ ap (λ n. if p e then edge_count q i + n else n) rest
  where
    later : (k : ℕ) → i + 1 + k ≡ i + suc k
    later k = omega arith
