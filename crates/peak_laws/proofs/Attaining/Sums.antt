-- The left sides of rows at counts that stand in a list beside the edges.
use Rattle.std.proofs.Common.{◌≡◌, ◌<◌, ℕ, zero, suc, ◌+◌, ◌*◌, ℤ, pos, negsuc, ◌+ℤ◌, ◌-ℤ◌, ◌*ℤ◌, Bool, true, false, if◌then◌else◌, List, [], ◌∷◌, ◌++◌, length, Some, refl, ap, ◌∙◌, subst, arith}
use Rattle.std.specs.Prelude.{slice_get, slice_index, ◌==◌}
use Rattle.std.proofs.lemmas.Int.{ints}
use Rattle.flow_laws.specs.declared.graph.Edge.{Edge}
use Rattle.flow_laws.specs.declared.graph.Loop.{Loop}
use Rattle.flow_laws.specs.Paths.{is_in_list, most_turns}
use Rattle.lin_rows.specs.Meeting.{left_side}
use Rattle.ipet_rows.specs.FlowRows.{one_if, term, terms, node_factor, loop_factor}
use Rattle.ipet_rows.proofs.Weighted.{one_term, minus_times, with_bound}
use Rattle.peak_laws.proofs.Attaining.Conserved.{weigh, leaving, arriving}

-- the sum of factor times count over the edges, of which the first has the number i
abbrev pub weighted : (ℕ → Edge → ℤ) → ℕ → List Edge → List ℕ → ℤ
weighted f i [] xs = pos 0
weighted f i (e ∷ es) [] = pos 0
weighted f i (e ∷ es) (x ∷ xs) = f i e *ℤ pos x +ℤ weighted f (i + 1) es xs

left_from : (f : ℕ → Edge → ℤ) (all : List ℕ) (i : ℕ) (es : List Edge) (xs : List ℕ) → length xs ≡ length es → ((k : ℕ) → k < length es → slice_index all (i + k) ≡ slice_index xs k) → left_side (terms f i es) all ≡ weighted f i es xs
left_from f all i [] xs long h = refl
left_from f all i (e ∷ es) [] long h = absurd (omega (arith, long))
left_from f all i (e ∷ es) (x ∷ xs) long h =
    let z : i + 0 ≡ i = omega arith in
    let here : slice_index all i ≡ x = subst (λ n. slice_index all n ≡ x) z (h 0 (omega arith)) in
    let rest = left_from f all (i + 1) es xs (omega (arith, long)) (λ k lt. subst (λ n. slice_index all n ≡ slice_index xs k) (later k) (h (suc k) (omega (arith, lt)))) in
    one_term (f i e) i x (terms f (i + 1) es) all here ∙ ap (λ r. f i e *ℤ pos x +ℤ r) rest
  where
    later : (k : ℕ) → i + suc k ≡ i + 1 + k
    later k = omega arith

pub left_is : (f : ℕ → Edge → ℤ) (es : List Edge) (xs : List ℕ) → length xs ≡ length es → left_side (terms f 0 es) xs ≡ weighted f 0 es xs
left_is f es xs long = left_from f xs 0 es xs long (λ k lt. ap (slice_index xs) (same k))
  where
    same : (k : ℕ) → 0 + k ≡ k
    same k = omega arith

-- ---- nodes

pub node_is : (n i : ℕ) (es : List Edge) (xs : List ℕ) → weighted (node_factor n) i es xs ≡ pos (leaving n es xs) -ℤ pos (arriving n es xs)
node_is n i [] xs = refl
node_is n i (e ∷ es) [] = refl
node_is n i (e ∷ es) (x ∷ xs) = by_ends (e.from == n) (e.to == n) x (leaving n es xs) (arriving n es xs) (weighted (node_factor n) (i + 1) es xs) (node_is n (i + 1) es xs)
  where
    by_ends : (a b : Bool) (c out into : ℕ) (w : ℤ) → w ≡ pos out -ℤ pos into → (one_if a -ℤ one_if b) *ℤ pos c +ℤ w ≡ pos ((if a then c else 0) + out) -ℤ pos ((if b then c else 0) + into)
    by_ends true true c out into w h = omega (arith, ints, h)
    by_ends true false c out into w h = omega (arith, ints, h)
    by_ends false true c out into w h = omega (arith, ints, h)
    by_ends false false c out into w h = omega (arith, ints, h)

-- ---- loops

without_bound : (a m c : ℕ) (w : ℤ) → (pos a -ℤ pos m *ℤ pos 0) *ℤ pos c +ℤ w ≡ pos (a * c) +ℤ w
without_bound a m c w =
    let z : m * 0 ≡ 0 = omega arith in
    ap (λ n. (pos a -ℤ pos n) *ℤ pos c +ℤ w) z ∙ ap (λ y. y +ℤ w) (minus_times a 0 c) ∙ omega (arith, ints)

-- the edges that are the turn of a loop, and those that are among its entries
pub record Chosen (l : Loop) (turns enters : Edge → Bool) (i : ℕ) (es : List Edge) : Type 0 where
  pub turn : (k : ℕ) (e : Edge) → slice_get es k ≡ Some e → (i + k == l.turn) ≡ turns e
  pub into : (k : ℕ) (e : Edge) → slice_get es k ≡ Some e → is_in_list (i + k) l.into ≡ enters e

later_number : (i k : ℕ) → i + suc k ≡ i + 1 + k
later_number i k = omega arith

pub chosen_first : (l : Loop) (turns enters : Edge → Bool) (i : ℕ) (e : Edge) (es : List Edge) → Chosen l turns enters i (e ∷ es) → ((i == l.turn) ≡ turns e) × (is_in_list i l.into ≡ enters e)
chosen_first l turns enters i e es h =
    let z : i + 0 ≡ i = omega arith in
    (subst (λ n. (n == l.turn) ≡ turns e) z (h.turn 0 e refl), subst (λ n. is_in_list n l.into ≡ enters e) z (h.into 0 e refl))

pub chosen_rest : (l : Loop) (turns enters : Edge → Bool) (i : ℕ) (e : Edge) (es : List Edge) → Chosen l turns enters i (e ∷ es) → Chosen l turns enters (i + 1) es
chosen_rest l turns enters i e es h =
    record {
      turn = λ k d is. subst (λ n. (n == l.turn) ≡ turns d) (later_number i k) (h.turn (suc k) d is);
      into = λ k d is. subst (λ n. is_in_list n l.into ≡ enters d) (later_number i k) (h.into (suc k) d is);
    }

pub loop_is : (l : Loop) (turns enters : Edge → Bool) (i : ℕ) (es : List Edge) (xs : List ℕ) → Chosen l turns enters i es → weighted (loop_factor l) i es xs ≡ pos (weigh turns es xs) -ℤ pos (most_turns l * weigh enters es xs)
loop_is l turns enters i [] xs h = omega (arith, ints)
loop_is l turns enters i (e ∷ es) [] h = omega (arith, ints)
loop_is l turns enters i (e ∷ es) (x ∷ xs) h =
    let first = chosen_first l turns enters i e es h in
    (λ j. (one_if (first.0 j) -ℤ pos (most_turns l) *ℤ one_if (first.1 j)) *ℤ pos x +ℤ weighted (loop_factor l) (i + 1) es xs) ∙ by_ends (turns e) (enters e) (most_turns l) x (weigh turns es xs) (weigh enters es xs) (weighted (loop_factor l) (i + 1) es xs) (loop_is l turns enters (i + 1) es xs (chosen_rest l turns enters i e es h))
  where
    by_ends : (a b : Bool) (m c t into : ℕ) (w : ℤ) → w ≡ pos t -ℤ pos (m * into) → (one_if a -ℤ pos m *ℤ one_if b) *ℤ pos c +ℤ w ≡ pos ((if a then c else 0) + t) -ℤ pos (m * ((if b then c else 0) + into))
    by_ends true true m c t into w h = with_bound 1 m c w ∙ omega (arith, ints, h)
    by_ends true false m c t into w h = without_bound 1 m c w ∙ omega (arith, ints, h)
    by_ends false true m c t into w h = with_bound 0 m c w ∙ omega (arith, ints, h)
    by_ends false false m c t into w h = without_bound 0 m c w ∙ omega (arith, ints, h)
