-- Rows that are made one term, or one row, after the other.
use Rattle.std.proofs.Common.{◌≡◌, ◌≤◌, ◌<◌, ℕ, zero, suc, ◌+◌, ◌-◌, ℤ, List, [], ◌∷◌, ◌++◌, length, drop, All, Some, refl, sym, ap, ◌∙◌, arith, append_assoc}
use Rattle.std.specs.Prelude.{slice_get}
use Rattle.flow_laws.specs.declared.graph.Edge.{Edge}
use Rattle.flow_laws.specs.declared.graph.Node.{Node}
use Rattle.c_tree.specs.declared.program.Costs.{Costs}
use Rattle.flow_laws.specs.Sites.{Site}
use Rattle.flow_laws.specs.Graphs.{nodes}
use Rattle.flow_laws.specs.Paths.{cap_of, cost_of_edge}
use Rattle.ipet_rows.specs.CapsBound.{cap_of_edge, cap_at, costs_of_edges, caps_of_edges}
use Rattle.std.proofs.lemmas.List.Elements.{All-nil, All-cons}
use Rattle.lin_rows.specs.declared.row.Row.{Row}
use Rattle.ipet_rows.specs.FlowRows.{term, terms, node_row, node_rows}

drop_next : (es : List Edge) (j : ℕ) (e : Edge) → slice_get es j ≡ Some e → drop j es ≡ e ∷ drop (suc j) es
drop_next [] j e h = absurd (cc)
drop_next (d ∷ es) zero e h = let same : d ≡ e = cc in ap (λ y. y ∷ es) same
drop_next (d ∷ es) (suc j) e h = drop_next es j e h

drop_some : (es : List Edge) (j : ℕ) → j < length es → (e : Edge) × (drop j es ≡ e ∷ drop (suc j) es)
drop_some [] j h = absurd (omega (arith, h))
drop_some (e ∷ es) zero h = (e, refl)
drop_some (e ∷ es) (suc j) h = drop_some es j (omega (arith, h))

more_terms : (f : ℕ → Edge → ℤ) (es : List Edge) (j : ℕ) (e : Edge) (z : ℤ) (old new all : List (ℕ × ℤ)) → drop j es ≡ e ∷ drop (suc j) es → z ≡ f j e → new ≡ old ++ term j z → old ++ terms f j (drop j es) ≡ all → new ++ terms f (j + 1) (drop (j + 1) es) ≡ all
more_terms f es j e z old new all here is more so_far =
    let later : j + 1 ≡ suc j = omega arith in
    (λ k. more k ++ terms f (j + 1) (drop (later k) es)) ∙ append_assoc old (term j z) (terms f (j + 1) (drop (suc j) es)) ∙ ap (λ y. old ++ (term j y ++ terms f (j + 1) (drop (suc j) es))) is ∙ ap (λ y. old ++ terms f j y) (sym here) ∙ so_far

-- with a term of an edge that is read
pub next_term : (f : ℕ → Edge → ℤ) (es : List Edge) (j : ℕ) (e : Edge) (z : ℤ) (old new all : List (ℕ × ℤ)) → slice_get es j ≡ Some e → z ≡ f j e → new ≡ old ++ term j z → old ++ terms f j (drop j es) ≡ all → new ++ terms f (j + 1) (drop (j + 1) es) ≡ all
next_term f es j e z old new all at is more so_far = more_terms f es j e z old new all (drop_next es j e at) is more so_far

-- with a term by the number alone
pub next_number : (f : ℕ → Edge → ℤ) (es : List Edge) (j : ℕ) (z : ℤ) (old new all : List (ℕ × ℤ)) → j < length es → ((e : Edge) → z ≡ f j e) → new ≡ old ++ term j z → old ++ terms f j (drop j es) ≡ all → new ++ terms f (j + 1) (drop (j + 1) es) ≡ all
next_number f es j z old new all lt is more so_far =
    let e = drop_some es j lt in
    more_terms f es j e.0 z old new all e.1 (is e.0) more so_far

pub next_node : (es : List Edge) (n m : ℕ) (old new all : List Row) → n < m → new ≡ old ++ node_row es n ∷ [] → old ++ node_rows es n (m - n) ≡ all → new ++ node_rows es (n + 1) (m - (n + 1)) ≡ all
next_node es n m old new all lt more so_far =
    let left : suc (m - (n + 1)) ≡ m - n = omega (arith, lt) in
    ap (λ y. y ++ node_rows es (n + 1) (m - (n + 1))) more ∙ append_assoc old (node_row es n ∷ []) (node_rows es (n + 1) (m - (n + 1))) ∙ ap (λ k. old ++ node_rows es n k) left ∙ so_far

cost_next : (t : Costs) (g : List Site) (es : List Edge) (j : ℕ) → j < length es → costs_of_edges t g (drop j es) ≡ cost_of_edge t g (slice_get es j) ∷ costs_of_edges t g (drop (suc j) es)
cost_next t g [] j h = absurd (omega (arith, h))
cost_next t g (e ∷ es) zero h = refl
cost_next t g (e ∷ es) (suc j) h = cost_next t g es j (omega (arith, h))

pub next_cost : (t : Costs) (g : List Site) (es : List Edge) (j : ℕ) (old new all : List ℕ) → j < length es → new ≡ old ++ cost_of_edge t g (slice_get es j) ∷ [] → old ++ costs_of_edges t g (drop j es) ≡ all → new ++ costs_of_edges t g (drop (j + 1) es) ≡ all
next_cost t g es j old new all lt more so_far =
    let later : j + 1 ≡ suc j = omega arith in
    (λ k. more k ++ costs_of_edges t g (drop (later k) es)) ∙ append_assoc old (cost_of_edge t g (slice_get es j) ∷ []) (costs_of_edges t g (drop (suc j) es)) ∙ ap (λ y. old ++ y) (sym (cost_next t g es j lt)) ∙ so_far

limit_next : (g : List Site) (es : List Edge) (j : ℕ) → j < length es → caps_of_edges g (drop j es) ≡ (0, cap_at g (slice_get es j)) ∷ caps_of_edges g (drop (suc j) es)
limit_next g [] j h = absurd (omega (arith, h))
limit_next g (e ∷ es) zero h = refl
limit_next g (e ∷ es) (suc j) h = limit_next g es j (omega (arith, h))

pub next_limit : (g : List Site) (es : List Edge) (j : ℕ) (old new all : List (ℕ × ℕ)) → j < length es → new ≡ old ++ (0, cap_at g (slice_get es j)) ∷ [] → old ++ caps_of_edges g (drop j es) ≡ all → new ++ caps_of_edges g (drop (j + 1) es) ≡ all
next_limit g es j old new all lt more so_far =
    let later : j + 1 ≡ suc j = omega arith in
    (λ k. more k ++ caps_of_edges g (drop (later k) es)) ∙ append_assoc old ((0, cap_at g (slice_get es j)) ∷ []) (caps_of_edges g (drop (suc j) es)) ∙ ap (λ y. old ++ y) (sym (limit_next g es j lt)) ∙ so_far

pub limits_ordered : (g : List Site) (es : List Edge) → All (λ limit. limit.0 ≤ limit.1) (caps_of_edges g es)
limits_ordered g [] = All-nil (λ (limit : ℕ × ℕ). limit.0 ≤ limit.1)
limits_ordered g (e ∷ es) = All-cons (λ (limit : ℕ × ℕ). limit.0 ≤ limit.1) (0, cap_of_edge g e) (caps_of_edges g es) (omega arith) (limits_ordered g es)

pub cap_is : (g : List Site) (n : ℕ) (x : Node) → slice_get (nodes g) n ≡ Some x → cap_of (slice_get g n) ≡ x.cap
cap_is [] n x h = absurd (cc)
cap_is (s ∷ g) zero x h = let same : s.node ≡ x = cc in ap (λ (y : Node). y.cap) same
cap_is (s ∷ g) (suc n) x h = cap_is g n x h
