-- The edges that a list names are there where the list follows the edges.
use Rattle.std.proofs.Common.{◌≡◌, ℕ, zero, suc, ◌<◌, true, false, if◌then◌else◌, List, [], ◌∷◌, length, get_or, Option, Some, None, refl, arith}
use Rattle.std.specs.Prelude.{slice_get, is_some, nat_lt, ◌==◌}
use Rattle.std.specs.List.{list_all}
use Rattle.std.proofs.lemmas.Bool.{false≢true, and_from, lt-ltb}
use Rattle.std.proofs.lemmas.Option.{slice_get_within}
use Rattle.flow_laws.specs.declared.graph.Edge.{Edge}
use Rattle.flow_laws.specs.Paths.{end_node, end_node_on, follows}

-- the first edge of a list that leads on is there, and the rest leads on from its end
pub named : (es : List Edge) (o : Option Edge) (m j : ℕ) (go : ℕ → Option ℕ) → slice_get es j ≡ o → is_some (end_node_on m o go) ≡ true → (j < length es) × ((e : Edge) × (is_some (go e.to) ≡ true))
named es None m j go is h = absurd (false≢true h)
named es (Some e) m j go is h = (
  slice_get_within es j e is,
  (e, elim (e.from == m) as (λ b. is_some (if b then go e.to else None) ≡ true → is_some (go e.to) ≡ true) [ true ↦ λ k. k | false ↦ λ k. absurd (false≢true k) ] h),
)

pub edge_from : (es : List Edge) (m : ℕ) (q : List ℕ) → is_some (end_node es m q) ≡ true → (k : ℕ) → k < length q → get_or q k 0 < length es
edge_from es m [] h k lt = absurd (omega (arith, lt))
edge_from es m (j ∷ q) h zero lt = (named es (slice_get es j) m j (λ n. end_node es n q) refl h).0
edge_from es m (j ∷ q) h (suc k) lt =
    let next = (named es (slice_get es j) m j (λ n. end_node es n q) refl h).1 in
    edge_from es next.0.to q next.1 k (omega (arith, lt))

-- each place of a list that follows the edges names one
pub edge_at : (es : List Edge) (list : List ℕ) (k : ℕ) → follows es list ≡ true → k < length list → get_or list k 0 < length es
edge_at es list k on lt = edge_from es 0 list on k lt

pub each_there : (es : List Edge) (n : ℕ) (q : List ℕ) → is_some (end_node es n q) ≡ true → list_all (λ j. nat_lt j (length es)) q ≡ true
each_there es n [] h = refl
each_there es n (j ∷ q) h =
    let r = named es (slice_get es j) n j (λ m. end_node es m q) refl h in
    and_from (nat_lt j (length es)) (list_all (λ i. nat_lt i (length es)) q) (lt-ltb j (length es) r.0) (each_there es r.1.0.to q r.1.1)
