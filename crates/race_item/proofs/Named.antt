-- A list that is contiguous from Entry names edges of the graph alone, so it keeps all bounds where it keeps each loop's.
use Rattle.std.proofs.Common.{◌≡◌, ◌<◌, ℕ, zero, suc, Bool, true, false, if◌then◌else◌, List, [], ◌∷◌, length, get_or, All, Option, Some, None, refl, ap, arith}
use Rattle.std.specs.Prelude.{slice_get, is_some, nat_lt, ◌==◌, ◌&&◌}
use Rattle.std.specs.List.{list_all}
use Rattle.std.proofs.lemmas.Bool.{false≢true, lt-ltb, and_from}
use Rattle.std.proofs.lemmas.Option.{slice_get_within}
use Rattle.c_tree.specs.declared.program.Program.{Program}
use Rattle.flow_laws.specs.declared.graph.Edge.{Edge}
use Rattle.flow_laws.specs.Graphs.{graph, edges, loops}
use Rattle.flow_laws.specs.Paths.{end_node, end_node_on, follows, keeps_each}
use Rattle.flow_graph.specs.Plans.{keeps_all}
use Rattle.flow_laws.proofs.NamedEdges.{each_there}

-- the first edge is there, and the rest leads on
first_named : (es : List Edge) (j n : ℕ) (go : ℕ → Option ℕ) (o : Option Edge) → slice_get es j ≡ o → is_some (end_node_on n o go) ≡ true → (j < length es) × (m : ℕ) × (is_some (go m) ≡ true)
first_named es j n go None is h = absurd (false≢true h)
first_named es j n go (Some e) is h =
    (slice_get_within es j e is, e.to, elim (e.from == n) as (λ b. is_some (if b then go e.to else None) ≡ true → is_some (go e.to) ≡ true) [ true ↦ λ k. k | false ↦ λ k. absurd (false≢true k) ] h)

named_from : (es : List Edge) (n : ℕ) (q : List ℕ) → is_some (end_node es n q) ≡ true → (k d : ℕ) → k < length q → get_or q k d < length es
named_from es n [] h k d lt = absurd (omega (arith, lt))
named_from es n (j ∷ q) h zero d lt = (first_named es j n (λ m. end_node es m q) (slice_get es j) refl h).0
named_from es n (j ∷ q) h (suc k) d lt =
    let first = first_named es j n (λ m. end_node es m q) (slice_get es j) refl h in
    named_from es first.1 q first.2 k d (omega (arith, lt))

pub all_named : (es : List Edge) (q : List ℕ) → follows es q ≡ true → All (λ e. e < length es) q
all_named es q h = named_from es 0 q h

pub keeps_same : (p : Program) (q : List ℕ) → follows (edges (graph p)) q ≡ true → keeps_all (graph p) q ≡ keeps_each (loops (graph p)) q
keeps_same p q h = ap (λ b. b && keeps_each (loops (graph p)) q) (each_there (edges (graph p)) 0 q h)
