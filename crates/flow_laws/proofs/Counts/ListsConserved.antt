-- Lists that are contiguous arrive at each node as often as they leave it, but for their ends.
use Rattle.std.proofs.Common.{◌≡◌, ◌≤◌, ℕ, zero, suc, ◌+◌, Bool, true, false, if◌then◌else◌, List, [], ◌∷◌, Option, Some, None, refl, sym, ap, ◌∙◌, arith}
use Rattle.std.specs.Prelude.{slice_get, ◌==◌}
use Rattle.std.proofs.lemmas.Bool.{eqb-true, eq-eqb, ne_eqb}
use Rattle.c_tree.specs.declared.program.Program.{Program}
use Rattle.c_tree.specs.Keeping.WellFormed.{WellFormed}
use Rattle.flow_laws.specs.declared.graph.Edge.{Edge}
use Rattle.flow_laws.specs.Sites.{Copy}
use Rattle.flow_laws.specs.Graphs.{copies, sites_of, graph, edges, edges_from}
use Rattle.flow_laws.specs.Paths.{end_node, end_node_on, IsPath, times, edge_count, leaving_count, arriving_count}
use Rattle.flow_laws.proofs.Runs.EdgeNumbers.{Names, times_names}
use Rattle.flow_laws.proofs.Counts.CountSums.{total_names}
use Rattle.flow_laws.proofs.Graphs.EndsLead.{edges_join}
use Rattle.flow_laws.proofs.Counts.ListsJoined.{AllOf, all_at, edges_all}

-- ---- the edges of a list

-- each edge leaves the node to which the one before leads
abbrev pub Chained : ℕ → List Edge → ℕ → Type 0
Chained n [] m = n ≡ m
Chained n (e ∷ q) m = (e.from ≡ n) × Chained e.to q m

pub record EdgesOf (es : List Edge) (js : List ℕ) (n m : ℕ) : Type 0 where
  pub list : List Edge
  pub names : Names es js list
  pub chained : Chained n list m

there : (o : Option Edge) (n m : ℕ) (go : ℕ → Option ℕ) → end_node_on n o go ≡ Some m → (e : Edge) × (o ≡ Some e) × (e.from ≡ n) × (go e.to ≡ Some m)
there None n m go h = absurd (cc)
there (Some e) n m go h = by_source (e.from == n) refl h
  where
    by_source : (b : Bool) → (e.from == n) ≡ b → (if b then go e.to else None) ≡ Some m → (d : Edge) × (Some e ≡ Some d) × (d.from ≡ n) × (go d.to ≡ Some m)
    by_source true same k = (e, refl, eqb-true e.from n same, k)
    by_source false same k = absurd (cc)

pub edges_of : (es : List Edge) (js : List ℕ) (n m : ℕ) → end_node es n js ≡ Some m → EdgesOf es js n m
edges_of es [] n m h = record { list = []; names = tt; chained = cc }
edges_of es (j ∷ js) n m h =
    let first = there (slice_get es j) n m (λ k. end_node es k js) h in
    let e : Edge = first.0 in
    let rest = edges_of es js e.to m first.3 in
    record { list = e ∷ rest.list; names = (first.1, rest.names); chained = (first.2, rest.chained) }

-- ---- what arrives and what leaves

one_if : (a x : ℕ) (b : Bool) → (a == x) ≡ b → edge_count (a ∷ []) x ≡ (if b then 1 else 0)
one_if a x b is = ap (λ c. if c then suc 0 else 0) is ∙ by_side b
  where
    by_side : (c : Bool) → (if c then suc 0 else 0) ≡ (if c then 1 else 0)
    by_side true = refl
    by_side false = refl

chain_ends : (q : List Edge) (n m x : ℕ) → Chained n q m → edge_count (n ∷ []) x + times (λ e. e.to == x) q ≡ times (λ e. e.from == x) q + edge_count (m ∷ []) x
chain_ends [] n m x h = let same = ap (λ y. edge_count (y ∷ []) x) h in omega (arith, same)
chain_ends (e ∷ q) n m x h =
    by_ends (e.to == x) (e.from == x) refl refl (ap (λ y. edge_count (y ∷ []) x) h.0) (chain_ends q e.to m x h.1)
  where
    by_ends : (b c : Bool) → (e.to == x) ≡ b → (e.from == x) ≡ c → edge_count (e.from ∷ []) x ≡ edge_count (n ∷ []) x → edge_count (e.to ∷ []) x + times (λ e. e.to == x) q ≡ times (λ e. e.from == x) q + edge_count (m ∷ []) x → edge_count (n ∷ []) x + (if b then suc (times (λ e. e.to == x) q) else times (λ e. e.to == x) q) ≡ (if c then suc (times (λ e. e.from == x) q) else times (λ e. e.from == x) q) + edge_count (m ∷ []) x
    by_ends true true eb ec from rest = omega (arith, rest, one_if e.to x true eb, one_if e.from x true ec, from)
    by_ends true false eb ec from rest = omega (arith, rest, one_if e.to x true eb, one_if e.from x false ec, from)
    by_ends false true eb ec from rest = omega (arith, rest, one_if e.to x false eb, one_if e.from x true ec, from)
    by_ends false false eb ec from rest = omega (arith, rest, one_if e.to x false eb, one_if e.from x false ec, from)

pub list_ends : (es : List Edge) (n m : ℕ) (q : List ℕ) → end_node es n q ≡ Some m → (x : ℕ) → edge_count (n ∷ []) x + arriving_count es q x ≡ leaving_count es q x + edge_count (m ∷ []) x
list_ends es n m q h x =
    let r = edges_of es q n m h in
    let ends = chain_ends r.list n m x r.chained in
    let out = total_names (λ e. e.from == x) es q r.list r.names in
    let into = total_names (λ e. e.to == x) es q r.list r.names in
    omega (arith, ends, out, into)

pub list_closed : (es : List Edge) (n : ℕ) (q : List ℕ) → end_node es n q ≡ Some n → (x : ℕ) → leaving_count es q x ≡ arriving_count es q x
list_closed es n q h x = let ends = list_ends es n n q h x in omega (arith, ends)

-- ---- paths

pub path_nodes : (p : Program) (q : List ℕ) → IsPath (edges (graph p)) q → (n : ℕ) → 2 ≤ n → leaving_count (edges (graph p)) q n ≡ arriving_count (edges (graph p)) q n
path_nodes p q h n le =
    let ends = list_ends (edges (graph p)) 0 1 q h n in
    let first = one_if 0 n false (ne_eqb 0 n (λ e. omega (arith, le, e))) in
    let last = one_if 1 n false (ne_eqb 1 n (λ e. omega (arith, le, e))) in
    omega (arith, ends, first, last)

-- the first edge leaves Entry, and no other does
pub record EntryFirst (es : List Edge) : Type 0 where
  pub first : Edge
  pub rest : List Edge
  pub is : es ≡ first ∷ rest
  pub from : first.from ≡ 0
  pub others : AllOf (λ e. 1 ≤ e.from) rest

sites_first : (o : Option Copy) → EntryFirst (edges_from 0 (sites_of o))
sites_first None = record { first = _; rest = []; is = refl; from = refl; others = tt }
sites_first (Some c) =
    record { first = _; rest = _; is = refl; from = refl; others = edges_all (λ e. 1 ≤ e.from) (0 + 1 + 1) (c.sites [] 1 2 1) (λ m le w t. omega (arith, le)) }

pub entry_first : (p : Program) → EntryFirst (edges (graph p))
unfolding graph edges
entry_first p = sites_first (slice_get (copies [] p.funcs) p.entry)

-- an edge leaves Entry exactly where its number is 0
from_entry : (es : List Edge) (f : EntryFirst es) (j : ℕ) (e : Edge) → slice_get es j ≡ Some e → (j == 0) ≡ (e.from == 0)
from_entry es f j e is = at_number j (ap (λ y. slice_get y j) (sym f.is) ∙ is)
  where
    at_number : (j : ℕ) → slice_get (f.first ∷ f.rest) j ≡ Some e → (j == 0) ≡ (e.from == 0)
    at_number zero h =
        let same : f.first ≡ e = cc in
        sym (eq-eqb e.from 0 (ap (λ y. y.from) (sym same) ∙ f.from))
    at_number (suc k) h =
        let low : 1 ≤ e.from = all_at (λ y. 1 ≤ y.from) f.rest k e f.others h in
        ne_eqb (suc k) 0 (λ z. omega (arith, z)) ∙ sym (ne_eqb e.from 0 (λ z. omega (arith, low, z)))

none_arrives : (p : Program) → WellFormed p → (js : List ℕ) (q : List Edge) → Names (edges (graph p)) js q → times (λ e. e.to == 0) q ≡ 0
none_arrives p h [] [] names = refl
none_arrives p h [] (e ∷ q) names = absurd names
none_arrives p h (j ∷ js) [] names = absurd names
none_arrives p h (j ∷ js) (e ∷ q) names =
    let low = (edges_join p h j e names.0).not_entry in
    let rest = none_arrives p h js q names.1 in
    ap (λ b. if b then suc (times (λ e. e.to == 0) q) else times (λ e. e.to == 0) q) (ne_eqb e.to 0 (λ z. omega (arith, low, z))) ∙ rest

pub path_entry : (p : Program) (q : List ℕ) → WellFormed p → IsPath (edges (graph p)) q → edge_count q 0 ≡ 1
path_entry p q formed h =
    let es = edges (graph p) in
    let r = edges_of es q 0 1 h in
    let ends = chain_ends r.list 0 1 0 r.chained in
    let none = none_arrives p formed q r.list r.names in
    let numbers = times_names es (λ j. j == 0) (λ e. e.from == 0) (λ j e is. from_entry es (entry_first p) j e is) q r.list r.names in
    let first = one_if 0 0 true (eq-eqb 0 0 refl) in
    let last = one_if 1 0 false (ne_eqb 1 0 (λ e. omega (arith, e))) in
    omega (arith, ends, none, numbers, first, last)
