-- The counts of each driven path meet every row.
use Rattle.std.proofs.Common.{◌≡◌, ◌≤◌, ◌<◌, ℕ, zero, suc, ◌+◌, ◌-◌, ◌*◌, pos, ◌≤ℤ◌, List, [], ◌∷◌, ◌++◌, map, length, All, Option, Some, None, refl, sym, ap, ◌∙◌, subst, arith}
use Rattle.std.specs.Prelude.{slice_get, slice_index, ◌==◌}
use Rattle.std.proofs.lemmas.Int.{ints}
use Rattle.std.proofs.lemmas.List.Elements.{All-nil, All-cons, All-append}
use Rattle.c_tree.specs.declared.program.Program.{Program}
use Rattle.c_tree.specs.Keeping.WellFormed.{WellFormed}
use Rattle.flow_laws.specs.declared.graph.Edge.{Edge}
use Rattle.flow_laws.specs.declared.graph.Loop.{Loop}
use Rattle.flow_laws.specs.Sites.{Copy, Site, LoopCopy}
use Rattle.flow_laws.specs.Graphs.{copies, sites_of, graph, edges, edges_from, enters, positions, loop_copies, loop_of, loops}
use Rattle.flow_laws.specs.Paths.{IsPath, KeepsEach, edge_count, total, leaving_count, arriving_count, is_in_list, most_turns}
use Rattle.flow_laws.proofs.Runs.WellFormedPrograms.{entered}
use Rattle.flow_laws.proofs.Counts.ListsConserved.{path_entry, path_nodes}
use Rattle.flow_laws.proofs.Loops.LoopsBounded.{kept_rows}
use Rattle.flow_laws.proofs.Counts.CountSums.{total_positions}
use Rattle.flow_laws.proofs.Graphs.EdgesDistinct.{among_number}
use Rattle.lin_rows.specs.declared.row.RowKind.TheVariants.{AtMost}
use Rattle.lin_rows.specs.declared.row.Row.{Row}
use Rattle.lin_rows.specs.Meeting.{MeetsRow}
use Rattle.ipet_rows.specs.FlowRows.{node_factor, loop_factor, entry_row, node_row, node_rows, loop_row, loop_rows, flow_rows}
use Rattle.ipet_rows.specs.Counts.{edge_counts, HoldsOnPaths, HoldOnPaths}
use Rattle.ipet_rows.proofs.Weighted.{count_at, left_is, node_is, hits, loop_is, hits_once, hits_of}

-- ---- edge 0

some_edge : (o : Option Copy) → 0 < length (edges_from 0 (sites_of o))
some_edge None = omega arith
some_edge (Some c) = omega arith

pub has_edge : (p : Program) → 0 < length (edges (graph p))
unfolding graph edges
has_edge p = some_edge (slice_get (copies [] p.funcs) p.entry)

entry_met : (p : Program) (q : List ℕ) → edge_count q 0 ≡ 1 → MeetsRow (edge_counts p q) entry_row
entry_met p q once =
    let at : slice_index (edge_counts p q) 0 ≡ 1 = count_at q 0 0 (edges (graph p)) (has_edge p) ∙ once in
    omega (arith, ints, at)

-- so it is taken once at most
pub entry_at_most : (p : Program) → WellFormed p → HoldsOnPaths p (record { terms = (0, pos 1) ∷ []; kind = AtMost; right = pos 1 })
entry_at_most p w q (i, _, d) =
    let at : slice_index (edge_counts p q) 0 ≡ 1 = count_at q 0 0 (edges (graph p)) (has_edge p) ∙ entered p i q w d in
    omega (arith, ints, at)

-- ---- nodes

node_met : (p : Program) (q : List ℕ) (n : ℕ) → leaving_count (edges (graph p)) q n ≡ arriving_count (edges (graph p)) q n → MeetsRow (edge_counts p q) (node_row (edges (graph p)) n)
node_met p q n same =
    let es = edges (graph p) in
    left_is (node_factor n) q es ∙ node_is n q 0 es ∙ omega (arith, ints, same)

-- as many edges leave each node from 2 on as lead to it
pub record Passes (es : List Edge) (q : List ℕ) : Type 0 where
  pub each : (n : ℕ) → 2 ≤ n → leaving_count es q n ≡ arriving_count es q n

nodes_met : (p : Program) (q : List ℕ) (n k : ℕ) → Passes (edges (graph p)) q → 2 ≤ n → All (MeetsRow (edge_counts p q)) (node_rows (edges (graph p)) n k)
nodes_met p q n zero h le = All-nil (MeetsRow (edge_counts p q))
nodes_met p q n (suc k) h le =
    All-cons (MeetsRow (edge_counts p q)) (node_row (edges (graph p)) n) (node_rows (edges (graph p)) (n + 1) k) (node_met p q n (h.each n le)) (nodes_met p q (n + 1) k h (omega (arith, le)))

-- ---- loops

into_is : (g : List Site) (c : LoopCopy) (q : List ℕ) → hits (λ j. is_in_list j (loop_of g c).into) q 0 (edges g) ≡ total q (loop_of g c).into
into_is g c q =
    hits_of (λ j. is_in_list j (loop_of g c).into) (enters c) q 0 (edges g) (λ k e is. subst (λ j. is_in_list j (positions 0 (enters c) (edges g)) ≡ enters c e) (same k) (among_number (enters c) (edges g) k e is)) ∙ sym (total_positions q (enters c) 0 (edges g))
  where
    same : (k : ℕ) → k ≡ 0 + k
    same k = omega arith

copy_at : (g : List Site) (cs : List LoopCopy) (k : ℕ) (l : Loop) → slice_get (map (loop_of g) cs) k ≡ Some l → (c : LoopCopy) × (l ≡ loop_of g c)
copy_at g [] k l h = absurd (cc)
copy_at g (c ∷ cs) zero l h = let same : l ≡ loop_of g c = cc in (c, same)
copy_at g (c ∷ cs) (suc k) l h = copy_at g cs k l h

-- each loop copy is turned at most as often as its entries allow
pub record Turns (g : List Site) (q : List ℕ) : Type 0 where
  pub each : (k : ℕ) (l : Loop) → slice_get (loops g) k ≡ Some l → edge_count q l.turn ≤ most_turns l * total q l.into

loop_met : (p : Program) (q : List ℕ) (k : ℕ) (l : Loop) → Turns (graph p) q → slice_get (loops (graph p)) k ≡ Some l → MeetsRow (edge_counts p q) (loop_row (edges (graph p)) l)
loop_met p q k l h is =
    let g = graph p in
    let es = edges g in
    let c = copy_at g (loop_copies g) k l is in
    let into : hits (λ j. is_in_list j l.into) q 0 es ≡ total q l.into = subst (λ y. hits (λ j. is_in_list j y.into) q 0 es ≡ total q y.into) (sym c.1) (into_is g c.0 q) in
    let most : hits (λ j. j == l.turn) q 0 es ≤ most_turns l * hits (λ j. is_in_list j l.into) q 0 es = omega (arith, hits_once l.turn q 0 es, h.each k l is, ap (λ n. most_turns l * n) into) in
    subst (λ z. z ≤ℤ pos 0) (sym (left_is (loop_factor l) q es ∙ loop_is l q 0 es)) (omega (arith, ints, most))

pub each_row : (P : Row → Type 0) (es : List Edge) (ls : List Loop) → ((k : ℕ) (l : Loop) → slice_get ls k ≡ Some l → P (loop_row es l)) → All P (loop_rows es ls)
each_row P es [] h = All-nil P
each_row P es (l ∷ ls) h = All-cons P (loop_row es l) (loop_rows es ls) (h 0 l refl) (each_row P es ls (λ k m is. h (suc k) m is))

-- ---- all

rows_met : (p : Program) (q : List ℕ) → edge_count q 0 ≡ 1 → Passes (edges (graph p)) q → Turns (graph p) q → All (MeetsRow (edge_counts p q)) (flow_rows (graph p))
rows_met p q once passes turns =
    let g = graph p in
    let P = MeetsRow (edge_counts p q) in
    let ns = node_rows (edges g) 2 (length g - 2) in
    let ls = loop_rows (edges g) (loops g) in
    All-cons P entry_row (ns ++ ls) (entry_met p q once) (All-append P ns ls (nodes_met p q 2 (length g - 2) passes (omega arith)) (each_row P (edges g) (loops g) (λ k l is. loop_met p q k l turns is)))

-- of a path that keeps the bounds of all loops
pub kept_met : (p : Program) (q : List ℕ) → WellFormed p → IsPath (edges (graph p)) q → KeepsEach (loops (graph p)) q → All (MeetsRow (edge_counts p q)) (flow_rows (graph p))
kept_met p q w path kept =
    rows_met p q (path_entry p q w path) (record { each = path_nodes p q path }) (record { each = kept_rows p q path kept })

pub rows_hold : (p : Program) → WellFormed p → HoldOnPaths p (flow_rows (graph p))
rows_hold p w = λ k d lt q (i, _, driven). kept_met p q w driven.path driven.drives.keeps k d lt
