-- The rows name edges of the graph, and none names an edge twice.
use Rattle.std.proofs.Common.{◌≡◌, ◌≤◌, ◌<◌, ℕ, zero, suc, ◌+◌, ◌-◌, ℤ, pos, negsuc, List, [], ◌∷◌, ◌++◌, length, All, arith}
use Rattle.std.proofs.lemmas.List.Elements.{All-nil, All-cons, All-append}
use Rattle.c_tree.specs.declared.program.Program.{Program}
use Rattle.flow_laws.specs.declared.graph.Edge.{Edge}
use Rattle.flow_laws.specs.declared.graph.Loop.{Loop}
use Rattle.flow_laws.specs.Sites.{Site}
use Rattle.flow_laws.specs.Graphs.{graph, edges, loops}
use Rattle.lin_rows.specs.declared.row.Row.{Row}
use Rattle.lin_rows.specs.Names.{NamesBelow, NamesOnce}
use Rattle.ipet_rows.specs.FlowRows.{term, terms, node_factor, loop_factor, entry_row, node_row, node_rows, loop_row, loop_rows, flow_rows}
use Rattle.ipet_rows.proofs.PathCounts.{has_edge, each_row}

abbrev IsFrom : ℕ → ℕ → ℕ × ℤ → Type 0
IsFrom i m t = (i ≤ t.0) × (t.0 < m)

one_more : (P : ℕ × ℤ → Type 0) (i : ℕ) (z : ℤ) (ts : List (ℕ × ℤ)) → ((y : ℤ) → P (i, y)) → All P ts → All P (term i z ++ ts)
one_more P i (pos zero) ts h k = k
one_more P i (pos (suc n)) ts h k = All-cons P (i, pos (suc n)) ts (h (pos (suc n))) k
one_more P i (negsuc n) ts h k = All-cons P (i, negsuc n) ts (h (negsuc n)) k

terms_from : (f : ℕ → Edge → ℤ) (i m : ℕ) (es : List Edge) → i + length es ≤ m → All (IsFrom i m) (terms f i es)
terms_from f i m [] le = All-nil (IsFrom i m)
terms_from f i m (e ∷ es) le =
    let rest = terms_from f (i + 1) m es (omega (arith, le)) in
    one_more (IsFrom i m) i (f i e) (terms f (i + 1) es) (λ y. (omega arith, omega (arith, le))) (λ k d lt. let r = rest k d lt in (omega (arith, r.0), r.1))

pub terms_below : (f : ℕ → Edge → ℤ) (es : List Edge) → NamesBelow (length es) (terms f 0 es)
terms_below f es = λ k d lt. (terms_from f 0 (length es) es (omega arith) k d lt).1

pairs_cons : (x : ℕ × ℤ) (ts : List (ℕ × ℤ)) → All (λ t. x.0 ≡ t.0 → ⊥) ts → NamesOnce ts → NamesOnce (x ∷ ts)
pairs_cons x ts h k zero zero d lt within = absurd (omega (arith, lt))
pairs_cons x ts h k zero (suc j) d lt within = h j d (omega (arith, within))
pairs_cons x ts h k (suc i) zero d lt within = absurd (omega (arith, lt))
pairs_cons x ts h k (suc i) (suc j) d lt within = k i j d (omega (arith, lt)) (omega (arith, within))

once_more : (i : ℕ) (z : ℤ) (ts : List (ℕ × ℤ)) → All (λ t. i ≡ t.0 → ⊥) ts → NamesOnce ts → NamesOnce (term i z ++ ts)
once_more i (pos zero) ts h k = k
once_more i (pos (suc n)) ts h k = pairs_cons (i, pos (suc n)) ts h k
once_more i (negsuc n) ts h k = pairs_cons (i, negsuc n) ts h k

pub terms_once : (f : ℕ → Edge → ℤ) (i : ℕ) (es : List Edge) → NamesOnce (terms f i es)
terms_once f i [] = λ j k d lt within. absurd (omega (arith, within))
terms_once f i (e ∷ es) =
    let later = terms_from f (i + 1) (i + 1 + length es) es (omega arith) in
    once_more i (f i e) (terms f (i + 1) es) (λ k d lt same. omega (arith, (later k d lt).0, same)) (terms_once f (i + 1) es)

-- what holds of the row of edge 0, of each node's row and of each loop copy's
each_node : (P : Row → Type 0) (es : List Edge) (n k : ℕ) → ((n : ℕ) → P (node_row es n)) → All P (node_rows es n k)
each_node P es n zero h = All-nil P
each_node P es n (suc k) h = All-cons P (node_row es n) (node_rows es (n + 1) k) (h n) (each_node P es (n + 1) k h)

all_rows : (P : Row → Type 0) (g : List Site) → P entry_row → ((n : ℕ) → P (node_row (edges g) n)) → ((l : Loop) → P (loop_row (edges g) l)) → All P (flow_rows g)
all_rows P g first nodes turns =
    let ns = node_rows (edges g) 2 (length g - 2) in
    let ls = loop_rows (edges g) (loops g) in
    All-cons P entry_row (ns ++ ls) first (All-append P ns ls (each_node P (edges g) 2 (length g - 2) nodes) (each_row P (edges g) (loops g) (λ k l is. turns l)))

pub rows_below : (p : Program) → All (λ row. NamesBelow (length (edges (graph p))) row.terms) (flow_rows (graph p))
rows_below p =
    let es = edges (graph p) in
    all_rows (λ row. NamesBelow (length es) row.terms) (graph p) (All-cons (λ t. t.0 < length es) (0, pos 1) [] (has_edge p) (All-nil (λ t. t.0 < length es))) (λ n. terms_below (node_factor n) es) (λ l. terms_below (loop_factor l) es)

pub rows_once : (p : Program) → All (λ row. NamesOnce row.terms) (flow_rows (graph p))
rows_once p =
    let es = edges (graph p) in
    all_rows (λ row. NamesOnce row.terms) (graph p) (λ j k d lt within. absurd (omega (arith, lt, within))) (λ n. terms_once (node_factor n) 0 es) (λ l. terms_once (loop_factor l) 0 es)
