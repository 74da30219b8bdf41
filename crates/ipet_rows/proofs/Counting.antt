-- Counts of paths lie within caps and cost what the path does; the optimum is one number.
use Rattle.std.proofs.Common.{◌≡◌, ◌≤◌, ℕ, suc, ◌+◌, ◌*◌, List, [], ◌∷◌, length, Some, refl, sym, ap, ◌∙◌, subst, arith}
use Rattle.std.specs.Prelude.{slice_get}
use Rattle.std.specs.List.{AllZip}
use Rattle.c_tree.specs.declared.program.Program.{Program}
use Rattle.c_tree.specs.declared.program.Costs.{Costs}
use Rattle.c_tree.specs.Keeping.WellFormed.{WellFormed}
use Rattle.flow_laws.specs.declared.graph.Edge.{Edge}
use Rattle.flow_laws.specs.Sites.{Site}
use Rattle.flow_laws.specs.Graphs.{graph, edges, loops}
use Rattle.flow_laws.specs.Paths.{IsPath, KeepsEach, edge_count, cost_of_edge, worth_of}
use Rattle.flow_laws.specs.Claims.{IsDriven}
use Rattle.flow_laws.proofs.Caps.KeptListsWithinCaps.{kept_capped}
use Rattle.flow_laws.proofs.Counts.CountSums.{price_by_counts}
use Rattle.lin_rows.specs.declared.count_box.CountBox.{CountBox}
use Rattle.lin_rows.specs.Vectors.{cost_by}
use Rattle.ipet_rows.specs.CapsBound.{cap_of_edge, costs_of_edges, caps_of_edges}
use Rattle.ipet_rows.specs.Counts.{counts_from, edge_counts}
use Rattle.ipet_rows.specs.Counted.{IsCounted}
use Rattle.ipet_rows.specs.Optimum.{IpetOptimum}
use Rattle.ipet_rows.proofs.PathCounts.{kept_met}

pub counts_long : (q : List ℕ) (i : ℕ) (es : List Edge) → length (counts_from q i es) ≡ length es
counts_long q i [] = refl
counts_long q i (e ∷ es) = ap suc (counts_long q (i + 1) es)

pub cost_is : (t : Costs) (g : List Site) (q : List ℕ) (i : ℕ) (es : List Edge) → cost_by (costs_of_edges t g es) (counts_from q i es) ≡ worth_of t g q i es
cost_is t g q i [] = refl
cost_is t g q i (e ∷ es) = ap (λ n. cost_of_edge t g (Some e) * edge_count q i + n) (cost_is t g q (i + 1) es)

within_caps : (g : List Site) (q : List ℕ) (i : ℕ) (es : List Edge) → ((j : ℕ) (e : Edge) → slice_get es j ≡ Some e → edge_count q (i + j) ≤ cap_of_edge g e) → AllZip (λ limit n. (limit.0 ≤ n) × (n ≤ limit.1)) (caps_of_edges g es) (counts_from q i es)
within_caps g q i [] h = tt
within_caps g q i (e ∷ es) h =
    let z : i + 0 ≡ i = omega arith in
    let here : edge_count q i ≤ cap_of_edge g e = subst (λ k. edge_count q k ≤ cap_of_edge g e) z (h 0 e refl) in
    let low : 0 ≤ edge_count q i = omega arith in
    ((low, here), within_caps g q (i + 1) es (λ j d is. subst (λ k. edge_count q k ≤ cap_of_edge g d) (later j) (h (suc j) d is)))
  where
    later : (j : ℕ) → i + suc j ≡ i + 1 + j
    later j = omega arith

pub kept_counted : (p : Program) (t : Costs) (within : CountBox) (q : List ℕ) → WellFormed p → within.limits ≡ caps_of_edges (graph p) (edges (graph p)) → IsPath (edges (graph p)) q → KeepsEach (loops (graph p)) q → IsCounted p t within q
kept_counted p t within q w limits path kept =
    let g = graph p in
    record {
      boxed = subst (λ (ls : List (ℕ × ℕ)). AllZip (λ limit n. (limit.0 ≤ n) × (n ≤ limit.1)) ls (edge_counts p q)) (sym limits) (within_caps g q 0 (edges g) (λ j e is. subst (λ k. edge_count q k ≤ cap_of_edge g e) (same j) (kept_capped p q w path kept j e is)));
      met = record { long = counts_long q 0 (edges g); met = kept_met p q w path kept };
      priced = cost_is t g q 0 (edges g) ∙ sym (price_by_counts t g q);
    }
  where
    same : (j : ℕ) → j ≡ 0 + j
    same j = omega arith

pub driven_counted : (p : Program) (t : Costs) (within : CountBox) (q : List ℕ) → WellFormed p → within.limits ≡ caps_of_edges (graph p) (edges (graph p)) → IsDriven p q → IsCounted p t within q
driven_counted p t within q w limits (i, _, d) = kept_counted p t within q w limits d.path d.drives.keeps

pub one_number : (p : Program) (t : Costs) (m n : ℕ) → IpetOptimum p t m → IpetOptimum p t n → m ≡ n
one_number p t m n a b =
    let low = a.above b.counts b.meet in
    let high = b.above a.counts a.meet in
    omega (arith, low, high, a.cost, b.cost)

pub costs_long : (t : Costs) (g : List Site) (es : List Edge) → length (costs_of_edges t g es) ≡ length es
costs_long t g [] = refl
costs_long t g (e ∷ es) = ap suc (costs_long t g es)
