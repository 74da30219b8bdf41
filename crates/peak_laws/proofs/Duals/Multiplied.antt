-- The dual value of the multipliers is the cost from the part's entry on, over every box whose least counts are 0.
use Rattle.std.proofs.Common.{◌≡◌, ◌≤◌, ◌<◌, inl, ℕ, zero, suc, ◌+◌, ◌-◌, ◌/◌, ℤ, pos, ◌+ℤ◌, ◌-ℤ◌, ◌*ℤ◌, ◌≤ℤ◌, Bool, true, false, if◌then◌else◌, List, [], ◌∷◌, ◌++◌, length, map, Some, refl, sym, ap, ◌∙◌, subst, arith}
use Rattle.std.specs.Prelude.{slice_get, ◌==◌, int_le}
use Rattle.std.specs.Int.{int_div_euclid}
use Rattle.std.proofs.lemmas.Int.{ints}
use lib.IntN.{+ℤ_idl, zero-*ℤ, *ℤ-zero}
use Rattle.c_tree.specs.declared.program.Costs.{Costs}
use Rattle.flow_laws.specs.declared.graph.Edge.{Edge}
use Rattle.flow_laws.specs.declared.graph.Loop.{Loop}
use Rattle.flow_laws.specs.Sites.{Site}
use Rattle.flow_laws.specs.Graphs.{edges, loop_of, loops, all_to}
use Rattle.lin_rows.specs.Steps.{total}
use Rattle.lin_rows.specs.declared.count_box.CountBox.{CountBox}
use Rattle.lin_rows.specs.declared.multipliers.Multipliers.{Multipliers}
use Rattle.lin_rows.specs.declared.objective.Objective.{Objective}
use Rattle.lin_rows.specs.declared.row.Row.{Row}
use Rattle.lin_rows.specs.declared.row.Rows.{Rows}
use Rattle.bound_cert.specs.Dual.{weighted_rights, weighted_terms, weighted_factors, reduced_cost, best_limit, edge_bounds, scaled_bound, dual}
use Rattle.bound_cert.proofs.Columns.{total-append}
use Rattle.ipet_rows.specs.FlowRows.{entry_row, node_rows, loop_rows, flow_rows}
use Rattle.ipet_rows.specs.CapsBound.{costs_of_edges}
use Rattle.peak_laws.specs.Parts.{Part, part_size, node_costs, potentials, part_edges, costed_loops, entry_charge, turn_refund, Covers}
use Rattle.peak_laws.specs.Answers.{turn_costs, at_end, peak_value, peak_multipliers, FromZero}
use Rattle.peak_laws.proofs.GraphParts.Places.{Every, Outside, potentials_length}
use Rattle.peak_laws.proofs.Duals.Covered.{comes, covered}
use Rattle.peak_laws.proofs.Duals.Reduced.{looked_up, below_none, looked_up_agrees, node_factors, loop_factors, factors_append}
use Rattle.peak_laws.proofs.GraphParts.Shapes.{entry_edge, Shaped, known, edge_costs_are}

abbrev pub potential_at : Part → ℕ → ℕ
potential_at q = looked_up 2 (potentials q at_end)

abbrev pub cost_at : Part → ℕ → ℕ
cost_at q = looked_up 2 (node_costs q)

-- ---- each edge is covered, where edge 0 is covered by the value

abbrev pub CoversAt : Part → ℕ → Edge → Type 0
CoversAt q j e =
    cost_at q e.from + potential_at q e.to + entry_charge (costed_loops q 2) e ≤ potential_at q e.from + turn_refund (costed_loops q 2) e + (if 0 == j then peak_value q else 0)

exits_outside : (q : Part) → Outside 2 (2 + part_size q) (all_to 1)
exits_outside q = record { next = inl (omega arith); breaks = inl (omega arith); continues = inl (omega arith); returns = inl (omega arith) }

end_is : (q : Part) → potential_at q 1 ≡ 0
end_is q = below_none 2 (potentials q at_end) 1 (omega arith)

entry_covered : (q : Part) → CoversAt q 0 (entry_edge q)
entry_covered q =
    let ps = potentials q at_end in
    omega (arith, below_none 2 (node_costs q) 0 (omega arith), comes q 2 1 at_end (potential_at q) (entry_edge q) refl (end_is q) (looked_up_agrees 2 ps))

later_covered : (q : Part) (es : List Edge) (k i : ℕ) (e : Edge) → 0 < i → slice_get es k ≡ Some e → Every (Covers (cost_at q) (potential_at q) (costed_loops q 2)) es → CoversAt q i e
later_covered q [] k i e lt is h = absurd (cc)
later_covered q (d ∷ es) zero i e lt is h =
    let same : d ≡ e = cc in
    let c = subst (Covers (cost_at q) (potential_at q) (costed_loops q 2)) same h.0 in
    omega (arith, c)
later_covered q (d ∷ es) (suc k) i e lt is h = later_covered q es k i e lt is h.1

pub all_covered : (q : Part) (j : ℕ) (e : Edge) → slice_get (entry_edge q ∷ part_edges q 2 (all_to 1)) j ≡ Some e → CoversAt q j e
all_covered q zero e is = let same : entry_edge q ≡ e = cc in subst (CoversAt q 0) same (entry_covered q)
all_covered q (suc j) e is =
    later_covered q (part_edges q 2 (all_to 1)) j (suc j) e (omega arith) is (covered q 2 (all_to 1) at_end (cost_at q) (potential_at q) (exits_outside q) (looked_up_agrees 2 (node_costs q)) (record { potentials = looked_up_agrees 2 (potentials q at_end); next = end_is q; breaks = end_is q; continues = end_is q; returns = end_is q }))

-- ---- reduced costs

pub node_rows_length : (es : List Edge) (n k : ℕ) → length (node_rows es n k) ≡ k
node_rows_length es n zero = refl
node_rows_length es n (suc k) = ap suc (node_rows_length es (n + 1) k)

pub map_length : (xs : List ℕ) → length (map pos xs) ≡ length xs
map_length [] = refl
map_length (x ∷ xs) = ap suc (map_length xs)

entry_factor : (v j : ℕ) → total (weighted_terms (pos v) ((0, pos 1) ∷ []) j) ≡ pos (if 0 == j then v else 0)
entry_factor v j = by_test (0 == j)
  where
    by_test : (b : Bool) → total (map (λ (t : ℕ × ℤ). pos v *ℤ t.1) (if b then (0, pos 1) ∷ [] else [])) ≡ pos (if b then v else 0)
    by_test true = omega (arith, ints)
    by_test false = refl

pub factors_are : (t : Costs) (g : List Site) (q : Part) (j : ℕ) (e : Edge) → Shaped t g q → slice_get (edges g) j ≡ Some e → total (weighted_factors (flow_rows g) (peak_multipliers q) j) ≡ pos (if 0 == j then peak_value q else 0) +ℤ ((pos (potential_at q e.from) -ℤ pos (potential_at q e.to)) +ℤ (pos (turn_refund (costed_loops q 2) e) -ℤ pos (entry_charge (costed_loops q 2) e)))
factors_are t g q j e h is =
    let es = edges g in
    let ps = potentials q at_end in
    let many : length g - 2 ≡ length ps = omega (arith, h.nodes, potentials_length q at_end) in
    let ns = node_rows es 2 (length g - 2) in
    let ls = loop_rows es (loops g) in
    let ys = map pos ps in
    let zs = map pos (turn_costs (costed_loops q 2)) in
    let long : length ns ≡ length ys = omega (arith, node_rows_length es 2 (length g - 2), many, map_length ps) in
    let nodes : total (weighted_factors ns ys j) ≡ pos (potential_at q e.from) -ℤ pos (potential_at q e.to) = ap (λ k. total (weighted_factors (node_rows es 2 k) ys j)) many ∙ node_factors es 2 ps j e is in
    let turns : total (weighted_factors ls zs j) ≡ pos (turn_refund (costed_loops q 2) e) -ℤ pos (entry_charge (costed_loops q 2) e) = ap (λ cs. total (weighted_factors (loop_rows es (map (loop_of g) cs)) zs j)) h.loops_are ∙ loop_factors g es (costed_loops q 2) j e is (known t g q h) in
    total-append (weighted_terms (pos (peak_value q)) entry_row.terms j) (weighted_factors (ns ++ ls) (ys ++ zs) j) ∙ (λ i. entry_factor (peak_value q) j i +ℤ (factors_append ns ls ys zs j long ∙ (λ k. nodes k +ℤ turns k)) i)

-- what is left is at most 0
pub reduced_most : (t : Costs) (g : List Site) (q : Part) (rows : Rows) (by : Multipliers) (j : ℕ) (e : Edge) → Shaped t g q → rows.rows ≡ flow_rows g → by.d ≡ pos 1 → by.y ≡ peak_multipliers q → slice_get (edges g) j ≡ Some e → reduced_cost rows by j (cost_at q e.from) ≤ℤ pos 0
reduced_most t g q rows by j e h rows_are one ys_are is =
    let factors : total (weighted_factors rows.rows by.y j) ≡ _ = (λ i. total (weighted_factors (rows_are i) (ys_are i) j)) ∙ factors_are t g q j e h is in
    let cover = all_covered q j e (ap (λ es. slice_get es j) (sym h.edges_are) ∙ is) in
    subst (λ z. z ≤ℤ pos 0) (sym (λ i. one i *ℤ pos (cost_at q e.from) -ℤ factors i)) (omega (arith, ints, cover))

-- ---- the dual value

pub nothing_more : (r : ℤ) (limit : ℕ × ℕ) → r ≤ℤ pos 0 → limit.0 ≡ 0 → r *ℤ pos (best_limit r limit) ≡ pos 0
nothing_more r limit le zero_is = by_test (int_le (pos 0) r) refl
  where
    by_test : (b : Bool) → int_le (pos 0) r ≡ b → r *ℤ pos (if b then limit.1 else limit.0) ≡ pos 0
    by_test true h =
        let none : r ≡ pos 0 = grind (arith, ints) in
        ap (λ z. z *ℤ pos limit.1) none ∙ zero-*ℤ (pos limit.1)
    by_test false h = ap (λ n. r *ℤ pos n) zero_is ∙ *ℤ-zero r

none_left : (rows : Rows) (by : Multipliers) (cost : ℕ → ℕ) (i : ℕ) (es : List Edge) (limits : List (ℕ × ℕ)) → ((k : ℕ) (e : Edge) → slice_get es k ≡ Some e → reduced_cost rows by (i + k) (cost e.from) ≤ℤ pos 0) → FromZero limits → total (edge_bounds rows by i (map (λ e. cost e.from) es) limits) ≡ pos 0
none_left rows by cost i [] limits h z = refl
none_left rows by cost i (e ∷ es) [] h z = refl
none_left rows by cost i (e ∷ es) (limit ∷ limits) h z =
    let same : i + 0 ≡ i = omega arith in
    let here = subst (λ n. reduced_cost rows by n (cost e.from) ≤ℤ pos 0) same (h 0 e refl) in
    (λ j. nothing_more (reduced_cost rows by i (cost e.from)) limit here z.0 j +ℤ none_left rows by cost (i + 1) es limits (λ k d is. subst (λ n. reduced_cost rows by n (cost d.from) ≤ℤ pos 0) (later k) (h (suc k) d is)) z.1 j)
  where
    later : (k : ℕ) → i + suc k ≡ i + 1 + k
    later k = omega arith

rights_append : (rows more : List Row) (ys zs : List ℤ) → length rows ≡ length ys → total (weighted_rights (rows ++ more) (ys ++ zs)) ≡ total (weighted_rights rows ys) +ℤ total (weighted_rights more zs)
rights_append [] more [] zs h = omega (arith, ints)
rights_append [] more (y ∷ ys) zs h = absurd (omega (arith, h))
rights_append (row ∷ rows) more [] zs h = absurd (omega (arith, h))
rights_append (row ∷ rows) more (y ∷ ys) zs h =
    omega (arith, ints, rights_append rows more ys zs (omega (arith, h)))

node_rights : (es : List Edge) (n k : ℕ) (ys : List ℤ) → total (weighted_rights (node_rows es n k) ys) ≡ pos 0
node_rights es n zero ys = refl
node_rights es n (suc k) [] = refl
node_rights es n (suc k) (y ∷ ys) = ap (λ z. z +ℤ total (weighted_rights (node_rows es (n + 1) k) ys)) (*ℤ-zero y) ∙ +ℤ_idl (total (weighted_rights (node_rows es (n + 1) k) ys)) ∙ node_rights es (n + 1) k ys

loop_rights : (es : List Edge) (ls : List Loop) (ys : List ℤ) → total (weighted_rights (loop_rows es ls) ys) ≡ pos 0
loop_rights es [] ys = refl
loop_rights es (l ∷ ls) [] = refl
loop_rights es (l ∷ ls) (y ∷ ys) = ap (λ z. z +ℤ total (weighted_rights (loop_rows es ls) ys)) (*ℤ-zero y) ∙ +ℤ_idl (total (weighted_rights (loop_rows es ls) ys)) ∙ loop_rights es ls ys

pub rights_are : (t : Costs) (g : List Site) (q : Part) → Shaped t g q → total (weighted_rights (flow_rows g) (peak_multipliers q)) ≡ pos (peak_value q)
rights_are t g q h =
    let es = edges g in
    let ps = potentials q at_end in
    let many : length g - 2 ≡ length ps = omega (arith, h.nodes, potentials_length q at_end) in
    let ns = node_rows es 2 (length g - 2) in
    let ls = loop_rows es (loops g) in
    let ys = map pos ps in
    let zs = map pos (turn_costs (costed_loops q 2)) in
    let long : length ns ≡ length ys = omega (arith, node_rows_length es 2 (length g - 2), many, map_length ps) in
    let all = rights_append ns ls ys zs long in
    let nodes = node_rights es 2 (length g - 2) ys in
    let turns = loop_rights es (loops g) zs in
    ap (λ z. pos (peak_value q) *ℤ pos 1 +ℤ z) (all ∙ (λ i. nodes i +ℤ turns i)) ∙ omega (arith, ints)

-- the multipliers of a part
pub record IsGraphDual (g : List Site) (q : Part) (rows : Rows) (objective : Objective) (within : CountBox) (by : Multipliers) : Type 0 where
  pub rows_are : rows.rows ≡ flow_rows g
  pub limits : FromZero within.limits
  pub divisor : by.d ≡ pos 1
  pub multipliers : by.y ≡ peak_multipliers q

pub costs_from : (t : Costs) (g : List Site) (q : Part) → Shaped t g q → costs_of_edges t g (edges g) ≡ map (λ e. cost_at q e.from) (edges g)
costs_from t g q h =
    let entry : 0 ≡ cost_at q 0 = sym (below_none 2 (node_costs q) 0 (omega arith)) in
    let rest = sym (edge_costs_are q 2 (all_to 1) (cost_at q) (looked_up_agrees 2 (node_costs q))) in
    h.costs_are ∙ (λ i. entry i ∷ rest i) ∙ ap (map (λ e. cost_at q e.from)) (sym h.edges_are)

pub dual_is : (t : Costs) (g : List Site) (q : Part) (rows : Rows) (objective : Objective) (within : CountBox) (by : Multipliers) → Shaped t g q → objective.costs ≡ costs_of_edges t g (edges g) → IsGraphDual g q rows objective within by → dual rows objective within by ≡ pos (peak_value q)
dual_is t g q rows objective within by h costs d =
    let rights : total (weighted_rights rows.rows by.y) ≡ pos (peak_value q) = (λ i. total (weighted_rights (d.rows_are i) (d.multipliers i))) ∙ rights_are t g q h in
    let bounds : total (edge_bounds rows by 0 objective.costs within.limits) ≡ pos 0 = ap (λ cs. total (edge_bounds rows by 0 cs within.limits)) (costs ∙ costs_from t g q h) ∙ none_left rows by (cost_at q) 0 (edges g) within.limits (λ k e is. subst (λ n. reduced_cost rows by n (cost_at q e.from) ≤ℤ pos 0) (zero_more k) (reduced_most t g q rows by k e h d.rows_are d.divisor d.multipliers is)) d.limits in
    let all : scaled_bound rows objective within by ≡ pos (peak_value q) = (λ i. rights i +ℤ bounds i) ∙ omega (arith, ints) in
    (λ i. int_div_euclid (all i) (d.divisor i)) ∙ ap pos (whole (peak_value q))
  where
    whole : (n : ℕ) → n / 1 ≡ n
    whole n = omega arith

    zero_more : (k : ℕ) → k ≡ 0 + k
    zero_more k = omega arith
