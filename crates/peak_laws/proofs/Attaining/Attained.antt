-- The counts of a graph's part meet the rows and cost what its multipliers bound.
use Rattle.std.proofs.Common.{◌≡◌, ◌≤◌, inl, ℕ, zero, suc, ◌+◌, ◌*◌, ◌-◌, pos, ◌≤ℤ◌, Bool, true, false, if◌then◌else◌, List, [], ◌∷◌, ◌++◌, length, map, All, Option, Some, None, refl, sym, ap, ◌∙◌, subst, arith}
use Rattle.std.specs.Prelude.{◌==◌}
use Rattle.std.proofs.lemmas.Int.{ints}
use Rattle.std.proofs.lemmas.List.Elements.{All-nil, All-cons, All-append}
use Rattle.c_tree.specs.declared.program.Costs.{Costs}
use Rattle.flow_laws.specs.declared.graph.Edge.{Edge}
use Rattle.flow_laws.specs.Sites.{Site, head}
use Rattle.flow_laws.specs.Graphs.{edges, enters, loop_of, loops, all_to}
use Rattle.flow_laws.specs.Paths.{most_turns}
use Rattle.lin_rows.specs.Meeting.{MeetsRow}
use Rattle.lin_rows.specs.Vectors.{cost_by}
use Rattle.lin_rows.specs.declared.row.Row.{Row}
use Rattle.ipet_rows.specs.FlowRows.{node_factor, loop_factor, entry_row, node_row, node_rows, loop_row, loop_rows}
use Rattle.peak_laws.specs.Parts.{Part, Body, greater, dearest_ways, part_size, part_edges, CostedLoop, costed_loops, turn_limit, turns}
use Rattle.peak_laws.specs.Flows.{whole, flows, Leads, Feasible, cost_times}
use Rattle.peak_laws.specs.Answers.{copies_of_loops, at_end, once, peak_value, peak_counts}
use Rattle.ipet_rows.specs.Optimum.{MeetFlowRows, cost_of_counts}
use Rattle.peak_laws.proofs.Optima.Dearest.{UpTo, upper, lower}
use Rattle.peak_laws.proofs.GraphParts.Places.{Every, every_with, Within, within}
use Rattle.peak_laws.proofs.Attaining.Amounts.{flows_length, flows_cost}
use Rattle.peak_laws.proofs.Attaining.Conserved.{weigh, leaving, arriving, at, at_other, edges_length, conserved}
use Rattle.peak_laws.proofs.Attaining.Turned.{outside_enters, KeepsRow, turned}
use Rattle.peak_laws.proofs.Attaining.Sums.{left_is, node_is, loop_is}
use Rattle.peak_laws.proofs.Duals.Reduced.{Known}
use Rattle.peak_laws.proofs.GraphParts.Shapes.{entry_edge, Shaped, known}

-- ---- the dearest way through a callee's body

-- some way leads through each part
some_way : (p : Part) → (dearest_ways p).next ≡ None → (dearest_ways p).breaks ≡ None → (dearest_ways p).continues ≡ None → (dearest_ways p).returns ≡ None → ⊥
some_way p n b c r = omega (arith, upper p 1 0 at_end (record { next = none (dearest_ways p).next n; breaks = none (dearest_ways p).breaks b; continues = none (dearest_ways p).continues c; returns = none (dearest_ways p).returns r }))
  where
    none : (o : Option ℕ) → o ≡ None → UpTo 1 o 0 0
    none None h = tt
    none (Some d) h = absurd (cc)

abbrev pub through : Part → Option ℕ
through p = greater (greater (dearest_ways p).next (dearest_ways p).breaks) (greater (dearest_ways p).continues (dearest_ways p).returns)

greater_none : (o p : Option ℕ) → greater o p ≡ None → (o ≡ None) × (p ≡ None)
greater_none None p h = (refl, h)
greater_none (Some d) None h = absurd (cc)
greater_none (Some d) (Some e) h = absurd (cc)

pub through_is : (p : Part) → through p ≡ Some (peak_value (Body p))
through_is p = by_way (through p) refl
  where
    by_way : (o : Option ℕ) → through p ≡ o → through p ≡ Some (peak_value (Body p))
    by_way None h =
        let halves = greater_none (greater (dearest_ways p).next (dearest_ways p).breaks) (greater (dearest_ways p).continues (dearest_ways p).returns) h in
        let near = greater_none (dearest_ways p).next (dearest_ways p).breaks halves.0 in
        let far = greater_none (dearest_ways p).continues (dearest_ways p).returns halves.1 in
        absurd (some_way p near.0 near.1 far.0 far.1)
    by_way (Some d) h =
        let low : UpTo 0 (Some d) 0 (peak_value (Body p)) = subst (λ o. UpTo 0 o 0 (peak_value (Body p))) h (lower (Body p) at_end).next in
        let high = upper (Body p) 0 d at_end (record { next = subst (λ o. UpTo 0 o 0 d) (sym h) (omega arith); breaks = tt; continues = tt; returns = tt }) in
        let same : d ≡ peak_value (Body p) = omega (arith, low, high) in
        h ∙ ap Some same

pub once_feasible : (p : Part) → Feasible (dearest_ways (Body p)) once
once_feasible p =
    record { next = subst (λ o. Leads o 1) (sym (through_is p)) tt; breaks = refl; continues = refl; returns = refl }

-- ---- what the counts cost

pub counts_cost : (t : Costs) (g : List Site) (p : Part) → Shaped t g (Body p) → cost_of_counts t g (peak_counts (Body p)) ≡ peak_value (Body p)
counts_cost t g p h =
    let part = flows_cost (Body p) once (once_feasible p) in
    let one : cost_times (through p) 1 ≡ peak_value (Body p) = ap (λ o. cost_times o 1) (through_is p) ∙ omega arith in
    ap (λ cs. cost_by cs (peak_counts (Body p))) h.costs_are ∙ omega (arith, part, one)

-- ---- the rows

pub counts_long : (t : Costs) (g : List Site) (q : Part) → Shaped t g q → length (peak_counts q) ≡ length (edges g)
counts_long t g q h = omega (arith, ap length h.edges_are, flows_length q once, edges_length q 2 (all_to 1))

node_met : (t : Costs) (g : List Site) (p : Part) (n : ℕ) → Shaped t g (Body p) → 2 ≤ n → MeetsRow (peak_counts (Body p)) (node_row (edges g) n)
node_met t g p n h le =
    let q = Body p in
    let es = edges g in
    let xs = peak_counts q in
    let all = conserved q 2 (all_to 1) once n (once_feasible p) in
    let none : (if 0 == n then 1 else 0) ≡ 0 = at_other n 0 1 (λ is. omega (arith, is, le)) in
    let exit : at n 1 1 ≡ 0 = at_other n 1 1 (λ is. omega (arith, is, le)) in
    let same : leaving n es xs ≡ arriving n es xs = subst (λ ds. leaving n ds xs ≡ arriving n ds xs) (sym h.edges_are) (omega (arith, all, none, exit, at_nothing n 1)) in
    left_is (node_factor n) es xs (counts_long t g q h) ∙ node_is n 0 es xs ∙ omega (arith, ints, same)
  where
    at_nothing : (v i : ℕ) → at v i 0 ≡ 0
    at_nothing v i = by_test (i == v) 0 refl
      where
        by_test : (b : Bool) (z : ℕ) → z ≡ 0 → (if b then z else 0) ≡ 0
        by_test true z h = h
        by_test false z h = refl

nodes_met : (t : Costs) (g : List Site) (p : Part) (n k : ℕ) → Shaped t g (Body p) → 2 ≤ n → All (MeetsRow (peak_counts (Body p))) (node_rows (edges g) n k)
nodes_met t g p n zero h le = All-nil (MeetsRow (peak_counts (Body p)))
nodes_met t g p n (suc k) h le =
    All-cons (MeetsRow (peak_counts (Body p))) (node_row (edges g) n) (node_rows (edges g) (n + 1) k) (node_met t g p n h le) (nodes_met t g p (n + 1) k h (omega (arith, le)))

-- over all edges, with edge 0
loop_met : (t : Costs) (g : List Site) (p : Part) (f : CostedLoop) → Shaped t g (Body p) → Known g (edges g) f → Within 2 (2 + part_size p) f → KeepsRow (part_edges (Body p) 2 (all_to 1)) (flows (Body p) once) (head (part_size p) 2 1) (whole once) f → MeetsRow (peak_counts (Body p)) (loop_row (edges g) (loop_of g f.loop_copy))
loop_met t g p f h is w keeps =
    let q = Body p in
    let es = edges g in
    let ds = part_edges q 2 (all_to 1) in
    let xs = peak_counts q in
    let l = loop_of g f.loop_copy in
    let turn : weigh (turns f.loop_copy) es xs ≡ weigh (turns f.loop_copy) ds (flows q once) = ap (λ y. weigh (turns f.loop_copy) y xs) h.edges_are ∙ omega arith in
    let into : weigh (enters f.loop_copy) es xs ≡ (if enters f.loop_copy (entry_edge q) then 1 else 0) + weigh (enters f.loop_copy) ds (flows q once) = ap (λ y. weigh (enters f.loop_copy) y xs) h.edges_are in
    let first : (if enters f.loop_copy (entry_edge q) then 1 else 0) ≡ at f.loop_copy.from (head (part_size p) 2 1) 1 = ap (λ b. if b then 1 else 0) (outside_enters f.loop_copy (entry_edge q) (inl (omega (arith, w.least)))) in
    let sums : weigh (enters f.loop_copy) ds (flows q once) + at f.loop_copy.from (head (part_size p) 2 1) 1 ≡ weigh (enters f.loop_copy) es xs = omega (arith, into, first) in
    let most_is : weigh (turns f.loop_copy) es xs ≤ most_turns l * weigh (enters f.loop_copy) es xs = omega (arith, turn, keeps, ap (λ n. turn_limit f.loop_copy * n) sums) in
    subst (λ z. z ≤ℤ pos 0) (sym (left_is (loop_factor l) es xs (counts_long t g q h) ∙ loop_is l (turns f.loop_copy) (enters f.loop_copy) 0 es xs is)) (omega (arith, ints, most_is))

all_loops : (P : Row → Type 0) (g : List Site) (es : List Edge) (fs : List CostedLoop) → Every (λ f. P (loop_row es (loop_of g f.loop_copy))) fs → All P (loop_rows es (map (loop_of g) (copies_of_loops fs)))
all_loops P g es [] h = All-nil P
all_loops P g es (f ∷ fs) h = All-cons P (loop_row es (loop_of g f.loop_copy)) (loop_rows es (map (loop_of g) (copies_of_loops fs))) h.0 (all_loops P g es fs h.1)

pub counts_meet : (t : Costs) (g : List Site) (p : Part) → Shaped t g (Body p) → MeetFlowRows g (peak_counts (Body p))
counts_meet t g p h =
    record {
      long = counts_long t g q h;
      met = All-cons P entry_row (ns ++ loop_rows es (loops g)) first (All-append P ns (loop_rows es (loops g)) (nodes_met t g p 2 (length g - 2) h (omega arith)) (subst (λ cs. All P (loop_rows es (map (loop_of g) cs))) (sym h.loops_are) (all_loops P g es (costed_loops q 2) loops_met)));
    }
  where
    q : Part
    q = Body p

    es : List Edge
    es = edges g

    P : Row → Type 0
    P = MeetsRow (peak_counts (Body p))

    ns : List Row
    ns = node_rows (edges g) 2 (length g - 2)

    first : P entry_row
    first = omega (arith, ints)

    loops_met : Every (λ f. P (loop_row es (loop_of g f.loop_copy))) (costed_loops q 2)
    loops_met =
        every_with (λ f. Known g es f × Within 2 (2 + part_size p) f) (KeepsRow (part_edges q 2 (all_to 1)) (flows q once) (head (part_size p) 2 1) (whole once)) (λ f. P (loop_row es (loop_of g f.loop_copy))) (costed_loops q 2) (λ f k r. loop_met t g p f h k.0 k.1 r) (every_with (Known g es) (Within 2 (2 + part_size p)) (λ f. Known g es f × Within 2 (2 + part_size p) f) (costed_loops q 2) (λ f k w. (k, w)) (known t g q h) (within p 2)) (turned q 2 (all_to 1) once (once_feasible p))
