-- The dual value of the multipliers can be computed in i128.
use Rattle.std.proofs.Common.{◌≡◌, ◌≤◌, ◌<◌, ℕ, zero, suc, ◌+◌, ◌-◌, ◌*◌, ◌^◌, ℤ, pos, ◌+ℤ◌, ◌-ℤ◌, ◌*ℤ◌, ◌≤ℤ◌, Bool, true, false, if◌then◌else◌, List, [], ◌∷◌, ◌++◌, length, map, All, Option, Some, None, refl, sym, ap, ◌∙◌, subst, arith, length-append}
use Rattle.std.proofs.Math.Nat.{mul-le-mul_left}
use Rattle.std.specs.Prelude.{slice_get, ◌==◌, nat_lt, option_map}
use Rattle.std.proofs.lemmas.Bool.{eqb-true, ltb-false}
use Rattle.std.proofs.lemmas.Int.{ints}
use Rattle.std.proofs.lemmas.List.Elements.{All-nil, All-cons, All-append}
use lib.IntN.{*ℤ-zero}
use Rattle.c_tree.specs.declared.program.Costs.{Costs}
use Rattle.c_tree.specs.declared.program.Program.{Program}
use Rattle.c_tree.specs.Keeping.WellFormed.{WellFormed}
use Rattle.flow_laws.specs.declared.graph.Edge.{Edge}
use Rattle.flow_laws.specs.declared.graph.Loop.{Loop}
use Rattle.flow_laws.specs.Sites.{Site}
use Rattle.flow_laws.specs.Graphs.{graph, edges, enters, loop_of, loops, all_to}
use Rattle.flow_laws.specs.Paths.{is_in_list}
use Rattle.flow_graph.specs.declared.fault.PlanFault.TheVariants.{Blocks, Edges, Cap}
use Rattle.flow_graph.specs.Limits.{block_copies, first_above, size_verdict, size_fault}
use Rattle.c_tree.specs.declared.program.BlockName.{BlockName}
use Rattle.lin_rows.specs.Steps.{total, addition_steps, subtraction_steps, StaysInI128}
use Rattle.lin_rows.specs.declared.count_box.CountBox.{CountBox}
use Rattle.lin_rows.specs.declared.multipliers.Multipliers.{Multipliers}
use Rattle.lin_rows.specs.declared.objective.Objective.{Objective}
use Rattle.lin_rows.specs.declared.row.Row.{Row}
use Rattle.lin_rows.specs.declared.row.Rows.{Rows}
use Rattle.bound_cert.specs.Dual.{weighted_rights, weighted_terms, weighted_factors, reduced_cost, edge_bound}
use Rattle.bound_cert.specs.DualSteps.{reduced_cost_steps, edge_steps, edges_steps, dual_steps}
use Rattle.ipet_rows.specs.FlowRows.{one_if, terms, node_factor, loop_factor, entry_row, node_rows, loop_row, loop_rows, flow_rows}
use Rattle.ipet_rows.specs.CapsBound.{AreSmall}
use Rattle.ipet_rows.proofs.Spanned.{bound_within}
use Rattle.peak_laws.specs.Parts.{Part, Nothing, Block, Then, Choice, While, Do, Body, part_size, step_size, step_costs, dearest_ways, full_turn_cost, potentials, CostedLoop, costed_loop, do_copy, costed_loops, turn_limit, turns, turn_refund, entry_charge}
use Rattle.peak_laws.specs.Magnitudes.{cap_cost, loop_count, excess}
use Rattle.peak_laws.specs.Flows.{edge_costs}
use Rattle.peak_laws.specs.Answers.{copies_of_loops, turn_costs, at_end, peak_value, peak_multipliers, FromZero, IsPeakDual}
use Rattle.peak_laws.specs.ProgramParts.{program_part}
use Rattle.peak_laws.proofs.GraphParts.Places.{Every, potentials_length}
use Rattle.peak_laws.proofs.Duals.Magnitudes.{Below, entry_most, AtMost, bounded, dues, excess_most}
use Rattle.peak_laws.proofs.Duals.Reduced.{looked_up, below_none, times_minus, Known}
use Rattle.peak_laws.proofs.GraphParts.Shapes.{Shaped, known}
use Rattle.peak_laws.proofs.Duals.Multiplied.{potential_at, cost_at, all_covered, node_rows_length, map_length, reduced_most, nothing_more, costs_from, rights_are}
use Rattle.peak_laws.proofs.GraphParts.Programs.{program_shaped}
use Rattle.peak_laws.proofs.Attaining.Conserved.{edges_length}
use Rattle.peak_laws.proofs.Duals.Ranges.{cap_cost_within}
use Rattle.peak_laws.proofs.Duals.DualRange.{mag, mags, mags_append, Fit, fit_of, taking_fits, adding_fits, row_mag, mag_most, minus_mag}

-- ---- how large the factors of an edge are together

node_mag : (p : ℕ) (a b : Bool) → mag (pos p *ℤ (one_if a -ℤ one_if b)) ≤ (if a then p else 0) + (if b then p else 0)
node_mag p true true = mag_most (pos p *ℤ (pos 1 -ℤ pos 1)) (p + p) (omega (arith, ints)) (omega (arith, ints))
node_mag p true false = mag_most (pos p *ℤ (pos 1 -ℤ pos 0)) (p + 0) (omega (arith, ints)) (omega (arith, ints))
node_mag p false true = mag_most (pos p *ℤ (pos 0 -ℤ pos 1)) (0 + p) (omega (arith, ints)) (omega (arith, ints))
node_mag p false false = mag_most (pos p *ℤ (pos 0 -ℤ pos 0)) (0 + 0) (omega (arith, ints)) (omega (arith, ints))

node_mags : (es : List Edge) (n : ℕ) (ps : List ℕ) (j : ℕ) (e : Edge) → slice_get es j ≡ Some e → mags (weighted_factors (node_rows es n (length ps)) (map pos ps) j) ≤ looked_up n ps e.from + looked_up n ps e.to
node_mags es n [] j e h = omega arith
node_mags es n (p ∷ ps) j e h =
    omega (arith, mags_append (weighted_terms (pos p) (terms (node_factor n) 0 es) j) (weighted_factors (node_rows es (n + 1) (length ps)) (map pos ps) j), row_mag (pos p) (node_factor n) es j e h, node_mag p (e.from == n) (e.to == n), node_mags es (n + 1) ps j e h)

product_mag : (y a b u v : ℕ) → y * a ≤ u → y * b ≤ v → mag (pos y *ℤ (pos a -ℤ pos b)) ≤ u + v
product_mag y a b u v h k = omega (arith, ap mag (times_minus y a b), minus_mag (pos (y * a)) (pos (y * b)), h, k)

loop_mag : (y m : ℕ) (a b : Bool) → mag (pos y *ℤ (one_if a -ℤ pos m *ℤ one_if b)) ≤ (if a then y else 0) + (if b then m * y else 0)
loop_mag y m true true = product_mag y 1 (m * 1) y (m * y) (omega arith) (omega arith)
loop_mag y m true false = product_mag y 1 (m * 0) y 0 (omega arith) (omega arith)
loop_mag y m false true = product_mag y 0 (m * 1) 0 (m * y) (omega arith) (omega arith)
loop_mag y m false false = product_mag y 0 (m * 0) 0 0 (omega arith) (omega arith)

loop_mags : (g : List Site) (es : List Edge) (fs : List CostedLoop) (j : ℕ) (e : Edge) → slice_get es j ≡ Some e → Every (Known g es) fs → mags (weighted_factors (map (loop_row es) (map (loop_of g) (copies_of_loops fs))) (map pos (turn_costs fs)) j) ≤ turn_refund fs e + entry_charge fs e
loop_mags g es [] j e h known = omega arith
loop_mags g es (f ∷ fs) j e h known =
    let l = loop_of g f.loop_copy in
    let z : 0 + j ≡ j = omega arith in
    let full_turn_cost : (j == l.turn) ≡ turns f.loop_copy e = subst (λ n. (n == l.turn) ≡ turns f.loop_copy e) z ((known.0).turn j e h) in
    let into : is_in_list j l.into ≡ enters f.loop_copy e = subst (λ n. is_in_list n l.into ≡ enters f.loop_copy e) z ((known.0).into j e h) in
    let same : mag (pos f.turn *ℤ loop_factor l j e) ≡ mag (pos f.turn *ℤ (one_if (turns f.loop_copy e) -ℤ pos (turn_limit f.loop_copy) *ℤ one_if (enters f.loop_copy e))) = λ i. mag (pos f.turn *ℤ (one_if (full_turn_cost i) -ℤ pos (turn_limit f.loop_copy) *ℤ one_if (into i))) in
    omega (arith, mags_append (weighted_terms (pos f.turn) (terms (loop_factor l) 0 es) j) (weighted_factors (map (loop_row es) (map (loop_of g) (copies_of_loops fs))) (map pos (turn_costs fs)) j), row_mag (pos f.turn) (loop_factor l) es j e h, same, loop_mag f.turn (turn_limit f.loop_copy) (turns f.loop_copy e) (enters f.loop_copy e), loop_mags g es fs j e h known.1)

mags_more : (rows more : List Row) (ys zs : List ℤ) (j : ℕ) → length rows ≡ length ys → mags (weighted_factors (rows ++ more) (ys ++ zs) j) ≡ mags (weighted_factors rows ys j) + mags (weighted_factors more zs j)
mags_more [] more [] zs j h = omega arith
mags_more [] more (y ∷ ys) zs j h = absurd (omega (arith, h))
mags_more (row ∷ rows) more [] zs j h = absurd (omega (arith, h))
mags_more (row ∷ rows) more (y ∷ ys) zs j h =
    omega (arith, mags_append (weighted_terms y row.terms j) (weighted_factors (rows ++ more) (ys ++ zs) j), mags_append (weighted_terms y row.terms j) (weighted_factors rows ys j), mags_more rows more ys zs j (omega (arith, h)))

entry_mag : (v j : ℕ) → mags (weighted_terms (pos v) ((0, pos 1) ∷ []) j) ≤ v
entry_mag v j = by_test (0 == j)
  where
    by_test : (b : Bool) → mags (map (λ (t : ℕ × ℤ). pos v *ℤ t.1) (if b then (0, pos 1) ∷ [] else [])) ≤ v
    by_test true = omega arith
    by_test false = omega arith

factors_mag : (t : Costs) (g : List Site) (q : Part) (j : ℕ) (e : Edge) → Shaped t g q → slice_get (edges g) j ≡ Some e → mags (weighted_factors (flow_rows g) (peak_multipliers q) j) ≤ peak_value q + ((potential_at q e.from + potential_at q e.to) + (turn_refund (costed_loops q 2) e + entry_charge (costed_loops q 2) e))
factors_mag t g q j e h is =
    let es = edges g in
    let ps = potentials q at_end in
    let many : length g - 2 ≡ length ps = omega (arith, h.nodes, potentials_length q at_end) in
    let ns = node_rows es 2 (length g - 2) in
    let ls = loop_rows es (loops g) in
    let ys = map pos ps in
    let zs = map pos (turn_costs (costed_loops q 2)) in
    let long : length ns ≡ length ys = omega (arith, node_rows_length es 2 (length g - 2), many, map_length ps) in
    let nodes : mags (weighted_factors ns ys j) ≤ potential_at q e.from + potential_at q e.to = subst (λ k. mags (weighted_factors (node_rows es 2 k) ys j) ≤ potential_at q e.from + potential_at q e.to) (sym many) (node_mags es 2 ps j e is) in
    let turned : mags (weighted_factors ls zs j) ≤ turn_refund (costed_loops q 2) e + entry_charge (costed_loops q 2) e = subst (λ cs. mags (weighted_factors (loop_rows es (map (loop_of g) cs)) zs j) ≤ turn_refund (costed_loops q 2) e + entry_charge (costed_loops q 2) e) (sym h.loops_are) (loop_mags g es (costed_loops q 2) j e is (known t g q h)) in
    omega (arith, mags_append (weighted_terms (pos (peak_value q)) entry_row.terms j) (weighted_factors (ns ++ ls) (ys ++ zs) j), mags_more ns ls ys zs j long, entry_mag (peak_value q) j, nodes, turned)

-- ---- numbers

looked_most : (n x : ℕ) (ps : List ℕ) (v : ℕ) → Every (AtMost x) ps → looked_up n ps v ≤ x
looked_most n x [] v h = omega arith
looked_most n x (p ∷ ps) v h = by_test (v == n) refl (looked_most (n + 1) x ps v h.1)
  where
    by_test : (b : Bool) → (v == n) ≡ b → looked_up (n + 1) ps v ≤ x → (if b then p else 0) + looked_up (n + 1) ps v ≤ x
    by_test true is rest = omega (arith, h.0, below_none (n + 1) ps v (omega (arith, eqb-true v n is)))
    by_test false is rest = omega (arith, rest)

turn_refund_most : (x : ℕ) (fs : List CostedLoop) (e : Edge) → Every (λ f. f.turn ≤ x) fs → turn_refund fs e ≤ length fs * x
turn_refund_most x [] e h = omega arith
turn_refund_most x (f ∷ fs) e h = omega (arith, by_test (turns f.loop_copy e), h.0, turn_refund_most x fs e h.1)
  where
    by_test : (b : Bool) → (if b then f.turn else 0) ≤ f.turn
    by_test true = omega arith
    by_test false = omega arith

costed_loops_length : (p : Part) (n : ℕ) → length (costed_loops p n) ≡ loop_count p
costed_loops_length Nothing n = refl
costed_loops_length (Block c l) n = refl
costed_loops_length (Then p q) n = omega (arith, length-append (costed_loops p n) (costed_loops q (n + part_size p)), costed_loops_length p n, costed_loops_length q (n + part_size p))
costed_loops_length (Choice c p q) n = omega (arith, length-append (costed_loops p (n + 1)) (costed_loops q (n + 1 + part_size p)), costed_loops_length p (n + 1), costed_loops_length q (n + 1 + part_size p))
costed_loops_length (While c m s p) n = omega (arith, costed_loops_length p (n + 1 + step_size s))
costed_loops_length (Do c m p) n = omega (arith, length-append (costed_loops p n) (costed_loop (do_copy p n m) (full_turn_cost c None (dearest_ways p)) ∷ []), costed_loops_length p n)
costed_loops_length (Body p) n = costed_loops_length p n

nothing_ahead : Below at_end 0
nothing_ahead = record { next = omega arith; breaks = omega arith; continues = omega arith; returns = omega arith }

-- a part of so little heft and so few loops that all numbers stay in i128
pub record IsSmall (q : Part) : Type 0 where
  pub cap_cost : cap_cost q ≤ 2 ^ 97
  pub loops : loop_count q ≤ 2048

small_factors : (t : Costs) (g : List Site) (q : Part) (j : ℕ) (e : Edge) → Shaped t g q → IsSmall q → slice_get (edges g) j ≡ Some e → cost_at q e.from + mags (weighted_factors (flow_rows g) (peak_multipliers q) j) < 2 ^ 127
small_factors t g q j e h small is =
    let cover = all_covered q j e (ap (λ es. slice_get es j) (sym h.edges_are) ∙ is) in
    let value : peak_value q ≤ cap_cost q = omega (arith, entry_most q at_end 0 nothing_ahead) in
    let from : potential_at q e.from ≤ excess q + 0 = looked_most 2 (excess q + 0) (potentials q at_end) e.from (bounded q at_end 0 nothing_ahead) in
    let due = turn_refund_most (cap_cost q) (costed_loops q 2) e (dues q 2) in
    let many = ap (λ n. n * cap_cost q) (costed_loops_length q 2) in
    let all : loop_count q * cap_cost q ≤ 2048 * 2 ^ 97 = omega (arith, mul-le-mul_left (loop_count q) small.cap_cost, small.loops) in
    let test : (if 0 == j then peak_value q else 0) ≤ peak_value q = by_test (0 == j) in
    omega (arith, cover, value, from, due, many, all, test, excess_most q (cap_cost q) (omega arith), small.cap_cost, factors_mag t g q j e h is)
  where
    by_test : (b : Bool) → (if b then peak_value q else 0) ≤ peak_value q
    by_test true = omega arith
    by_test false = omega arith

-- ---- the written order

edges_fit : (rows : Rows) (by : Multipliers) (cost : ℕ → ℕ) (v i : ℕ) (s : ℤ) (es : List Edge) (limits : List (ℕ × ℕ)) → s ≡ pos v → v < 2 ^ 127 → by.d ≡ pos 1 → ((k : ℕ) (e : Edge) → slice_get es k ≡ Some e → reduced_cost rows by (i + k) (cost e.from) ≤ℤ pos 0) → ((k : ℕ) (e : Edge) → slice_get es k ≡ Some e → cost e.from + mags (weighted_factors rows.rows by.y (i + k)) < 2 ^ 127) → FromZero limits → All Fit (edges_steps rows by i s (map (λ e. cost e.from) es) limits)
edges_fit rows by cost v i s [] limits is lt one low room z = All-nil Fit
edges_fit rows by cost v i s (e ∷ es) [] is lt one low room z = All-nil Fit
edges_fit rows by cost v i s (e ∷ es) (limit ∷ limits) is lt one low room z =
    let same : i + 0 ≡ i = omega arith in
    let c = cost e.from in
    let here = subst (λ n. reduced_cost rows by n c ≤ℤ pos 0) same (low 0 e refl) in
    let small = subst (λ n. c + mags (weighted_factors rows.rows by.y n) < 2 ^ 127) same (room 0 e refl) in
    let scaled : by.d *ℤ pos c ≡ pos c = ap (λ d. d *ℤ pos c) one ∙ omega (arith, ints) in
    let factors = weighted_factors rows.rows by.y i in
    let bound : edge_bound rows by i c limit ≡ pos 0 = nothing_more (reduced_cost rows by i c) limit here z.0 in
    let next : s +ℤ edge_bound rows by i c limit ≡ pos v = (λ j. is j +ℤ bound j) ∙ omega (arith, ints) in
    let first : All Fit (reduced_cost_steps rows by i c) = subst (λ d. All Fit (d ∷ subtraction_steps d factors)) (sym scaled) (All-cons Fit (pos c) (subtraction_steps (pos c) factors) (fit_of (pos c) (omega (arith, small))) (taking_fits (pos c) factors small)) in
    let second : All Fit (addition_steps s (edge_bound rows by i c limit ∷ [])) = All-cons Fit (edge_bound rows by i c limit) ((s +ℤ edge_bound rows by i c limit) ∷ []) (subst Fit (sym bound) (fit_of (pos 0) (omega arith))) (All-cons Fit (s +ℤ edge_bound rows by i c limit) [] (subst Fit (sym next) (fit_of (pos v) lt)) (All-nil Fit)) in
    let rest = edges_fit rows by cost v (i + 1) (s +ℤ edge_bound rows by i c limit) es limits next lt one (λ k d at. subst (λ n. reduced_cost rows by n (cost d.from) ≤ℤ pos 0) (later k) (low (suc k) d at)) (λ k d at. subst (λ n. cost d.from + mags (weighted_factors rows.rows by.y n) < 2 ^ 127) (later k) (room (suc k) d at)) z.1 in
    All-append Fit (edge_steps rows by i s c limit) (edges_steps rows by (i + 1) (s +ℤ edge_bound rows by i c limit) (map (λ e. cost e.from) es) limits) (All-append Fit (reduced_cost_steps rows by i c) (addition_steps s (edge_bound rows by i c limit ∷ [])) first second) rest
  where
    later : (k : ℕ) → i + suc k ≡ i + 1 + k
    later k = omega arith

-- the right sides are 1, and 0 from then on
nodes_zero : (es : List Edge) (n k : ℕ) (rows : List Row) (ys zs : List ℤ) → mags (weighted_rights rows zs) ≡ 0 → length ys ≡ k → mags (weighted_rights (node_rows es n k ++ rows) (ys ++ zs)) ≡ 0
nodes_zero es n zero rows [] zs h long = h
nodes_zero es n zero rows (y ∷ ys) zs h long = absurd (omega (arith, long))
nodes_zero es n (suc k) rows [] zs h long = absurd (omega (arith, long))
nodes_zero es n (suc k) rows (y ∷ ys) zs h long =
    omega (arith, ap mag (*ℤ-zero y), nodes_zero es (n + 1) k rows ys zs h (omega (arith, long)))

loops_zero : (es : List Edge) (ls : List Loop) (ys : List ℤ) → mags (weighted_rights (loop_rows es ls) ys) ≡ 0
loops_zero es [] ys = refl
loops_zero es (l ∷ ls) [] = refl
loops_zero es (l ∷ ls) (y ∷ ys) = omega (arith, ap mag (*ℤ-zero y), loops_zero es ls ys)

rights_fit : (t : Costs) (g : List Site) (q : Part) → Shaped t g q → peak_value q < 2 ^ 127 → All Fit (addition_steps (pos 0) (weighted_rights (flow_rows g) (peak_multipliers q)))
rights_fit t g q h lt =
    let ps = potentials q at_end in
    let long : length (map pos ps) ≡ length g - 2 = omega (arith, h.nodes, potentials_length q at_end, map_length ps) in
    let rest = nodes_zero (edges g) 2 (length g - 2) (loop_rows (edges g) (loops g)) (map pos ps) (map pos (turn_costs (costed_loops q 2))) (loops_zero (edges g) (loops g) (map pos (turn_costs (costed_loops q 2)))) long in
    adding_fits (pos 0) (weighted_rights (flow_rows g) (peak_multipliers q)) (omega (arith, rest, lt))

pub all_fit : (p : Program) (t : Costs) (rows : Rows) (objective : Objective) (within : CountBox) (by : Multipliers) → WellFormed p → IsSmall (program_part p t) → IsPeakDual p t rows objective within by → StaysInI128 (dual_steps rows objective within by)
all_fit p t rows objective within by formed small d =
    let g = graph p in
    let q = program_part p t in
    let h = program_shaped p t formed in
    let value : peak_value q < 2 ^ 127 = omega (arith, entry_most q at_end 0 nothing_ahead, small.cap_cost) in
    let rights = subst (λ rs. All Fit (addition_steps (pos 0) (weighted_rights rs by.y))) (sym d.rows_are) (subst (λ ys. All Fit (addition_steps (pos 0) (weighted_rights (flow_rows g) ys))) (sym d.multipliers) (rights_fit t g q h value)) in
    let sum : total (weighted_rights rows.rows by.y) ≡ pos (peak_value q) = (λ i. total (weighted_rights (d.rows_are i) (d.multipliers i))) ∙ rights_are t g q h in
    let room : (k : ℕ) (e : Edge) → slice_get (edges g) k ≡ Some e → cost_at q e.from + mags (weighted_factors rows.rows by.y (0 + k)) < 2 ^ 127 = λ k e at. subst (λ n. cost_at q e.from + mags (weighted_factors rows.rows by.y n) < 2 ^ 127) (more k) (subst (λ rs. cost_at q e.from + mags (weighted_factors rs by.y k) < 2 ^ 127) (sym d.rows_are) (subst (λ ys. cost_at q e.from + mags (weighted_factors (flow_rows g) ys k) < 2 ^ 127) (sym d.multipliers) (small_factors t g q k e h small at))) in
    let parts = edges_fit rows by (cost_at q) (peak_value q) 0 (total (weighted_rights rows.rows by.y)) (edges g) within.limits sum value d.divisor (λ k e at. subst (λ n. reduced_cost rows by n (cost_at q e.from) ≤ℤ pos 0) (more k) (reduced_most t g q rows by k e h d.rows_are d.divisor d.multipliers at)) room d.limits in
    record { each = All-append Fit (addition_steps (pos 0) (weighted_rights rows.rows by.y)) (edges_steps rows by 0 (total (weighted_rights rows.rows by.y)) objective.costs within.limits) rights (subst (λ cs. All Fit (edges_steps rows by 0 (total (weighted_rights rows.rows by.y)) cs within.limits)) (sym (d.costs_are ∙ costs_from t g q h)) parts) }
  where
    more : (k : ℕ) → k ≡ 0 + k
    more k = omega arith

-- ---- every program whose graph has at most 2,048 edges and whose costs are below 2^32

loops_few : (p : Part) → loop_count p ≤ length (edge_costs p)
loops_few Nothing = omega arith
loops_few (Block c l) = omega arith
loops_few (Then p q) = omega (arith, length-append (edge_costs p) (edge_costs q), loops_few p, loops_few q)
loops_few (Choice c p q) = omega (arith, length-append (edge_costs p) (edge_costs q), loops_few p, loops_few q)
loops_few (While c m s p) = omega (arith, length-append (step_costs s) (edge_costs p), loops_few p)
loops_few (Do c m p) = omega (arith, length-append (edge_costs p) (c ∷ (c ∷ [])), loops_few p)
loops_few (Body p) = loops_few p

edges_few : (n e : ℕ) (o : Option BlockName) → size_verdict n e o ≡ None → e ≤ 2048
edges_few n e o h = by_tests (nat_lt 1024 n) (nat_lt 2048 e) refl h
  where
    by_tests : (a b : Bool) → nat_lt 2048 e ≡ b → (if a then Some Blocks else (if b then Some Edges else option_map (λ x. Cap x) o)) ≡ None → e ≤ 2048
    by_tests true b is h = absurd (cc)
    by_tests false true is h = absurd (cc)
    by_tests false false is h = ltb-false 2048 e is

allowed_edges : (g : List Site) → size_fault g ≡ None → length (edges g) ≤ 2048
unfolding size_fault
allowed_edges g h = edges_few (block_copies g) (length (edges g)) (first_above (2 ^ 40) g) h

pub is_small : (p : Program) (t : Costs) → WellFormed p → AreSmall t → size_fault (graph p) ≡ None → IsSmall (program_part p t)
is_small p t formed costs allowed =
    let g = graph p in
    let q = program_part p t in
    let h = program_shaped p t formed in
    record {
      cap_cost = omega (arith, cap_cost_within t g q h, bound_within p t formed costs);
      loops = omega (arith, loops_few q, allowed_edges g allowed, ap length h.edges_are, edges_length q 2 (all_to 1));
    }

pub dual_fits : (p : Program) (t : Costs) (rows : Rows) (objective : Objective) (within : CountBox) (by : Multipliers) → WellFormed p → AreSmall t → size_fault (graph p) ≡ None → IsPeakDual p t rows objective within by → StaysInI128 (dual_steps rows objective within by)
dual_fits p t rows objective within by formed costs allowed d = all_fit p t rows objective within by formed (is_small p t formed costs allowed) d
