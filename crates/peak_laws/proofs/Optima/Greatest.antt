-- The cost from the entry of a program's part on is the optimum of its rows.
use Rattle.std.proofs.Common.{◌≡◌, ◌≤◌, ℕ, suc, ◌+◌, ◌-◌, ℤ, pos, ◌≤ℤ◌, List, [], ◌∷◌, ◌++◌, length, map, All, refl, sym, ap, ◌∙◌, subst, arith}
use Rattle.std.specs.List.{AllZip}
use Rattle.std.proofs.lemmas.Int.{ints}
use Rattle.std.proofs.lemmas.List.Elements.{All-nil, All-cons}
use Rattle.c_tree.specs.declared.program.Costs.{Costs}
use Rattle.c_tree.specs.declared.program.Program.{Program}
use Rattle.c_tree.specs.Keeping.WellFormed.{WellFormed}
use Rattle.flow_laws.specs.declared.graph.Edge.{Edge}
use Rattle.flow_laws.specs.Sites.{Site}
use Rattle.flow_laws.specs.Graphs.{graph, edges, loops, loop_of}
use Rattle.lin_rows.specs.declared.count_box.CountBox.{CountBox}
use Rattle.lin_rows.specs.declared.multipliers.Multipliers.{Multipliers}
use Rattle.lin_rows.specs.declared.objective.Objective.{Objective}
use Rattle.lin_rows.specs.declared.row.Row.{Row}
use Rattle.lin_rows.specs.declared.row.Rows.{Rows}
use Rattle.bound_cert.specs.Dual.{dual}
use Rattle.bound_cert.specs.Fitting.{FitsRows, Takes}
use Rattle.bound_cert.proofs.Duality.{weak_duality_lem}
use Rattle.ipet_rows.specs.FlowRows.{node_rows, loop_rows, flow_rows}
use Rattle.ipet_rows.specs.CapsBound.{costs_of_edges}
use Rattle.ipet_rows.proofs.Named.{rows_below, rows_once}
use Rattle.peak_laws.specs.Parts.{Part, potentials, CostedLoop, costed_loops}
use Rattle.peak_laws.specs.Answers.{copies_of_loops, turn_costs, at_end, peak_value, peak_counts, peak_multipliers, FromZero, IsPeakDual}
use Rattle.ipet_rows.specs.Optimum.{MeetFlowRows, cost_of_counts, IpetOptimum}
use Rattle.peak_laws.specs.ProgramParts.{program_part, entry_part}
use Rattle.peak_laws.proofs.GraphParts.Places.{potentials_length}
use Rattle.peak_laws.proofs.GraphParts.Shapes.{Shaped}
use Rattle.peak_laws.proofs.Duals.Multiplied.{dual_is}
use Rattle.peak_laws.proofs.Attaining.Attained.{counts_cost, counts_meet}
use Rattle.peak_laws.proofs.GraphParts.Programs.{program_shaped}
use Rattle.ipet_rows.proofs.Counting.{costs_long}

-- ---- the multipliers fit the rows

fits_nodes : (es : List Edge) (n : ℕ) (ps : List ℕ) (rows : List Row) (zs : List ℤ) → AllZip (λ (row : Row) y. Takes row.kind y) rows zs → AllZip (λ (row : Row) y. Takes row.kind y) (node_rows es n (length ps) ++ rows) (map pos ps ++ zs)
fits_nodes es n [] rows zs h = h
fits_nodes es n (p ∷ ps) rows zs h = (tt, fits_nodes es (n + 1) ps rows zs h)

fits_loops : (g : List Site) (es : List Edge) (fs : List CostedLoop) → AllZip (λ (row : Row) y. Takes row.kind y) (loop_rows es (map (loop_of g) (copies_of_loops fs))) (map pos (turn_costs fs))
fits_loops g es [] = tt
fits_loops g es (f ∷ fs) = (omega (arith, ints), fits_loops g es fs)

pub fits_each : (t : Costs) (g : List Site) (q : Part) → Shaped t g q → AllZip (λ (row : Row) y. Takes row.kind y) (flow_rows g) (peak_multipliers q)
fits_each t g q h =
    let es = edges g in
    let ps = potentials q at_end in
    let many : length ps ≡ length g - 2 = omega (arith, h.nodes, potentials_length q at_end) in
    let turns = subst (λ cs. AllZip (λ (row : Row) y. Takes row.kind y) (loop_rows es (map (loop_of g) cs)) (map pos (turn_costs (costed_loops q 2)))) (sym h.loops_are) (fits_loops g es (costed_loops q 2)) in
    (tt, subst (λ k. AllZip (λ (row : Row) y. Takes row.kind y) (node_rows es 2 k ++ loop_rows es (loops g)) (map pos ps ++ map pos (turn_costs (costed_loops q 2)))) many (fits_nodes es 2 ps (loop_rows es (loops g)) (map pos (turn_costs (costed_loops q 2))) turns))

-- ---- no counts cost more

-- the box from 0 to the counts themselves
up_to : List ℕ → List (ℕ × ℕ)
up_to x = map (λ n. (0, n)) x

ordered : (x : List ℕ) → All (λ (limit : ℕ × ℕ). limit.0 ≤ limit.1) (up_to x)
unfolding up_to
ordered [] = All-nil (λ (limit : ℕ × ℕ). limit.0 ≤ limit.1)
ordered (n ∷ x) = All-cons (λ (limit : ℕ × ℕ). limit.0 ≤ limit.1) (0, n) (up_to x) (omega arith) (ordered x)

in_box : (x : List ℕ) → AllZip (λ (limit : ℕ × ℕ) n. (limit.0 ≤ n) × (n ≤ limit.1)) (up_to x) x
unfolding up_to
in_box [] = tt
in_box (n ∷ x) = ((omega arith, omega arith), in_box x)

from_zero : (x : List ℕ) → FromZero (up_to x)
unfolding up_to
from_zero [] = tt
from_zero (n ∷ x) = (refl, from_zero x)

long : (x : List ℕ) → length (up_to x) ≡ length x
unfolding up_to
long [] = refl
long (n ∷ x) = ap suc (long x)

pub none_above : (p : Program) (t : Costs) → WellFormed p → (x : List ℕ) → MeetFlowRows (graph p) x → cost_of_counts t (graph p) x ≤ peak_value (program_part p t)
none_above p t h x met =
    let g = graph p in
    let q = program_part p t in
    let shaped = program_shaped p t h in
    let rows : Rows = record { rows = flow_rows g; edges = length (edges g); below = rows_below p; once = rows_once p } in
    let objective : Objective = record { costs = costs_of_edges t g (edges g) } in
    let within : CountBox = record { limits = up_to x; ordered = ordered x } in
    let by : Multipliers = record { d = pos 1; y = peak_multipliers q } in
    let law = weak_duality_lem rows objective within by (record { costs = costs_long t g (edges g); limits = long x ∙ met.long }) (record { divisor = omega (arith, ints); each = fits_each t g q shaped }) x (in_box x) met.met in
    let value = dual_is t g q rows objective within by shaped refl (record { rows_are = refl; limits = from_zero x; divisor = refl; multipliers = refl }) in
    omega (arith, ints, law, value)

pub optimum : (p : Program) (t : Costs) → WellFormed p → IpetOptimum p t (peak_value (program_part p t))
optimum p t h =
    let shaped = program_shaped p t h in
    record { counts = peak_counts (program_part p t); meet = counts_meet t (graph p) (entry_part p t) shaped; cost = counts_cost t (graph p) (entry_part p t) shaped; above = none_above p t h }

-- ---- as laws of programs

pub attained : (p : Program) (t : Costs) → WellFormed p → MeetFlowRows (graph p) (peak_counts (program_part p t))
attained p t h = counts_meet t (graph p) (entry_part p t) (program_shaped p t h)

pub attained_cost : (p : Program) (t : Costs) → WellFormed p → cost_of_counts t (graph p) (peak_counts (program_part p t)) ≡ peak_value (program_part p t)
attained_cost p t h = counts_cost t (graph p) (entry_part p t) (program_shaped p t h)

pub fits : (p : Program) (t : Costs) (rows : Rows) (objective : Objective) (within : CountBox) (by : Multipliers) → WellFormed p → IsPeakDual p t rows objective within by → FitsRows rows by
fits p t rows objective within by h d =
    record {
      divisor = subst (λ z. pos 1 ≤ℤ z) (sym d.divisor) (omega (arith, ints));
      each = subst (λ rs. AllZip (λ (row : Row) y. Takes row.kind y) rs by.y) (sym d.rows_are) (subst (λ ys. AllZip (λ (row : Row) y. Takes row.kind y) (flow_rows (graph p)) ys) (sym d.multipliers) (fits_each t (graph p) (program_part p t) (program_shaped p t h)));
    }

pub bounded : (p : Program) (t : Costs) (rows : Rows) (objective : Objective) (within : CountBox) (by : Multipliers) → WellFormed p → IsPeakDual p t rows objective within by → dual rows objective within by ≡ pos (peak_value (program_part p t))
bounded p t rows objective within by h d =
    dual_is t (graph p) (program_part p t) rows objective within by (program_shaped p t h) d.costs_are (record { rows_are = d.rows_are; limits = d.limits; divisor = d.divisor; multipliers = d.multipliers })
