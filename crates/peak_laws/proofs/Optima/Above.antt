-- No run of a well-formed program costs more than its optimum: the counts of its path meet the rows.
use Rattle.std.proofs.Common.{◌≡◌, ◌≤◌, ℕ, List, refl, arith}
use Rattle.c_tree.specs.declared.program.Program.{Program}
use Rattle.c_tree.specs.declared.program.Costs.{Costs}
use Rattle.c_tree.specs.Keeping.WellFormed.{WellFormed}
use Rattle.c_tree.specs.Meaning.Claims.{Above, trace_cost}
use Rattle.flow_laws.specs.Graphs.{graph, edges}
use Rattle.flow_laws.specs.Paths.{price}
use Rattle.flow_laws.specs.Claims.{IsDriven}
use Rattle.flow_laws.proofs.Runs.WellFormedPrograms.{to_path}
use Rattle.lin_rows.specs.declared.count_box.CountBox.{CountBox}
use Rattle.ipet_rows.specs.CapsBound.{caps_of_edges}
use Rattle.ipet_rows.specs.Counts.{edge_counts}
use Rattle.ipet_rows.specs.Optimum.{IpetOptimum}
use Rattle.ipet_rows.proofs.Counting.{driven_counted}
use Rattle.ipet_rows.proofs.Listed.{limits_ordered}

path_within : (p : Program) (t : Costs) (n : ℕ) (q : List ℕ) → WellFormed p → IpetOptimum p t n → IsDriven p q → price t (graph p) q ≤ n
path_within p t n q w optimum driven =
    let g = graph p in
    let within : CountBox = record { limits = caps_of_edges g (edges g); ordered = limits_ordered g (edges g) } in
    let counted = driven_counted p t within q w refl driven in
    omega (arith, counted.priced, optimum.above (edge_counts p q) counted.met)

pub runs_within : (p : Program) (t : Costs) (n : ℕ) → WellFormed p → IpetOptimum p t n → Above p t n
runs_within p t n w optimum = record {
  each = λ i u fits ended. (let d = to_path p t i (trace_cost t u) w (u, ended, refl) in omega (arith, d.2, path_within p t n d.0 w optimum (i, fits, d.1)));
}
