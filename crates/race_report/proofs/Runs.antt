-- What holds of the driven paths of a plan holds of its runs.
use Rattle.std.proofs.Common.{◌≡◌, ◌≤◌, ℕ, List, Option, Some, None, refl, arith, IsTrue}
use Rattle.c_tree.specs.declared.program.BlockName.{BlockName}
use Rattle.c_tree.specs.declared.program.Input.{Input}
use Rattle.c_tree.specs.Meaning.Runs.{Ended, fits, run}
use Rattle.c_tree.specs.Meaning.Claims.{trace_cost}
use Rattle.c_tree.specs.Keeping.WellFormed.{WellFormed}
use Rattle.flow_laws.specs.Claims.{IsDriven}
use Rattle.flow_laws.proofs.Runs.WellFormedPrograms.{to_path, to_run}
use Rattle.flow_graph.specs.Plans.{Planned}
use Rattle.race_item.specs.Items.{list_cost}
use Rattle.board_core.specs.Kept.{DrivesBest, HasBest}
use Rattle.board_core.specs.Showing.{IsNotAbove}
use Rattle.race_report.specs.Claims.{IsReached, Bounds, MayBeReached}

-- a run of a fitting input that ends drives a path of its cost
abbrev PathOf : Planned → ℕ → Type 0
PathOf plan n = (q : List ℕ) × IsDriven plan.program q × (list_cost plan q ≡ n)

run_path : (plan : Planned) (i : Input) (u : List BlockName) → WellFormed plan.program → IsTrue (fits plan.program i) → run plan.program i ≡ Ended u → PathOf plan (trace_cost plan.costs u)
run_path plan i u formed fit ended =
    let at = to_path plan.program plan.costs i (trace_cost plan.costs u) formed (u, ended, refl) in
    (at.0, (i, fit, at.1), at.2)

pub bounds_hold : (plan : Planned) (b : Option ℕ) → WellFormed plan.program → ((q : List ℕ) → IsDriven plan.program q → IsNotAbove (Some (list_cost plan q)) b) → Bounds plan.program plan.costs b
bounds_hold plan None formed above = record {
  none = λ i u fit ended. let path = run_path plan i u formed fit ended in above path.0 path.1;
}
bounds_hold plan (Some n) formed above = record {
  each = λ i u fit ended.
      let path = run_path plan i u formed fit ended in
      let le : list_cost plan path.0 ≤ n = above path.0 path.1 in
      let same = path.2 in
      omega (arith, le, same);
}

best_ends : (plan : Planned) (n : ℕ) (input : Option Input) → WellFormed plan.program → DrivesBest plan (Some n) input → IsReached plan.program plan.costs n
best_ends plan n None formed drives = absurd drives
best_ends plan n (Some i) formed drives = record { input = i; fitting = drives.0; ends = to_run plan.program plan.costs i n formed drives.1 }

pub best_reached : (plan : Planned) (best : Option ℕ) → WellFormed plan.program → HasBest plan best → MayBeReached plan.program plan.costs best
best_reached plan None formed has = tt
best_reached plan (Some n) formed has = best_ends plan n has.0 formed has.1
