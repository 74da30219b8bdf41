-- The theorems for well-formed programs.
use Rattle.std.proofs.Common.{◌≡◌, ◌≤◌, ℕ, ◌*◌, List, Some}
use Rattle.std.specs.Prelude.{slice_get}
use Rattle.c_tree.specs.declared.program.Program.{Program}
use Rattle.c_tree.specs.declared.program.Input.{Input}
use Rattle.c_tree.specs.declared.program.Costs.{Costs}
use Rattle.c_tree.specs.Keeping.WellFormed.{WellFormed}
use Rattle.flow_laws.specs.declared.graph.Edge.{Edge}
use Rattle.flow_laws.specs.declared.graph.Loop.{Loop}
use Rattle.flow_laws.specs.Graphs.{graph, edges, loops}
use Rattle.flow_laws.specs.Paths.{edge_count, total, leaving_count, arriving_count, cap_of, most_turns}
use Rattle.flow_laws.specs.Claims.{EndsAt, DrivesPath, DrivesAt}
use Rattle.flow_laws.proofs.Caps.DoBoundsPositive.{program_fair}
use Rattle.flow_laws.proofs.Runs.RunsAreDrivenPaths.{run_to_path, path_to_run}
use Rattle.flow_laws.proofs.Counts.ListsConserved.{path_entry, path_nodes}
use Rattle.flow_laws.proofs.Loops.LoopsBounded.{kept_rows}
use Rattle.flow_laws.proofs.Caps.KeptListsWithinCaps.{kept_capped}

pub to_path : (p : Program) (t : Costs) (i : Input) (n : ℕ) → WellFormed p → EndsAt p t i n → DrivesAt p t i n
to_path p t i n h = run_to_path p t i n (program_fair p h)

pub to_run : (p : Program) (t : Costs) (i : Input) (n : ℕ) → WellFormed p → DrivesAt p t i n → EndsAt p t i n
to_run p t i n h = path_to_run p t i n (program_fair p h)

-- what holds of each path that keeps the bounds holds of those that are driven

pub capped : (p : Program) (i : Input) (q : List ℕ) → WellFormed p → DrivesPath p i q → (j : ℕ) (e : Edge) → slice_get (edges (graph p)) j ≡ Some e → edge_count q j ≤ cap_of (slice_get (graph p) e.from)
capped p i q h d = kept_capped p q h d.path d.drives.keeps

pub turned : (p : Program) (i : Input) (q : List ℕ) → WellFormed p → DrivesPath p i q → (k : ℕ) (l : Loop) → slice_get (loops (graph p)) k ≡ Some l → edge_count q l.turn ≤ most_turns l * total q l.into
turned p i q h d = kept_rows p q d.path d.drives.keeps

pub entered : (p : Program) (i : Input) (q : List ℕ) → WellFormed p → DrivesPath p i q → edge_count q 0 ≡ 1
entered p i q h d = path_entry p q h d.path

pub passed : (p : Program) (i : Input) (q : List ℕ) → WellFormed p → DrivesPath p i q → (n : ℕ) → 2 ≤ n → leaving_count (edges (graph p)) q n ≡ arriving_count (edges (graph p)) q n
passed p i q h d = path_nodes p q d.path
