-- What is claimed of a program's paths: they are its runs, an input drives one of them, and counts are bounded. This
-- project's own; the bounds on counts are those of implicit path enumeration (Li and Malik).
use Rattle.std.specs.Prelude.{◌≡◌, ℕ, List, ◌++◌, IsTrue}
use Rattle.c_tree.specs.declared.program.BlockName.{BlockName}
use Rattle.c_tree.specs.declared.program.Program.{Program}
use Rattle.c_tree.specs.declared.program.Input.{Input}
use Rattle.c_tree.specs.declared.program.Costs.{Costs}
use Rattle.c_tree.specs.Meaning.Runs.{Ended, fits, run}
use Rattle.c_tree.specs.Meaning.Claims.{trace_cost}
use Rattle.flow_laws.specs.Graphs.{graph, edges}
use Rattle.flow_laws.specs.Paths.{IsPath, price}
use Rattle.flow_laws.specs.Driving.{Drives}

-- the run of the input ends, and costs n
abbrev pub EndsAt : Program → Costs → Input → ℕ → Type 0
EndsAt p t i n = (u : List BlockName) × (run p i ≡ Ended u) × (trace_cost t u ≡ n)

-- the input drives a path
pub record DrivesPath (p : Program) (i : Input) (q : List ℕ) : Type 0 where
  pub path : IsPath (edges (graph p)) q
  pub drives : Drives p i q

-- a driven path: some fitting input drives it
abbrev pub IsDriven : Program → List ℕ → Type 0
IsDriven p q = (i : Input) × IsTrue (fits p i) × DrivesPath p i q

-- a driven list: some fitting input drives it
abbrev pub IsDrivenList : Program → List ℕ → Type 0
IsDrivenList p q = (i : Input) × IsTrue (fits p i) × Drives p i q

-- the input drives a path of price n
abbrev pub DrivesAt : Program → Costs → Input → ℕ → Type 0
DrivesAt p t i n = (q : List ℕ) × DrivesPath p i q × (price t (graph p) q ≡ n)

-- the list q begins with p
abbrev pub Begins : List ℕ → List ℕ → Type 0
Begins p q = (r : List ℕ) × (q ≡ p ++ r)
