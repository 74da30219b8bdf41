-- What a search keeps.
use Rattle.std.specs.Prelude.{◌≡◌, ℕ, ◌≤◌, ℤ, List, length, take, All}
use Rattle.cnf_form.specs.declared.log.LogLine.{LogLine}
use Rattle.cnf_form.specs.declared.cnf.Cnf.{Cnf}
use Rattle.rup_check.specs.Accepted.{clauses_of}
use Rattle.search_tables.specs.declared.watches.Pair.{Pair}
use Rattle.search_tables.specs.Trail.{Trail}
use Rattle.sat_search.specs.Sound.{IsSound}
use Rattle.search_tables.specs.Watching.{IsWatching}
use Rattle.sat_search.specs.Guarded.{AreGuarded}
use Rattle.sat_search.specs.Working.{IsWorking}

-- the lines are worked; the table has the clauses that are known; each literal of the trail is a decision or has a
-- reason; the clauses are watched, so that what was true at the end of each level before the last is closed; and of
-- the literals of the trail the first ones, up to `head`, were propagated
pub record IsHeld (cnf : Cnf) (lines : List LogLine) (table : List (List ℤ)) (trail : Trail) (starts : List ℕ)
    (pairs : List Pair) (lists : List (List ℕ)) (head : ℕ) : Type 0 where
  pub working : IsWorking cnf lines
  pub stored : table ≡ clauses_of cnf lines
  pub variables : trail.variables ≡ cnf.variables
  pub sound : IsSound (clauses_of cnf lines) trail starts
  pub counted : length pairs ≡ length (clauses_of cnf lines)
  pub watching : IsWatching cnf.variables pairs lists
  pub levels : All (λ s. AreGuarded (clauses_of cnf lines) pairs (take s trail.literals) (take s trail.literals)) starts
  pub reached : head ≤ length trail.literals
  pub guarded : AreGuarded (clauses_of cnf lines) pairs (take head trail.literals) trail.literals
