-- How a conflict is traced back along the trail.
use Rattle.std.specs.Prelude.{◌≡◌, ◌⊎◌, ℕ, ◌<◌, ◌≤◌, ℤ, Bool, List, length, take, All, Contains}
use Rattle.rup_check.specs.Follows.{Leads}
use Rattle.search_tables.specs.Trail.{literal_at}
use Rattle.search_tables.specs.Marking.{IsSeen}

-- a conflict was traced back to place i: the hints lead on to a false clause from whatever has the kept literals and
-- the marked ones before i, and nothing else from i on
pub record Traces (known : List (List ℤ)) (literals : List ℤ) (i : ℕ) (seen : List Bool) (kept : List ℤ)
    (hints : List ℕ) : Type 0 where
  pub above : (m : ℤ) → Contains kept m → (q : ℕ) × (i ≤ q) × (q < length literals) × (literal_at literals q ≡ m)
  pub leads : (made : List ℤ) → All (Contains made) kept → ((t : ℤ) → Contains (take i literals) t → IsSeen seen t
      → Contains made t) → All (λ m. Contains (take i literals) m ⊎ Contains kept m) made → Leads known made hints
