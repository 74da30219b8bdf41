-- Visits of the clauses that watch a literal.
use Rattle.std.specs.Prelude.{◌≡◌, ◌≢◌, ◌⊎◌, ℕ, ◌+◌, ◌<◌, ◌≤◌, ℤ, List, length}
use Rattle.std.specs.List.{slice_index_or}
use Rattle.rup_check.specs.Trail.{IsWithin}
use Rattle.cnf_form.specs.declared.cnf.Cnf.{Cnf}
use Rattle.rup_check.specs.Follows.{IsFalse}
use Rattle.rup_check.specs.Accepted.{clauses_of}
use Rattle.sat_search.specs.declared.search.Search.{Search}
use Rattle.sat_search.specs.declared.propagate.Visit.{Visit}
use Rattle.sat_search.specs.declared.propagate.Visit.TheVariants.{Stays, Moved, Conflict}
use Rattle.search_tables.specs.Trail.{literal_at}
use Rattle.sat_search.specs.Sound.{IsKnownAnd}
use Rattle.search_tables.specs.Entries.{list_of}
use Rattle.search_tables.specs.Watching.{pair_at, IsProper}
use Rattle.sat_search.specs.Guarded.{IsPassing}
use Rattle.sat_search.specs.Held.{IsHeld}

abbrev pub Holds : Cnf → Search → Type 0
Holds cnf s = IsHeld cnf s.lines.items s.known s.trail s.starts.items s.watches.pairs.items s.watches.lists.items s.head

abbrev pub known_by : Cnf → Search → List (List ℤ)
known_by cnf s = clauses_of cnf s.lines.items

abbrev pub watchers : Search → ℤ → List ℕ
watchers s l = list_of s.watches.lists.items l

abbrev pub Passes : Cnf → Search → ℤ → ℕ → Type 0
Passes cnf s falsified i = IsPassing (known_by cnf s) s.watches.pairs.items s.watches.lists.items s.trail.literals
    falsified i

-- the clause at a place in the list of a literal that became false, and the other literal that it watches
pub record IsVisited (cnf : Cnf) (s : Search) (falsified : ℤ) (at number : ℕ) (other : ℤ) : Type 0 where
  pub entry : number ≡ slice_index_or (watchers s falsified) at 0
  pub known : number < length (known_by cnf s)
  pub proper : IsProper s.watches.pairs.items number
  pub stays : (other ≡ (pair_at s.watches.pairs.items number).one)
      ⊎ (other ≡ (pair_at s.watches.pairs.items number).other)
  pub away : other ≢ falsified
  pub within : IsWithin s.trail.variables other
  pub falsified_within : IsWithin cnf.variables falsified

-- only the trail has grown, and watches have moved
pub record Extends (old new : Search) : Type 0 where
  pub lines : new.lines ≡ old.lines
  pub starts : new.starts ≡ old.starts
  pub head : new.head ≡ old.head
  pub longer : length old.trail.literals ≤ length new.trail.literals
  pub at_head : literal_at new.trail.literals old.head ≡ literal_at old.trail.literals old.head

-- a known clause is false
abbrev pub IsConflict : Cnf → Search → ℕ → Type 0
IsConflict cnf s number = IsKnownAnd (known_by cnf s) number (λ literals. IsFalse s.trail.literals literals)

-- the clause that was visited is satisfied, or watches another literal, or is false
abbrev pub VisitSays : Cnf → Search → Search → ℤ → ℕ → Visit → Type 0
VisitSays cnf old new falsified at Stays = Passes cnf new falsified (at + 1) × (length (watchers new falsified)
    ≡ length (watchers old falsified))
VisitSays cnf old new falsified at Moved = Passes cnf new falsified at × (length (watchers new falsified) + 1
    ≡ length (watchers old falsified))
VisitSays cnf old new falsified at (Conflict number) = IsConflict cnf new number
