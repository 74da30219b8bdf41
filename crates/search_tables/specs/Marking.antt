-- Marked variables, and how marks grow.
use Rattle.std.specs.Prelude.{◌≡◌, ℕ, ◌<◌, ◌≤◌, ℤ, Bool, true, false, List, length, unsigned_abs}
use Rattle.std.specs.List.{slice_index_or}
use Rattle.search_tables.specs.declared.marks.Marks.{Marks}
use Rattle.search_tables.specs.Trail.{literal_at}

-- the variable of the literal is marked
abbrev pub IsSeen : List Bool → ℤ → Type 0
IsSeen seen l = slice_index_or seen (unsigned_abs l) false ≡ true

-- no marked variable stands at a place from `from` on and before `low`
abbrev pub IsLow : List ℤ → List Bool → ℕ → ℕ → Type 0
IsLow literals seen from low = (p : ℕ) → from ≤ p → p < length literals → IsSeen seen (literal_at literals p) → low ≤ p

-- the new marks have the old ones, and `low` is kept over a trail
pub record MarksMore (literals : List ℤ) (old new : Marks) : Type 0 where
  pub sized : length new.seen.items ≡ length old.seen.items
  pub from : new.from ≡ old.from
  pub lower : new.low ≤ old.low
  pub above : old.from ≤ old.low → new.from ≤ new.low
  pub grows : (l : ℤ) → IsSeen old.seen.items l → IsSeen new.seen.items l
  pub low : IsLow literals old.seen.items old.from old.low → IsLow literals new.seen.items new.from new.low
