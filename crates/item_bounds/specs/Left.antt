-- The vectors of counts that an item leaves: those in its box that are at least the counts of its prefix and meet the
-- rows.
use Rattle.std.specs.Prelude.{◌≤◌, ℕ, List, slice_get, IsSomeAnd, All}
use Rattle.c_tree.specs.declared.program.Program.{Program}
use Rattle.lin_rows.specs.Meeting.{MeetsRow}
use Rattle.lin_rows.specs.Vectors.{IsInBox as HasInBox}
use Rattle.lin_rows.specs.declared.count_box.CountBox.{CountBox}
use Rattle.ipet_rows.specs.Counts.{edge_counts}
use Rattle.ipet_rows.specs.Sound.{PlanRows}
use Rattle.race_item.specs.declared.region.Cut.{Cut}
use Rattle.race_item.specs.Regions.{IsInBox}
use Rattle.race_item.specs.Facts.{IsAtLeast}

-- the vector has a count of the edge, of at least so much, or of at most so much
abbrev pub HasLeast : List ℕ → ℕ → ℕ → Type 0
HasLeast x edge least = IsSomeAnd (slice_get x edge) (λ n. least ≤ n)

abbrev pub HasMost : List ℕ → ℕ → ℕ → Type 0
HasMost x edge most = IsSomeAnd (slice_get x edge) (λ n. n ≤ most)

-- the vector lies in the box of the cuts, is at least the counts of the prefix, and meets the rows
pub record IsLeft (rows : PlanRows) (cuts : List Cut) (prefix x : List ℕ) : Type 0 where
  pub inside : IsInBox rows.plan.program cuts x
  pub least : IsAtLeast x (edge_counts rows.plan.program prefix)
  pub meets : All (MeetsRow x) rows.rows

-- the box has each of them
abbrev pub HoldsLeft : PlanRows → List Cut → List ℕ → CountBox → Type 0
HoldsLeft rows cuts prefix within = (x : List ℕ) → IsLeft rows cuts prefix x → HasInBox within x

-- there is none
abbrev pub LeavesNone : PlanRows → List Cut → List ℕ → Type 0
LeavesNone rows cuts prefix = (x : List ℕ) → ¬ IsLeft rows cuts prefix x
