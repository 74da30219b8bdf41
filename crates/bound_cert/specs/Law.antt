-- Weak duality.
use Rattle.std.specs.Prelude.{◌≡◌, ℕ, ℤ, pos, ◌≤ℤ◌, List, length, All}
use Rattle.lin_rows.specs.Meeting.{Meets}
use Rattle.lin_rows.specs.Vectors.{cost, IsInBox}
use Rattle.lin_rows.specs.declared.count_box.CountBox.{CountBox}
use Rattle.lin_rows.specs.declared.multipliers.Multipliers.{Multipliers}
use Rattle.lin_rows.specs.declared.objective.Objective.{Objective}
use Rattle.lin_rows.specs.declared.row.Rows.{Rows}
use Rattle.bound_cert.specs.Dual.{reduced_costs, dual, dual_of_rows}
use Rattle.bound_cert.specs.Fitting.{FitsRows}

-- every vector in the box that meets the rows costs at most v
abbrev pub IsBound : Rows → Objective → CountBox → ℤ → Type 0
IsBound rows objective within v =
    (x : List ℕ) → IsInBox within x → Meets rows x → pos (cost objective x) ≤ℤ v

-- the objective and the box have one entry per edge of the rows
pub record HaveEntries (rows : Rows) (objective : Objective) (within : CountBox) : Type 0 where
  pub costs : length objective.costs ≡ rows.edges
  pub limits : length within.limits ≡ rows.edges

-- weak duality: the dual value of multipliers that fit is a bound
abbrev pub WeakDuality : Type 0
WeakDuality =
    (rows : Rows) (objective : Objective) (within : CountBox) (by : Multipliers) → HaveEntries rows objective within
    → FitsRows rows by → IsBound rows objective within (dual rows objective within by)

-- ---- without a box

-- the rows take at least d times its cost from each edge: no reduced cost is positive
abbrev pub CoversCosts : Rows → Objective → Multipliers → Type 0
CoversCosts rows objective by = All (λ r. r ≤ℤ pos 0) (reduced_costs rows by 0 objective.costs)

-- each least count is 0
abbrev pub BeginsAtZero : CountBox → Type 0
BeginsAtZero within = All (λ limit. limit.0 ≡ 0) within.limits

-- every vector of one count per edge that meets the rows costs at most v
abbrev pub IsBoundOfAll : Rows → Objective → ℤ → Type 0
IsBoundOfAll rows objective v =
    (x : List ℕ) → length x ≡ rows.edges → Meets rows x → pos (cost objective x) ≤ℤ v

-- the dual value of multipliers that cover the costs is the same over every box from 0 on: that of the rows alone
abbrev pub DualOfCovered : Type 0
DualOfCovered =
    (rows : Rows) (objective : Objective) (within : CountBox) (by : Multipliers) → BeginsAtZero within
    → CoversCosts rows objective by → dual rows objective within by ≡ dual_of_rows rows by

-- weak duality without a box: the dual value of the rows, of multipliers that fit and cover the costs, bounds all
-- vectors
abbrev pub WeakDualityWithoutBox : Type 0
WeakDualityWithoutBox =
    (rows : Rows) (objective : Objective) (by : Multipliers) → length objective.costs ≡ rows.edges → FitsRows rows by
    → CoversCosts rows objective by → IsBoundOfAll rows objective (dual_of_rows rows by)
