-- Bounds on what the driven paths of an item cost.
use Rattle.std.specs.Prelude.{◌≤◌, ℕ, List, All}
use Rattle.flow_laws.specs.Claims.{IsDriven}
use Rattle.lin_rows.specs.Meeting.{MeetsRow}
use Rattle.lin_rows.specs.Vectors.{cost_by, IsInBox as HasInBox}
use Rattle.lin_rows.specs.declared.count_box.CountBox.{CountBox}
use Rattle.ipet_rows.specs.Sound.{PlanRows}
use Rattle.race_item.specs.declared.region.Cut.{Cut}
use Rattle.race_item.specs.Regions.{region, Covers}
use Rattle.race_item.specs.Items.{list_cost}

-- where no vector of the box that meets the rows costs more than `most`, none costs more than the bound
abbrev pub BoundsVectors : PlanRows → CountBox → ℕ → ℕ → Type 0
BoundsVectors rows within most bound =
    (x : List ℕ) → HasInBox within x → All (MeetsRow x) rows.rows → cost_by rows.costs x ≤ most → cost_by rows.costs x
    ≤ bound

-- a driven path within the cuts that begins with the prefix and costs at most `most` costs at most the bound
abbrev pub BoundsDriven : PlanRows → List Cut → List ℕ → ℕ → ℕ → Type 0
BoundsDriven rows cuts prefix most bound =
    (q : List ℕ) → IsDriven rows.plan.program q → Covers rows.plan.program (region cuts prefix most) q
    → list_cost rows.plan q ≤ most → list_cost rows.plan q ≤ bound
