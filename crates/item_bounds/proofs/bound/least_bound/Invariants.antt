use Rattle.std.proofs.Common.{◌≤◌, ℕ}
use Rattle.lin_rows.specs.declared.count_box.CountBox.{CountBox}
use Rattle.ipet_rows.specs.Sound.{PlanRows}
use Rattle.item_bounds.specs.Bounds.{BoundsVectors}
use Rattle.item_bounds.proofs.bound.least_bound.Given as goal

-- a bound so far
pub record IsSoFar (rows : PlanRows) (within : CountBox) (most least : ℕ) : Type 0 where
  pub most_is : least ≤ most
  pub bounds : BoundsVectors rows within most least

abbrev pub invariant-loop-by : goal.invariant-loop-by
invariant-loop-by l = IsSoFar l.rows l.within l.most l.least
