use Rattle.std.proofs.Common.{ℕ, ◌<◌}
use Rattle.run_laws.proofs.CostRows.{SmallAt}
use Rattle.run_laws.proofs.costs.costs_are_small.Given as goal

abbrev pub invariant-loop-row : goal.invariant-loop-row
invariant-loop-row l = (i : ℕ) → i < l.row-index → SmallAt l.rows i
