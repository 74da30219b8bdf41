use Rattle.std.proofs.Common.{arith, below_more, subst}
use Rattle.run_laws.proofs.CostRows.{SmallAt, all_small, small_row}
use Rattle.run_laws.proofs.costs.costs_are_small.Goals as goal

pub returns : goal.returns
returns c =
    λ b. subst (λ rows. SmallAt rows b.func) c.as_slice-rows.ensures (all_small c.as_slice-rows.result.now (λ i lt. c.loop-row.invariant i (omega (arith, lt))) b.func) b.number

pub loop-row-preserved : goal.loop-row-preserved
loop-row-preserved c =
    below_more _ _ c.loop-row.invariant (small_row c.as_slice-rows.result.now c.loop-row.row-index c.row-item.result c.as_slice.result.now c.loop-row-test.true c.row-item.is c.as_slice.ensures c.row_is_small.ensures)
