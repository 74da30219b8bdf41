-- What leaves the second part is no more than what leaves both.
use Rattle.std.proofs.Common.{arith, ap}
use Rattle.peak_laws.specs.Flows.{whole}
use Rattle.ipet_peak.specs.Trees.{amount_targets}
use Rattle.ipet_peak.proofs.TreeLayers.{small_ways}
use Rattle.ipet_peak.proofs.PushedFlows.{then_most}
use Rattle.ipet_peak.proofs.flows.then_shares.Goals as goal

pub then_second-second-requires-clause-v : goal.then_second-second-requires-clause-v
then_second-second-requires-clause-v c = small_ways _ _ _ c.dearest_ways-v.ensures (omega (arith, c.requires.first))

pub then_second-second-requires-clause-w : goal.then_second-second-requires-clause-w
then_second-second-requires-clause-w c = small_ways _ _ _ c.dearest_ways-w.ensures (omega (arith, c.requires.second))

pub whole-requires : goal.whole-requires
whole-requires c =
    omega (arith, then_most c.dearest_ways-v.result c.dearest_ways-w.result (amount_targets c.args.left), ap whole c.then_second-second.ensures, c.requires.left)

pub then_first-first-requires-clause-v : goal.then_first-first-requires-clause-v
then_first-first-requires-clause-v c = small_ways _ _ _ c.dearest_ways-v.ensures (omega (arith, c.requires.first))

pub then_first-first-requires-clause-w : goal.then_first-first-requires-clause-w
then_first-first-requires-clause-w c = small_ways _ _ _ c.dearest_ways-w.ensures (omega (arith, c.requires.second))
