use Rattle.std.proofs.Common.{◌<◌, ◌++◌, ◌∷◌, [], length, arith, ap, ◌∙◌}
use Rattle.flow_laws.specs.Graphs.{graph, edges}
use Rattle.ipet_rows.specs.CapsBound.{costs_of_edges}
use Rattle.ipet_rows.proofs.Listed.{next_cost}
use Rattle.ipet_rows.proofs.building.edge_costs.Goals as goal

pub loop-e-preserved : goal.loop-e-preserved
loop-e-preserved c =
    let t = c.args.plan.now.costs in
    let g = graph c.args.plan.now.program in
    let below : c.loop-e.e < length (edges g) = omega (arith, c.loop-e-test.true, c.edges-e-end.ensures.count) in
    let more = c.in_ok-push.ensures.ok ∙ ap (λ n. c.loop-e.costs ++ n ∷ []) c.cost.ensures.value in
    next_cost t g (edges g) c.loop-e.e c.loop-e.costs c.push.new.self (costs_of_edges t g (edges g)) below more c.loop-e.invariant
