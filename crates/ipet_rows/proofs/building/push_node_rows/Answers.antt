use Rattle.std.proofs.Common.{◌<◌, ◌-◌, ◌++◌, ◌∷◌, [], length, arith, ap, ◌∙◌}
use Rattle.flow_laws.specs.Graphs.{graph, edges}
use Rattle.ipet_rows.specs.FlowRows.{node_rows}
use Rattle.ipet_rows.proofs.Listed.{next_node}
use Rattle.ipet_rows.proofs.building.push_node_rows.Goals as goal

pub loop-n-preserved : goal.loop-n-preserved
loop-n-preserved c =
    let g = graph c.args.plan.now.program in
    let below : c.loop-n.n < length g = omega (arith, c.loop-n-test.true, c.nodes-n-end.ensures) in
    let more = c.in_ok-push.ensures.ok ∙ ap (λ r. c.loop-n.rows ++ r ∷ []) c.in_ok-node_row.ensures in
    next_node (edges g) c.loop-n.n (length g) c.loop-n.rows c.push.new.self (c.args.rows.now ++ node_rows (edges g) 2 (length g - 2)) below more c.loop-n.invariant
