use Rattle.std.proofs.Common.{rules, FitsSigned}
use Rattle.std.specs.Int.{w128}
use Rattle.std.proofs.lemmas.Int.{to_z-of_z}
use Rattle.flow_laws.specs.Graphs.{graph, edges}
use Rattle.ipet_rows.specs.FlowRows.{terms, node_factor}
use Rattle.ipet_rows.proofs.Listed.{next_term}
use Rattle.ipet_rows.proofs.building.node_row.Goals as goal

pub loop-e-preserved : goal.loop-e-preserved
loop-e-preserved c =
    let es = edges (graph c.args.plan.now.program) in
    let f = node_factor c.args.n in
    let fits : FitsSigned w128 c.node_factor.result = search rules in
    let more = simp to_z-of_z at c.in_ok-push_term.ensures in
    next_term f es c.loop-e.e c.edge.result.now c.node_factor.result c.loop-e.terms c.push_term.new.terms (terms f 0 es) c.edge.ensures c.node_factor.ensures more c.loop-e.invariant
