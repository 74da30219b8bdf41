use Rattle.std.proofs.Common.{◌<◌, length, arith, rules, FitsSigned}
use Rattle.std.specs.Int.{w128}
use Rattle.std.proofs.lemmas.Int.{to_z-of_z}
use Rattle.flow_laws.specs.Graphs.{graph, edges}
use Rattle.ipet_rows.specs.FlowRows.{terms, loop_factor}
use Rattle.ipet_rows.proofs.Listed.{next_number}
use Rattle.ipet_rows.proofs.building.loop_row.Goals as goal

pub loop-e-preserved : goal.loop-e-preserved
loop-e-preserved c =
    let es = edges (graph c.args.plan.now.program) in
    let f = loop_factor c.args.l.now in
    let below : c.loop-e.e < length es = omega (arith, c.loop-e-test.true, c.edges-e-end.ensures.count) in
    let fits : FitsSigned w128 c.turn_factor.result = search rules in
    let more = simp to_z-of_z at c.in_ok-push_term.ensures in
    next_number f es c.loop-e.e c.turn_factor.result c.loop-e.terms c.push_term.new.terms (terms f 0 es) below (λ e. c.turn_factor.ensures) more c.loop-e.invariant
