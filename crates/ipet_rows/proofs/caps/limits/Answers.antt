use Rattle.std.proofs.Common.{◌<◌, ◌++◌, ◌∷◌, [], length, arith, ap, ◌∙◌}
use Rattle.flow_laws.specs.Graphs.{graph, edges}
use Rattle.ipet_rows.specs.CapsBound.{caps_of_edges}
use Rattle.ipet_rows.proofs.Listed.{next_limit}
use Rattle.ipet_rows.proofs.caps.limits.Goals as goal

pub loop-e-preserved : goal.loop-e-preserved
loop-e-preserved c =
    let g = graph c.args.plan.now.program in
    let below : c.loop-e.e < length (edges g) = omega (arith, c.loop-e-test.true, c.edges-e-end.ensures.count) in
    let more = c.in_ok-push.ensures.ok ∙ ap (λ n. c.loop-e.limits ++ (0, n) ∷ []) c.cap_at.ensures.value in
    next_limit g (edges g) c.loop-e.e c.loop-e.limits c.push.new.self (caps_of_edges g (edges g)) below more c.loop-e.invariant
