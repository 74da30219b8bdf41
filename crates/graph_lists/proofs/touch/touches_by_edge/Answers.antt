use Rattle.std.proofs.Common.{◌∙◌, ◌++◌, ◌∷◌, [], ap}
use Rattle.graph_lists.proofs.Touched.{row_step}
use Rattle.graph_lists.proofs.touch.touches_by_edge.Goals as goal

pub loop-number-preserved : goal.loop-number-preserved
loop-number-preserved c =
    let l = c.loop-number in
    row_step c.args.loops.now c.args.edges.now l.number l.all c.push.new.self _ c.loop-number-test.true (c.in_ok-push.ensures.ok ∙ ap (λ o. l.all ++ o ∷ []) c.in_ok-touches_of.ensures) l.invariant
