use Rattle.std.proofs.Common.{◌∙◌, ◌++◌, ◌∷◌, [], ap}
use Rattle.graph_lists.proofs.Steps.{count_step, outs_step}
use Rattle.graph_lists.proofs.onward.outs_by_node.Goals as goal

pub loop-spot-preserved : goal.loop-spot-preserved
loop-spot-preserved c =
    let l = c.loop-spot in
    record {
      whole = outs_step c.args.spots.now l.spot-index c.spot-item.result l.all c.push.new.self _ l.first c.outs-first.result c.loop-spot-test.true c.spot-item.is (c.in_ok-push.ensures.ok ∙ ap (λ o. l.all ++ o ∷ []) c.outs_from.ensures) c.outs-first.ensures l.invariant.whole;
      count = count_step c.args.spots.now l.spot-index c.spot-item.result l.first c.outs-first.result _ c.loop-spot-test.true c.spot-item.is c.outs-first.ensures l.invariant.count;
    }
