use Rattle.graph_lists.proofs.Steps.{loop_step, count_step}
use Rattle.graph_lists.proofs.joints.loops_of.Goals as goal

pub loop-spot-preserved : goal.loop-spot-preserved
loop-spot-preserved c =
    let l = c.loop-spot in
    record {
      all = loop_step c.args.edges.now c.args.spots.now l.spot-index c.spot-item.result l.loops c.push_loop.new.loops _ l.first c.outs-first.result 0 c.loop-spot-test.true c.spot-item.is c.in_ok-push_loop.ensures c.outs-first.ensures l.invariant.all;
      count = count_step c.args.spots.now l.spot-index c.spot-item.result l.first c.outs-first.result _ c.loop-spot-test.true c.spot-item.is c.outs-first.ensures l.invariant.count;
    }
