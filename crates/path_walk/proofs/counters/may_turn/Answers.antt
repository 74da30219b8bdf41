use Rattle.std.proofs.Common.{length}
use Rattle.flow_laws.specs.Graphs.{graph, loops}
use Rattle.path_walk.proofs.Counting.{all_below, may_turn_is}
use Rattle.path_walk.proofs.counters.may_turn.Goals as goal

pub may_touch_each-requires : goal.may_touch_each-requires
may_touch_each-requires c =
    all_below (loops (graph c.args.plan.now.program)) c.args.e (length c.args.left.now) c.touches.result.now c.touches.ensures c.requires.loops

pub returns : goal.returns
returns c =
    may_turn_is (loops (graph c.args.plan.now.program)) c.args.e c.touches.result.now c.args.left.now c.may_touch_each.result c.touches.ensures c.may_touch_each.ensures
