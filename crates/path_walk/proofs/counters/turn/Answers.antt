use Rattle.std.proofs.Common.{length}
use Rattle.flow_laws.specs.Graphs.{graph, loops}
use Rattle.path_walk.proofs.Counting.{all_below, are_on}
use Rattle.path_walk.proofs.counters.turn.Goals as goal

pub count_each-requires : goal.count_each-requires
count_each-requires c =
    all_below (loops (graph c.args.plan.now.program)) c.args.e (length c.args.left.now) c.touches.result.now c.touches.ensures c.requires.loops

pub returns : goal.returns
returns c =
    are_on (loops (graph c.args.plan.now.program)) c.args.e c.touches.result.now c.args.left.now c.count_each.new.left c.touches.ensures c.requires.loops c.count_each.ensures
