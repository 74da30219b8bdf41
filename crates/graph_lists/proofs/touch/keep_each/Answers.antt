use Rattle.std.proofs.Common.{◌∙◌}
use Rattle.graph_lists.specs.Touches.{counters}
use Rattle.graph_lists.proofs.Touched.{keep_step}
use Rattle.graph_lists.proofs.touch.keep_each.Goals as goal

pub loop-touch-preserved : goal.loop-touch-preserved
loop-touch-preserved c =
    λ go. c.loop-touch.invariant go ∙ keep_step c.args.row.now c.loop-touch.touch-index _ (counters c.loop-touch.left) (counters c.keep.new.left) c.keep.result c.loop-touch-test.true c.keep.ensures c.if-not-keep.false go
