use Rattle.std.proofs.Common.{arith}
use Rattle.flow_laws.specs.Graphs.{graph, edges, loops}
use Rattle.path_walk.proofs.Counting.{along_next, along_all}
use Rattle.path_walk.proofs.counters.counters.Goals as goal
use Rattle.flow_laws.proofs.NamedEdges.{edge_at}

pub turn-requires-clause-edge : goal.turn-requires-clause-edge
turn-requires-clause-edge c =
    edge_at (edges (graph c.args.plan.now.program)) c.args.list.now c.loop-e.e-index c.requires c.loop-e-test.true

pub loop-e-preserved : goal.loop-e-preserved
loop-e-preserved c =
    along_next (loops (graph c.args.plan.now.program)) c.args.list.now c.loop-e.left c.turn.new.left c.loop-e.e-index c.loop-e-test.true c.loop-e.invariant c.turn.ensures

pub returns : goal.returns
returns c =
    along_all (loops (graph c.args.plan.now.program)) c.args.list.now c.loop-e.left c.loop-e.e-index (omega (arith, c.loop-e-test.false)) c.loop-e.invariant
