use Rattle.flow_laws.specs.Graphs.{graph, edges}
use Rattle.race_item.proofs.path.price.Goals as goal
use Rattle.flow_laws.proofs.NamedEdges.{edge_at}

pub cost-requires : goal.cost-requires
cost-requires c = edge_at (edges (graph c.args.plan.now.program)) c.args.list.now c.loop-e.e-index c.requires c.loop-e-test.true
