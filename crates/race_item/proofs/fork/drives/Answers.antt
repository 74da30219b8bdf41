use Rattle.flow_laws.specs.Graphs.{graph, edges}
use Rattle.race_item.proofs.Named.{all_named}
use Rattle.race_item.proofs.fork.drives.Goals as goal

pub weight-requires : goal.weight-requires
weight-requires c = all_named (edges (graph c.args.plan.now.program)) c.args.list.now c.requires
