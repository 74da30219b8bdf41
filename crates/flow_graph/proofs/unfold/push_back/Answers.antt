use Rattle.std.proofs.Common.{[]}
use Rattle.flow_laws.specs.Graphs.{copies}
use Rattle.flow_graph.proofs.Layouts.Unfolded.{moved}
use Rattle.flow_graph.proofs.unfold.push_back.Goals as goal

pub items-preserved : goal.items-preserved
items-preserved c = moved (copies [] c.args.funcs.now) c.items.items c.pop.new.self c.items.todo c.push.new.self c.in-Some.item _ c.in-Some.ensures c.in_ok-push.ensures.ok c.items.invariant
