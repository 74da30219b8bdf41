use Rattle.std.proofs.Common.{[], ◌∙◌, ap}
use Rattle.flow_graph.specs.Layout.{outer_spot}
use Rattle.graph_lists.specs.declared.spot.Ends.TheVariants as ends
use Rattle.flow_laws.specs.Graphs.{copies}
use Rattle.flow_graph.proofs.Layouts.Unfolded.{begun, stepped, smaller}
use Rattle.flow_graph.proofs.unfold.lay_out.Goals as goal

pub nodes-init : goal.nodes-init
nodes-init c =
    let a = c.args in
    begun a.funcs.now a.sizes.now a.entry _ _ _ _ c.push_body.new.todo _ _ c.requires.sizes c.requires.entry c.requires.room c.new-out.ensures c.in_ok-push.ensures.ok (c.outermost.ensures ∙ ap (outer_spot ends.Once) c.first_node.ensures) c.in_ok-push-2.ensures.ok c.outermost-2.ensures c.new-todo.ensures c.in_ok-push_body.ensures

pub nodes-preserved : goal.nodes-preserved
nodes-preserved c =
    stepped (copies [] c.args.funcs.now) c.nodes.todo c.pop.new.self c.in-Some.item c.nodes.out c.step.new.out _ c.step.new.todo c.in-Some.ensures c.in_ok-step.ensures.items c.nodes.invariant

pub nodes-smaller : goal.nodes-smaller
nodes-smaller c =
    smaller c.nodes.out c.step.new.out _ _ c.in_ok-step.ensures.more (stepped (copies [] c.args.funcs.now) c.nodes.todo c.pop.new.self c.in-Some.item c.nodes.out c.step.new.out _ c.step.new.todo c.in-Some.ensures c.in_ok-step.ensures.items c.nodes.invariant)
