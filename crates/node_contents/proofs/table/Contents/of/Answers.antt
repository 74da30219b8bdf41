use Rattle.std.proofs.Common.{◌≡◌, ◌<◌, Some, length, subst}
use Rattle.std.specs.Prelude.{slice_get}
use Rattle.flow_laws.specs.Graphs.{graph, nodes}
use Rattle.flow_graph.specs.Plans.{Planned}
use Rattle.node_contents.specs.Contents.{content_of}
use Rattle.node_contents.proofs.Telling.{named_content, bare_node}
use Rattle.node_contents.proofs.table.Contents.of.Goals as goal

pub returns-in-Some : goal.returns-in-Some
returns-in-Some c =
    let n = c.args.n in
    let nd = c.node.result.now in
    let at = subst (λ (y : Planned). slice_get (nodes (graph y.program)) n ≡ Some nd) c.self.view_is c.node.ensures.value in
    named_content c.args.self.now.program n nd c.in-Some.block (content_of c.of_block.result) at c.in-Some.is c.of_block.ensures

pub returns-in-None : goal.returns-in-None
returns-in-None c =
    let n = c.args.n in
    let nd = c.node.result.now in
    let within = subst (λ (y : Planned). y.program.entry < length y.program.funcs) c.self.view_is c.program.ensures.formed.entry in
    let at = subst (λ (y : Planned). slice_get (nodes (graph y.program)) n ≡ Some nd) c.self.view_is c.node.ensures.value in
    bare_node c.args.self.now.program n nd (content_of c.of_bare.result) within at c.in-None.is c.of_bare.ensures
