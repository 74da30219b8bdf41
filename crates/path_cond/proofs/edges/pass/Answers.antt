use Rattle.std.proofs.Common.{◌≡◌, ◌<◌, Some, length, sym, subst}
use Rattle.std.specs.Prelude.{slice_get}
use Rattle.flow_laws.specs.Graphs.{graph}
use Rattle.flow_graph.specs.Plans.{Planned}
use Rattle.node_contents.specs.Contents.{content_of, contents}
use Rattle.path_cond.specs.Memories.{memory_of}
use Rattle.path_cond.proofs.EdgeRuns.{source_in, small_at, passed_by}
use Rattle.path_cond.proofs.edges.pass.Goals as goal

pub of-requires : goal.of-requires
of-requires c =
    let e = c.edge-edge.result.now in
    subst (λ (y : Planned). e.from < length (graph y.program)) (sym c.requires.same) (source_in c.args.plan.now.program c.args.edge e c.program.ensures.formed c.edge-edge.ensures)

pub act-requires-clause-small : goal.act-requires-clause-small
act-requires-clause-small c =
    let e = c.edge-edge.result.now in
    let does = subst (λ (y : Planned). slice_get (contents (graph y.program)) e.from ≡ Some (content_of c.of.result)) c.requires.same c.of.ensures in
    small_at c.args.plan.now.program e.from (content_of c.of.result) c.program.ensures.formed does

pub returns : goal.returns
returns c =
    let e = c.edge-edge.result.now in
    let does = subst (λ (y : Planned). slice_get (contents (graph y.program)) e.from ≡ Some (content_of c.of.result)) c.requires.same c.of.ensures in
    passed_by _ _ (graph c.args.plan.now.program) c.args.edge e (content_of c.of.result) (memory_of c.args.memory.now) _ c.edge-edge.ensures does c.act.result c.act.ensures
