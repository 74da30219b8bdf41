use Rattle.std.proofs.Common.{◌∙◌, ◌<◌, ap, sym, subst, length, arith}
use Rattle.flow_laws.specs.Graphs.{graph, edges, loops}
use Rattle.flow_graph.specs.Plans.{Planned}
use Rattle.graph_lists.specs.Touches.{touches_of}
use Rattle.graph_lists.proofs.Touched.{table_long, row_is}
use Rattle.flow_graph.proofs.graph.Plan.touches.Goals as goal

pub bounds-as_slice-e : goal.bounds-as_slice-e
bounds-as_slice-e c =
    let p = c.self.inside.program in
    let v = ap (λ (y : Planned). y.program) c.self.view_is in
    let lt : c.args.e < length (edges (graph p)) = subst (λ q. c.args.e < length (edges (graph q))) (sym v) c.requires in
    omega (arith, lt, ap length (c.as_slice.ensures ∙ c.self.invariant.touches_are), table_long (loops (graph p)) 0 (edges (graph p)))

pub returns : goal.returns
returns c =
    let p = c.self.inside.program in
    let e = c.args.e in
    let v = ap (λ (y : Planned). y.program) c.self.view_is in
    let lt : e < length (edges (graph p)) = subst (λ q. e < length (edges (graph q))) (sym v) c.requires in
    c.as_slice-2.ensures ∙ row_is (loops (graph p)) (edges (graph p)) c.as_slice.result.now e c.index-as_slice-e.result (c.as_slice.ensures ∙ c.self.invariant.touches_are) lt c.index-as_slice-e.is ∙ ap (λ q. touches_of 0 (loops (graph q)) e) v
