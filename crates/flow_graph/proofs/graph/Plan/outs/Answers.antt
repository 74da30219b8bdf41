use Rattle.std.proofs.Common.{◌∙◌, ◌<◌, ap, sym, subst, length, arith}
use Rattle.std.specs.Prelude.{slice_index_or}
use Rattle.flow_laws.specs.Graphs.{graph, edges}
use Rattle.graph_lists.specs.Leaving.{AreOuts}
use Rattle.flow_graph.specs.Plans.{Planned}
use Rattle.graph_lists.specs.declared.onward.Outs.TheVariants.{Nowhere}
use Rattle.flow_graph.proofs.Leaving.{table_long, table_index}
use Rattle.flow_graph.proofs.graph.Plan.outs.Goals as goal

pub bounds-as_slice-n : goal.bounds-as_slice-n
bounds-as_slice-n c =
    let p = c.self.inside.program in
    let v = ap (λ (y : Planned). y.program) c.self.view_is in
    let lt : c.args.n < length (graph p) = subst (λ q. c.args.n < length (graph q)) (sym v) c.requires in
    omega (arith, lt, ap length (c.as_slice.ensures ∙ c.self.invariant.outs_are), table_long 0 (graph p))

pub returns : goal.returns
returns c =
    let p = c.self.inside.program in
    let n = c.args.n in
    let v = ap (λ (y : Planned). y.program) c.self.view_is in
    let lt : n < length (graph p) = subst (λ q. n < length (graph q)) (sym v) c.requires in
    let xs = c.as_slice.result.now in
    subst (λ q. AreOuts (edges (graph q)) n (slice_index_or xs n Nowhere)) v (table_index (graph p) xs n lt (c.as_slice.ensures ∙ c.self.invariant.outs_are))
