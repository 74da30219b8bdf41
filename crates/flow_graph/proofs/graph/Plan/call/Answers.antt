use Rattle.std.proofs.Common.{◌∙◌, ◌<◌, ap, sym, subst, get_or, length, Some}
use Rattle.std.specs.Prelude.{slice_get}
use Rattle.flow_laws.specs.Graphs.{graph}
use Rattle.flow_graph.specs.Landings.{calls}
use Rattle.flow_graph.specs.Plans.{Planned}
use Rattle.graph_lists.specs.declared.spot.Spot.{Spot}
use Rattle.flow_graph.proofs.Layouts.Landed.{call_at}
use Rattle.flow_graph.proofs.graph.Plan.call.Goals as goal

pub returns : goal.returns
returns c =
    let p = c.self.inside.program in
    let n = c.args.n in
    let x = c.index-as_slice-n.result in
    let v = ap (λ (y : Planned). y.program) c.self.view_is in
    let lt : n < length (graph p) = subst (λ q. n < length (graph q)) (sym v) c.requires in
    let at = call_at (graph p) n x lt (c.index-as_slice-n.is ∙ ap (λ ys. get_or ys n x) (c.as_slice.ensures ∙ c.self.invariant.nodes_are)) in
    ap (λ q. slice_get (calls (graph q)) n) (sym v) ∙ at ∙ ap (λ (y : Spot). Some y.call) c.index-as_slice-n.is
