use Rattle.std.proofs.Common.{◌∙◌, ◌<◌, ◌≤◌, ◌^◌, ap, sym, subst, get_or, length, Some}
use Rattle.std.specs.Prelude.{slice_get}
use Rattle.flow_laws.specs.Graphs.{graph, nodes}
use Rattle.flow_graph.specs.Plans.{Planned}
use Rattle.graph_lists.specs.declared.spot.Spot.{Spot}
use Rattle.flow_graph.proofs.Measured.{all_within, cap_at_most, entered, limits, node_at}
use Rattle.flow_graph.proofs.graph.Plan.node.Goals as goal

pub returns-clause-value : goal.returns-clause-value
returns-clause-value c =
    let p = c.self.inside.program in
    let n = c.args.n in
    let x = c.index-as_slice-n.result in
    let v = ap (λ (y : Planned). y.program) c.self.view_is in
    let l = limits (graph p) c.self.invariant.allowed in
    let lt : n < length (graph p) = subst (λ q. n < length (graph q)) (sym v) c.requires in
    let at = node_at (graph p) n x (all_within p (entered p c.self.invariant.formed.entry) l.caps) lt (c.index-as_slice-n.is ∙ ap (λ ys. get_or ys n x) (c.as_slice.ensures ∙ c.self.invariant.nodes_are)) in
    ap (λ q. slice_get (nodes (graph q)) n) (sym v) ∙ at ∙ ap (λ (y : Spot). Some y.node) c.index-as_slice-n.is

pub returns-clause-cap : goal.returns-clause-cap
returns-clause-cap c =
    let p = c.self.inside.program in
    let n = c.args.n in
    let x = c.index-as_slice-n.result in
    let v = ap (λ (y : Planned). y.program) c.self.view_is in
    let l = limits (graph p) c.self.invariant.allowed in
    let lt : n < length (graph p) = subst (λ q. n < length (graph q)) (sym v) c.requires in
    let most = cap_at_most (graph p) n x (all_within p (entered p c.self.invariant.formed.entry) l.caps) lt (c.index-as_slice-n.is ∙ ap (λ ys. get_or ys n x) (c.as_slice.ensures ∙ c.self.invariant.nodes_are)) in
    subst (λ (y : Spot). y.node.cap ≤ 2 ^ 40) c.index-as_slice-n.is most
