use Rattle.std.proofs.Common.{◌∙◌, ◌≡◌, ap, sym, subst, true}
use Rattle.std.specs.List.{list_all}
use Rattle.flow_laws.specs.Graphs.{graph, edges, loops}
use Rattle.flow_graph.specs.Plans.{Planned, keeps_all}
use Rattle.graph_lists.specs.Touches.{are_low, is_kept_by, none_entered}
use Rattle.flow_graph.proofs.Measured.{limits}
use Rattle.graph_lists.proofs.Touched.{all_low, few_loops, kept_is}
use Rattle.flow_graph.proofs.graph.Plan.keeps.Goals as goal

pub keeps_all-requires : goal.keeps_all-requires
keeps_all-requires c =
    let g = graph c.self.inside.program in
    let few = few_loops g (limits g c.self.invariant.allowed).edges in
    subst (λ t. list_all are_low t ≡ true) (sym (c.as_slice.ensures ∙ c.self.invariant.touches_are)) (all_low (loops g) 0 (edges g) few)

pub returns : goal.returns
returns c =
    let p = c.self.inside.program in
    let list = c.args.list.now in
    let v = ap (λ (y : Planned). y.program) c.self.view_is in
    c.keeps_all.ensures ∙ ap (λ t. is_kept_by t none_entered list) (c.as_slice.ensures ∙ c.self.invariant.touches_are) ∙ kept_is (loops (graph p)) (edges (graph p)) list ∙ ap (λ q. keeps_all (graph q) list) v
