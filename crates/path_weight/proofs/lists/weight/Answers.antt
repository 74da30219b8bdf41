use Rattle.std.proofs.Common.{◌≡◌, ◌∙◌, length, sym, ap, arith}
use Rattle.flow_laws.specs.Graphs.{graph, edges}
use Rattle.cond_laws.specs.Weights.{weight}
use Rattle.path_weight.specs.Capped.{capped_weight}
use Rattle.path_weight.proofs.Counts.{by_counts, edge_at, sum_is}
use Rattle.path_weight.proofs.lists.weight.Goals as goal

pub returns : goal.returns
unfolding weight
returns c =
    let p = c.args.plan.now.program in
    let q = c.args.list.now in
    let all : c.loop-e.e ≡ length (edges (graph p)) = omega (arith, c.edges-e-end.ensures.count, c.edges-e-end.ensures.few) in
    c.loop-e.invariant ∙ ap (λ n. capped_weight (by_counts (edge_at p) q n)) all ∙ ap capped_weight (sym (sum_is p q (length (edges (graph p))) c.requires))
