use Rattle.std.proofs.Common.{◌∙◌, sym, ap}
use Rattle.path_weight.specs.Capped.{capped_weight}
use Rattle.path_weight.proofs.Sums.{with_sixteen}
use Rattle.path_weight.proofs.Copies.{edge_named}
use Rattle.path_weight.proofs.lists.edge_weight.Goals as goal

pub returns-in-Some : goal.returns-in-Some
returns-in-Some c =
    with_sixteen _ c.block_weight.result _ c.saturating_add.ensures c.block_weight.ensures ∙ ap capped_weight (sym (edge_named c.args.plan.now.program c.program-program.result.now c.args.e c.edge.result.now c.node.result.now c.in-Some.name c.program-program.ensures.value c.edge.ensures c.node.ensures.value c.in-Some.is))
