use Rattle.std.proofs.Common.{ap, sym, ◌∙◌, length}
use Rattle.flow_laws.specs.Graphs.{graph, edges}
use Rattle.item_bounds.proofs.bound.bound_by.Goals as goal
use Rattle.ipet_rows.proofs.Counting.{costs_long}

pub dual_bound-requires-clause-costs : goal.dual_bound-requires-clause-costs
dual_bound-requires-clause-costs c =
    let plan = c.args.rows.now.plan in
    ap length (c.objective.ensures.value ∙ c.objective.ensures.costs) ∙ costs_long plan.costs (graph plan.program) (edges (graph plan.program)) ∙ sym c.rows-2.ensures.edges
