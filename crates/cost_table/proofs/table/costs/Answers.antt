use Rattle.std.proofs.Common.{ap, subst, ◌∙◌}
use Rattle.std.proofs.lemmas.Result.{IfOk-weaker}
use Rattle.toml.specs.View.{table_view}
use Rattle.c_tree.specs.Meaning.Claims.{AreRowsOf}
use Rattle.c_tree.specs.Keeping.Programs.{Program}
use Rattle.cost_table.proofs.BlockCosts.{verdict_costs}
use Rattle.cost_table.proofs.table.costs.Goals as goal

pub returns-clause-costs : goal.returns-clause-costs
returns-clause-costs c =
    let funcs = c.as_slice.ensures ∙ ap (λ (p : Program). p.funcs) c.program.view_is in
    IfOk-weaker c.document_costs.result _ _
    (λ t is. record { rows = subst (λ fs. AreRowsOf fs t.by_func) funcs (verdict_costs (table_view c.in_ok-document.document) c.as_slice.result.now t is) })
    c.document_costs.ensures.table
