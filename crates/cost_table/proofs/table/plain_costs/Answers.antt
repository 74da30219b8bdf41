use Rattle.std.proofs.Common.{ap, sym, subst, ◌∙◌}
use Rattle.c_tree.specs.Meaning.Claims.{AreRowsOf}
use Rattle.c_tree.specs.Keeping.Programs.{Program}
use Rattle.cost_table.proofs.BlockCosts.{are_plain}
use Rattle.cost_table.proofs.table.plain_costs.Goals as goal

pub returns-clause-costs : goal.returns-clause-costs
returns-clause-costs c =
    let funcs = c.as_slice.ensures ∙ ap (λ (p : Program). p.funcs) c.program.view_is in
    record { rows = subst (AreRowsOf c.args.program.now.funcs) (sym c.in_ok-by_func.ensures) (rw funcs (are_plain c.args.program.now.funcs)) }
