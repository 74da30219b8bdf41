use Rattle.std.proofs.lemmas.Result.{err_from_is_err_and}
use Rattle.toml.specs.View.{table_view}
use Rattle.cost_table.proofs.BlockCosts.{func_missing, func_not_missing, func_costs}
use Rattle.cost_table.proofs.rows.rows.Goals as goal

pub returns-in_err-row-clause-missing : goal.returns-in_err-row-clause-missing
returns-in_err-row-clause-missing c =
    let p = err_from_is_err_and c.from_residual.result c.from_residual.ensures.1 in
    rw (p.1, p.2) (λ other. func_missing (table_view c.args.document.now) c.args.funcs.now _ c.func-item.result _ c.loop-func-test.true c.func-item.is (c.in_err-row.ensures.missing other) c.loop-func.invariant.missing)

pub loop-func-preserved : goal.loop-func-preserved
loop-func-preserved c =
    let ms = table_view c.args.document.now in
    record {
      made = func_costs ms c.args.funcs.now _ c.func-item.result _ _ _ _ c.loop-func-test.true c.func-item.is c.in_ok-row.ensures.costs c.in_ok-push.ensures.ok c.loop-func.invariant.made;
      missing = func_not_missing ms c.args.funcs.now _ c.func-item.result c.loop-func-test.true c.func-item.is c.in_ok-row.ensures.whole c.loop-func.invariant.missing;
    }
