use Rattle.std.proofs.Common.{◌≡◌, refl, ap, sym, ◌∙◌, Some, None}
use Rattle.toml.specs.View.{table_view}
use Rattle.cost_document.specs.Documents.{written_cost}
use Rattle.cost_table.specs.declared.fault.CostFault.TheVariants.{Missing}
use Rattle.cost_table.specs.Tables.{block_name}
use Rattle.cost_table.proofs.BlockCosts.{block_missing, block_not_missing, block_costs}
use Rattle.cost_table.proofs.rows.row.Goals as goal

pub returns-in_default-clause-missing : goal.returns-in_default-clause-missing
returns-in_default-clause-missing c other =
    let ms = table_view c.args.document.now in
    let none : written_cost ms (block_name c.args.func.now.name c.loop-number.number) ≡ None = sym c.in_ok-cost.ensures ∙ c.in_default.is in
    let missing = block_missing ms c.args.func.now _ _ _ c.loop-number-test.true c.in_ok-name.ensures c.requires (ap (written_cost ms) c.in_ok-name.ensures ∙ none) c.loop-number.invariant.missing in
    missing ∙ ap (λ name. Some (Missing name)) (sym (c.in_ok-name-2.ensures ∙ c.as_slice-in_default.ensures.value))

pub loop-number-preserved : goal.loop-number-preserved
loop-number-preserved c =
    let ms = table_view c.args.document.now in
    let there : written_cost ms (block_name c.args.func.now.name c.loop-number.number) ≡ Some c.in-Some.cost = sym c.in_ok-cost.ensures ∙ c.in-Some.is in
    record {
      found = block_costs ms c.args.func.now _ _ _ _ _ _ _ c.loop-number-test.true refl there c.in_ok-push.ensures.ok c.loop-number.invariant.found;
      missing = block_not_missing ms c.args.func.now _ _ _ _ c.loop-number-test.true refl there c.loop-number.invariant.missing;
    }
