use Rattle.std.proofs.Common.{ap, sym, ◌∙◌}
use Rattle.std.specs.Prelude.{option_map}
use Rattle.toml.specs.View.{table_view}
use Rattle.std.specs.BTreeSet.{contains_text}
use Rattle.cost_table.specs.declared.fault.CostFault.TheVariants.{Block}
use Rattle.cost_document.specs.Documents.{entries}
use Rattle.cost_table.specs.Tables.{names_block}
use Rattle.cost_table.proofs.Entries.{same_first_unknown}
use Rattle.cost_table.proofs.table.check_blocks.Goals as goal

pub returns-in_default-clause-whole : goal.returns-in_default-clause-whole
returns-in_default-clause-whole c =
    let same = same_first_unknown (entries (table_view c.args.document.now)) (contains_text c.in_ok-known.known) (names_block c.args.funcs.now) c.in_ok-known.ensures in
    ap (option_map Block) (sym (c.in_default.ensures ∙ same))

pub returns-clause-fault : goal.returns-clause-fault
returns-clause-fault c other =
    let same = same_first_unknown (entries (table_view c.args.document.now)) (contains_text c.in_ok-known.known) (names_block c.args.funcs.now) c.in_ok-known.ensures in
    let here = rw (← c.as_bytes.ensures.value, ← c.in_ok-name.ensures) at c.in-Some.ensures in
    ap (option_map Block) (sym (here ∙ same))
