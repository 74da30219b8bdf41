use Rattle.std.proofs.Common.{rules}
use Rattle.std.specs.BTreeSet.{contains_text}
use Rattle.toml.specs.View.{table_view}
use Rattle.cost_document.specs.Documents.{entries}
use Rattle.cost_table.specs.Tables.{block_name}
use Rattle.cost_table.proofs.KnownNames.{not_added}
use Rattle.cost_table.proofs.known.add_name.Goals as goal

pub returns-then-not-held : goal.returns-then-not-held
returns-then-not-held c key =
    not_added (entries (table_view c.args.document.now)) (block_name c.args.func.now.name c.args.number) key (contains_text c.args.known.now key) c.args.held c.requires (search rules)
