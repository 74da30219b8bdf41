use Rattle.std.proofs.Common.{◌≡◌, ℕ, ◌&&◌, ◌||◌, List, drop}
use Rattle.std.specs.Prelude.{is_some}
use Rattle.std.specs.BTreeSet.{contains_text}
use Rattle.toml.specs.Data.{get_member}
use Rattle.toml.specs.View.{table_view}
use Rattle.cost_document.specs.Documents.{entries}
use Rattle.cost_table.specs.Tables.{names_block}
use Rattle.cost_table.proofs.known.known_names.Given as goal

-- the names known, and those of the functions that are left
abbrev pub invariant-loop-func : goal.invariant-loop-func
invariant-loop-func l = (key : List ℕ) →
    (contains_text l.known key || (names_block (drop l.func-index l.funcs) key && is_some (get_member key (entries (table_view l.document)))))
    ≡ (names_block l.funcs key && is_some (get_member key (entries (table_view l.document))))
