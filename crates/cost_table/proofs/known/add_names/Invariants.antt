use Rattle.std.proofs.Common.{◌≡◌, ℕ, ◌-◌, ◌&&◌, ◌||◌, List, map}
use Rattle.std.specs.Prelude.{is_some}
use Rattle.std.specs.BTreeSet.{contains_text}
use Rattle.std.specs.List.{list_any, range_with_len}
use Rattle.std.specs.Str.{bytes_eq}
use Rattle.toml.specs.Data.{get_member}
use Rattle.toml.specs.View.{table_view}
use Rattle.cost_document.specs.Documents.{entries}
use Rattle.cost_table.specs.Tables.{names_of, block_name}
use Rattle.cost_table.proofs.known.add_names.Given as goal

-- the names known, and those of the blocks that are left
abbrev pub invariant-loop-number : goal.invariant-loop-number
invariant-loop-number l = (key : List ℕ) →
    (contains_text l.known key || (list_any (bytes_eq key) (map (block_name l.func.name) (range_with_len l.number (l.count - l.number))) && is_some (get_member key (entries (table_view l.document)))))
    ≡ (contains_text l.fn.known key || (list_any (bytes_eq key) (names_of l.func) && is_some (get_member key (entries (table_view l.document)))))
