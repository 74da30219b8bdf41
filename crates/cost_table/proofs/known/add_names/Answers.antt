use Rattle.std.proofs.Common.{◌+◌, ◌-◌, ◌&&◌, ◌||◌, map, ap, ◌∙◌}
use Rattle.std.specs.Prelude.{is_some}
use Rattle.std.specs.List.{list_any, range_with_len}
use Rattle.std.specs.Str.{bytes_eq}
use Rattle.std.specs.BTreeSet.{contains_text}
use Rattle.toml.specs.Data.{get_member}
use Rattle.toml.specs.View.{table_view}
use Rattle.cost_document.specs.Documents.{entries}
use Rattle.cost_table.specs.Tables.{block_name}
use Rattle.cost_table.proofs.KnownNames.{any_more}
use Rattle.cost_table.proofs.known.add_names.Goals as goal
use Rattle.std.proofs.iter.Rest.{range_with_len_first}

pub loop-number-preserved : goal.loop-number-preserved
loop-number-preserved c key =
    let name = c.args.func.now.name in
    let i = c.loop-number.number in
    let has = is_some (get_member key (entries (table_view c.args.document.now))) in
    let left = list_any (bytes_eq key) (map (block_name name) (range_with_len (i + 1) (c.in_ok-count.count - (i + 1)))) in
    let more = any_more (contains_text c.loop-number.known key) (bytes_eq key (block_name name i)) left has in
    let split = range_with_len_first i c.in_ok-count.count c.loop-number-test.true in
    let before = rw split at c.loop-number.invariant key in
    ap (λ known. known || (left && has)) (c.in_ok-add_name.ensures key) ∙ more ∙ before
