use Rattle.std.proofs.Common.{◌≡◌, ◌++◌, ◌-◌, map}
use Rattle.std.specs.List.{range_with_len}
use Rattle.toml.specs.View.{table_view}
use Rattle.cost_table.specs.Tables.{block_name, table_cost, names_of, first_missing}
use Rattle.cost_table.proofs.rows.row.Given as goal

-- the costs found, and those of the blocks that are left; a block without a cost is among those that are left
abbrev pub invariant-loop-number : goal.invariant-loop-number
invariant-loop-number l = record {
  found : l.row ++ map (table_cost (table_view l.document)) (map (block_name l.func.name) (range_with_len l.number (l.count - l.number)))
      ≡ map (table_cost (table_view l.document)) (names_of l.func);
  missing : first_missing (table_view l.document) (map (block_name l.func.name) (range_with_len l.number (l.count - l.number)))
      ≡ first_missing (table_view l.document) (names_of l.func);
}
