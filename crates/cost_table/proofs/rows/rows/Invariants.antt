use Rattle.std.proofs.Common.{◌≡◌, ◌++◌, map, drop}
use Rattle.c_tree.specs.declared.program.Func.{Func}
use Rattle.toml.specs.View.{table_view}
use Rattle.cost_table.specs.Tables.{table_cost, names_of, names, first_missing}
use Rattle.cost_table.proofs.rows.rows.Given as goal

-- the rows made, and those of the functions that are left; a block without a cost is among those that are left
abbrev pub invariant-loop-func : goal.invariant-loop-func
invariant-loop-func l = record {
  made : l.rows ++ map (λ (f : Func). map (table_cost (table_view l.document)) (names_of f)) (drop l.func-index l.funcs)
      ≡ map (λ (f : Func). map (table_cost (table_view l.document)) (names_of f)) l.funcs;
  missing : first_missing (table_view l.document) (names (drop l.func-index l.funcs)) ≡ first_missing (table_view l.document) (names l.funcs);
}
