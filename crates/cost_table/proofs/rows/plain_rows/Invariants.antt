use Rattle.std.proofs.Common.{◌≡◌, ◌++◌, false, map, drop, replicate}
use Rattle.c_tree.specs.declared.program.Func.{Func}
use Rattle.c_tree.specs.Meaning.Blocks.{list_blocks}
use Rattle.cost_table.proofs.rows.plain_rows.Given as goal

-- the rows made, and those of the functions that are left
abbrev pub invariant-loop-func : goal.invariant-loop-func
invariant-loop-func l =
    l.rows ++ map (λ (f : Func). replicate (list_blocks f.body false) 1) (drop l.func-index l.funcs) ≡ map (λ (f : Func). replicate (list_blocks f.body false) 1) l.funcs
