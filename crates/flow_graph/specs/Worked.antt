-- Worked programs at the limits of graphs. In the text beside a program its loops' bounds stand in brackets.
use Rattle.std.specs.Prelude.{ℕ, [], ◌∷◌}
use Rattle.c_tree.specs.declared.tree.BinOp.TheVariants as bin
use Rattle.c_tree.specs.declared.tree.Expr.TheVariants.{Bin}
use Rattle.c_tree.specs.declared.tree.Stmt.TheVariants.{While}
use Rattle.c_tree.specs.declared.program.Program.{Program}
use Rattle.c_tree.specs.Meaning.Worked.{num, local, sets, increment, declares, returns, main_of}
use Rattle.std.specs.Prelude.{None}

-- `int main(int n) { int a = 0; int b = 0; while [1048576] (a < n) { b = 0; while [K] (b < n) b++; a++; } return a; }`
unfoldable pub nested_counts : ℕ → Program
nested_counts k =
    let inner = While k (Bin bin.Lt (local 2) (local 0)) (increment 2 ∷ []) in
    let outer = While 1048576 (Bin bin.Lt (local 1) (local 0)) (sets 2 None (num 0) ∷ inner ∷ increment 1 ∷ []) in
    main_of 1 3 (declares 1 (num 0) ∷ declares 2 (num 0) ∷ outer ∷ returns (local 1) ∷ [])
