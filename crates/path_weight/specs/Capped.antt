-- Weights that are held at the last value of 64 bits. This project's own.
use Rattle.std.specs.Prelude.{ℕ, ◌+◌, ◌-◌, ◌^◌, min, List, Option, Some, None}
use Rattle.c_tree.specs.declared.tree.BinOp.{BinOp}
use Rattle.c_tree.specs.declared.tree.Expr.{Expr}
use Rattle.c_tree.specs.declared.tree.Place.{Place}
use Rattle.c_tree.specs.declared.program.Local.{Local}
use Rattle.c_tree.specs.declared.program.Global.{Global}
use Rattle.cond_laws.specs.Weights.{bin_weight, read_weight, expr_weight}

abbrev pub capped_weight : ℕ → ℕ
capped_weight w = min w (2 ^ 64 - 1)

-- what is assigned: of `p op= e` that of `p op e`
abbrev pub source_weight : List Local → List Global → Place → Option BinOp → Expr → ℕ
source_weight ls gs p None e = expr_weight ls gs e
source_weight ls gs p (Some o) e = bin_weight o + read_weight ls gs p + expr_weight ls gs e
