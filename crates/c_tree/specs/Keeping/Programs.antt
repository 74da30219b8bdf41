-- A program: its globals and functions in the order of the text, and the number of its entry function.
use Rattle.std.specs.Prelude.{ℕ, List}
use Rattle.c_tree.specs.declared.program.Global.{Global}
use Rattle.c_tree.specs.declared.program.Func.{Func}

pub record Program : Type 0 where
  pub globals : List Global
  pub funcs : List Func
  pub entry : ℕ
