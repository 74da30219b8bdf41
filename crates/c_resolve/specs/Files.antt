-- Where the walk over a unit stands, and what one declaration at file scope gives.
use Rattle.std.specs.Prelude.{ℕ, List, [], ◌∷◌, length, Option, Some, None, option_map}
use Rattle.c_tree.specs.declared.program.Global.{Global}
use Rattle.c_tree.specs.declared.program.Func.{Func}
use Rattle.c_tree.specs.declared.unit.RawExpr.{RawExpr}
use Rattle.c_tree.specs.declared.unit.RawTop.{RawTop}
use Rattle.c_tree.specs.declared.unit.RawTop.TheVariants as top
use Rattle.c_tree.specs.Checking.Constants.{declared_length}
use Rattle.c_tree.specs.Checking.Naming.{File, func_in_file, globals_of}
use Rattle.c_resolve.specs.declared.unit.UnitChecker.{UnitChecker}

abbrev pub file_of : UnitChecker → File
file_of u = record { known = u.checker.names; globals = length u.globals; funcs = length u.funcs }

abbrev pub top_funcs : File → RawTop → List Func
top_funcs f (top.Func g) = func_in_file f g ∷ []
top_funcs f t = []

abbrev pub top_globals : RawTop → List Global
top_globals t = globals_of (t ∷ [])

-- the length of an extern variable
abbrev pub outer_length : Option RawExpr → Option ℕ
outer_length e = option_map (λ l. declared_length (Some l) None) e

abbrev pub func_count : RawTop → ℕ
func_count (top.Func g) = 1
func_count t = 0
