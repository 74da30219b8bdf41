-- The text of a printed program: one declaration or statement a line, in the order of the program, the globals first.
-- This project's own layout.
use Rattle.std.specs.Prelude.{ℕ, Bool, true, false, List, [], ◌∷◌, ◌++◌, take, flat_map, codes, Option, Some, None, ℤ}
use Rattle.c_tree.specs.declared.tree.Ty.{Ty}
use Rattle.c_tree.specs.declared.program.Local.{Local}
use Rattle.c_tree.specs.declared.program.Global.{Global}
use Rattle.c_tree.specs.declared.program.Func.{Func}
use Rattle.c_tree.specs.declared.program.Program.{Program}
use Rattle.print_laws.specs.PrintedExpressions.{type_text, value_text, comma_list}
use Rattle.print_laws.specs.PrintedStatements.{declared_text, list_text, stmts_text}

-- ---- globals

unfoldable pub outer_text : Bool → List ℕ
outer_text true = codes "extern "
outer_text false = []

-- the initialiser of a global of this type and length, just as it is kept; there is none where there are no values
unfoldable pub initial_text : Ty → Option ℕ → List ℤ → List ℕ
initial_text t n [] = []
initial_text t None (z ∷ zs) = codes " = " ++ value_text t z
initial_text t (Some n) (z ∷ zs) = codes " = " ++ list_text (value_text t) (z ∷ zs)

unfoldable pub global_text : Global → List ℕ
global_text g = outer_text g.outer ++ declared_text g.ty g.name g.length ++ initial_text g.ty g.length g.values
    ++ codes ";\n"

-- ---- functions

unfoldable pub result_text : Option Ty → List ℕ
result_text None = codes "void"
result_text (Some t) = type_text t

unfoldable pub param_text : Local → List ℕ
param_text l = declared_text l.ty l.name l.length

unfoldable pub params_text : List Local → List ℕ
params_text [] = codes "void"
params_text (l ∷ ls) = comma_list param_text (l ∷ ls)

unfoldable pub head_text : Func → List ℕ
head_text f = result_text f.result ++ codes " " ++ f.name ++ codes "(" ++ params_text (take f.params f.locals)
    ++ codes ") {\n"

unfoldable pub func_text : Program → Func → List ℕ
func_text p f = head_text f ++ stmts_text p f 1 f.body ++ codes "}\n"

-- ---- programs

unfoldable pub printed_program : Program → List ℕ
printed_program p = flat_map global_text p.globals ++ flat_map (func_text p) p.funcs
