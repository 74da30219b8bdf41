-- The lines of statements in a printed program. This project's own layout.
use Rattle.std.specs.Prelude.{
  ℕ,
  zero,
  suc,
  ◌+◌,
  List,
  [],
  ◌∷◌,
  ◌++◌,
  flat_map,
  codes,
  decimal,
  slice_get,
  Option,
  Some,
  None,
}
use Rattle.c_tree.specs.declared.tree.Ty.{Ty}
use Rattle.c_tree.specs.declared.tree.BinOp.{BinOp}
use Rattle.c_tree.specs.declared.tree.Expr.{Expr}
use Rattle.c_tree.specs.declared.tree.Place.{Place}
use Rattle.c_tree.specs.declared.tree.Place.TheVariants as place
use Rattle.c_tree.specs.declared.tree.Target.{Target}
use Rattle.c_tree.specs.declared.tree.Target.TheVariants as target
use Rattle.c_tree.specs.declared.tree.Stmt.{Stmt, Row_of-Stmt, end_of-Stmt, more_of-Stmt, Held-Stmt-For-1, None', Some'}
use Rattle.c_tree.specs.declared.tree.Stmt.TheVariants.{
  Empty,
  Scalar,
  Array,
  Assign,
  Call,
  Break,
  Continue,
  Return,
  If',
  While',
  Do',
  For',
  Group',
}
use Rattle.c_tree.specs.declared.program.Local.{Local as Declared}
use Rattle.c_tree.specs.declared.program.Func.{Func}
use Rattle.c_tree.specs.declared.program.Program.{Program}
use Rattle.print_laws.specs.PrintedExpressions.{name_text, type_text, bin_text, comma_list, expr_text}

-- ---- lines

-- four blanks for each level
unfoldable pub margin : ℕ → List ℕ
margin zero = []
margin (suc k) = margin k ++ codes "    "

-- a line at a level
unfoldable pub line : ℕ → List ℕ → List ℕ
line k text = margin k ++ text ++ codes "\n"

-- ---- declarations

-- the length of an array, which a scalar has not
unfoldable pub length_text : Option ℕ → List ℕ
length_text None = []
length_text (Some n) = codes "[" ++ decimal n ++ codes "]"

-- a type, a name, and the length of an array
unfoldable pub declared_text : Ty → List ℕ → Option ℕ → List ℕ
declared_text t name n = type_text t ++ codes " " ++ name ++ length_text n

unfoldable pub local_text : Option Declared → List ℕ
local_text None = []
local_text (Some l) = declared_text l.ty l.name l.length

-- the declaration of the local n, without an initialiser
unfoldable pub declaration_text : Func → ℕ → List ℕ
declaration_text f n = local_text (slice_get f.locals n)

-- a list of an initialiser
unfoldable pub list_text : {A : Type 0} → (A → List ℕ) → List A → List ℕ
list_text text xs = codes "{" ++ comma_list text xs ++ codes "}"

-- ---- statements of one line

unfoldable pub value_part : Program → Func → Option Expr → List ℕ
value_part p f None = []
value_part p f (Some e) = codes " = " ++ expr_text p f e

unfoldable pub place_text : Program → Func → Place → List ℕ
place_text p f (place.Scalar v) = name_text p f v
place_text p f (place.Elem v i) = name_text p f v ++ codes "[" ++ expr_text p f i ++ codes "]"

unfoldable pub assign_text : Option BinOp → List ℕ
assign_text None = codes " = "
assign_text (Some o) = codes " " ++ bin_text o ++ codes "= "

unfoldable pub target_text : Program → Func → Target → List ℕ
target_text p f target.Nothing = []
target_text p f (target.Assign v) = name_text p f v ++ codes " = "
target_text p f (target.Declare n) = declaration_text f n ++ codes " = "

unfoldable pub func_name : Option Func → List ℕ
func_name None = []
func_name (Some g) = g.name

-- the name of the function g and the arguments
unfoldable pub called_text : Program → Func → ℕ → List Expr → List ℕ
called_text p f g es = func_name (slice_get p.funcs g) ++ codes "(" ++ comma_list (expr_text p f) es ++ codes ")"

unfoldable pub return_text : Program → Func → Option Expr → List ℕ
return_text p f None = codes "return"
return_text p f (Some e) = codes "return " ++ expr_text p f e

-- a statement of one line, without its semicolon; of a statement of several lines, nothing
unfoldable pub simple_text : Program → Func → Stmt → List ℕ
simple_text p f Empty = []
simple_text p f (Scalar n e) = declaration_text f n ++ value_part p f e
simple_text p f (Array n es) = declaration_text f n ++ codes " = " ++ list_text (expr_text p f) es
simple_text p f (Assign x o e) = place_text p f x ++ assign_text o ++ expr_text p f e
simple_text p f (Call t g es) = target_text p f t ++ called_text p f g es
simple_text p f Break = codes "break"
simple_text p f Continue = codes "continue"
simple_text p f (Return e) = return_text p f e
simple_text p f (If' e a x b y) = []
simple_text p f (While' n e a x) = []
simple_text p f (Do' n a x e) = []
simple_text p f (For' n i e j a x) = []
simple_text p f (Group' a x) = []

-- ---- statements

-- the line of a loop's bound, which stands at its beginning
unfoldable pub bound_text : ℕ → List ℕ
bound_text n = codes "#pragma loopbound " ++ decimal n ++ codes "\n"

-- the first line of a `for`: its initialiser, its condition and its step
unfoldable pub for_text : List ℕ → List ℕ → List ℕ → List ℕ
for_text i e j = codes "for (" ++ i ++ codes "; " ++ e ++ codes "; " ++ j ++ codes ") {"

unfoldable mutual
  -- a statement in a function of a program, at a level
  pub stmt_text : Program → Func → ℕ → Stmt → List ℕ
  stmt_text p f k (If' e a x b y) =
      line k (codes "if (" ++ expr_text p f e ++ codes ") {") ++ row_lines p f (k + 1) x ++ else_text p f k y
  stmt_text p f k (While' n e a x) =
      bound_text n ++ line k (codes "while (" ++ expr_text p f e ++ codes ") {") ++ row_lines p f (k + 1) x
      ++ line k (codes "}")
  stmt_text p f k (Do' n a x e) =
      bound_text n ++ line k (codes "do {") ++ row_lines p f (k + 1) x ++ line k (codes "} while (" ++ expr_text p f e
      ++ codes ");")
  stmt_text p f k (For' n i e j a x) =
      bound_text n ++ line k (for_text (held_text p f i) (expr_text p f e) (held_text p f j))
      ++ row_lines p f (k + 1) x ++ line k (codes "}")
  stmt_text p f k (Group' a x) = line k (codes "{") ++ row_lines p f (k + 1) x ++ line k (codes "}")
  stmt_text p f k s = line k (simple_text p f s ++ codes ";")

  pub row_lines : {m : _} → Program → Func → ℕ → Row_of-Stmt m → List ℕ
  row_lines p f k end_of-Stmt = []
  row_lines p f k (more_of-Stmt s rest) = stmt_text p f k s ++ row_lines p f k rest

  -- behind the first list of an `if`: an empty second one has no `else`
  pub else_text : {m : _} → Program → Func → ℕ → Row_of-Stmt m → List ℕ
  else_text p f k end_of-Stmt = line k (codes "}")
  else_text p f k (more_of-Stmt s rest) = line k (codes "} else {")
      ++ (stmt_text p f (k + 1) s ++ row_lines p f (k + 1) rest) ++ line k (codes "}")

  -- the initialiser or the step of a `for`
  pub held_text : Program → Func → Held-Stmt-For-1 → List ℕ
  held_text p f None' = []
  held_text p f (Some' a x) = sole_text p f x

  pub sole_text : {m : _} → Program → Func → Row_of-Stmt m → List ℕ
  sole_text p f end_of-Stmt = []
  sole_text p f (more_of-Stmt s rest) = simple_text p f s

-- the same of a list, of a second list of an `if`, and of a part of a `for`
abbrev pub stmts_text : Program → Func → ℕ → List Stmt → List ℕ
stmts_text p f k ss = flat_map (stmt_text p f k) ss

unfoldable pub otherwise_text : Program → Func → ℕ → List Stmt → List ℕ
otherwise_text p f k [] = line k (codes "}")
otherwise_text p f k (s ∷ ss) = line k (codes "} else {") ++ stmts_text p f (k + 1) (s ∷ ss) ++ line k (codes "}")

unfoldable pub part_text : Program → Func → Option Stmt → List ℕ
part_text p f None = []
part_text p f (Some s) = simple_text p f s
