-- The body of each `do` of a well-formed program may be entered at least once.
use Rattle.std.specs.Prelude.{◌≤◌, Bool, true, false, List, [], ◌∷◌, ◌++◌}
use Rattle.c_tree.specs.declared.tree.Stmt.{Stmt, Row_of-Stmt, end_of-Stmt, more_of-Stmt, Held-Stmt-For-1, None', Some'}
use Rattle.c_tree.specs.declared.tree.Stmt.TheVariants.{Empty, Scalar, Array, Assign, Call, Break, Continue, Return, If', While', Do', For', Group'}
use Rattle.c_tree.specs.declared.program.Func.{Func}
use Rattle.c_tree.specs.declared.program.Program.{Program}
use Rattle.c_tree.specs.Keeping.Layouts.{Shape, global_shapes}
use Rattle.c_tree.specs.Keeping.WellFormed.{Context, WellFormedStmt, WellFormedRow, WellFormedHeld, WellFormedSole, WellFormedList, WellFormedFuncs, WellFormed, is_initialiser, is_step}

unfoldable mutual
  pub IsFair : Stmt → Type 0
  IsFair Empty = Unit {0}
  IsFair (Scalar l e) = Unit {0}
  IsFair (Array l es) = Unit {0}
  IsFair (Assign p op e) = Unit {0}
  IsFair (Call t g es) = Unit {0}
  IsFair Break = Unit {0}
  IsFair Continue = Unit {0}
  IsFair (Return e) = Unit {0}
  IsFair (If' e a x b y) = AreFair x × AreFair y
  IsFair (While' k e a x) = AreFair x
  IsFair (Do' k a x e) = (1 ≤ k) × AreFair x
  IsFair (For' k i e j a x) = HeldFair i × (HeldFair j × AreFair x)
  IsFair (Group' a x) = AreFair x

  pub AreFair : {m : _} → Row_of-Stmt m → Type 0
  AreFair end_of-Stmt = Unit {0}
  AreFair (more_of-Stmt s rest) = IsFair s × AreFair rest

  pub HeldFair : Held-Stmt-For-1 → Type 0
  HeldFair None' = Unit {0}
  HeldFair (Some' a x) = AreFair x

abbrev pub AllFair : List Stmt → Type 0
AllFair [] = Unit {0}
AllFair (s ∷ rest) = IsFair s × AllFair rest

abbrev pub FuncsFair : List Func → Type 0
FuncsFair [] = Unit {0}
FuncsFair (f ∷ fs) = AllFair f.body × FuncsFair fs

mutual
  unfolding IsFair AreFair HeldFair WellFormedStmt WellFormedRow WellFormedHeld WellFormedSole

  stmt_fair : (c : Context) (looped : Bool) (s : Stmt) → WellFormedStmt c looped s → IsFair s
  stmt_fair c looped Empty h = tt
  stmt_fair c looped (Scalar l e) h = tt
  stmt_fair c looped (Array l es) h = tt
  stmt_fair c looped (Assign p op e) h = tt
  stmt_fair c looped (Call t g es) h = tt
  stmt_fair c looped Break h = tt
  stmt_fair c looped Continue h = tt
  stmt_fair c looped (Return e) h = tt
  stmt_fair c looped (If' e a x b y) h = (row_fair c looped x h.1.0, row_fair c looped y h.1.1)
  stmt_fair c looped (While' k e a x) h = row_fair c true x h.1.1
  stmt_fair c looped (Do' k a x e) h = (h.0.0, row_fair c true x h.1.0)
  stmt_fair c looped (For' k i e j a x) h =
      (held_fair c is_initialiser i h.1.0, (held_fair c is_step j h.1.1.1.0, row_fair c true x h.1.1.1.1))
  stmt_fair c looped (Group' a x) h = row_fair c looped x h

  row_fair : {m : _} (c : Context) (looped : Bool) (x : Row_of-Stmt m) → WellFormedRow c looped x → AreFair x
  row_fair c looped end_of-Stmt h = tt
  row_fair c looped (more_of-Stmt s rest) h = (stmt_fair c looped s h.0, row_fair c looped rest h.1)

  held_fair : (c : Context) (sort : Stmt → Bool) (x : Held-Stmt-For-1) → WellFormedHeld c sort x → HeldFair x
  held_fair c sort None' h = tt
  held_fair c sort (Some' a x) h = sole_fair c sort x h

  sole_fair : {m : _} (c : Context) (sort : Stmt → Bool) (x : Row_of-Stmt m) → WellFormedSole c sort x → AreFair x
  sole_fair c sort end_of-Stmt h = absurd h
  sole_fair c sort (more_of-Stmt s rest) h =
      (stmt_fair c false s h.1.0, row_fair c false rest h.1.1)

list_fair : (c : Context) (looped : Bool) (xs : List Stmt) → WellFormedList c looped xs → AllFair xs
list_fair c looped [] h = tt
list_fair c looped (s ∷ rest) h = (stmt_fair c looped s h.0, list_fair c looped rest h.1)

funcs_fair : (globals : List Shape) (above fs : List Func) → WellFormedFuncs globals above fs → FuncsFair fs
funcs_fair globals above [] h = tt
funcs_fair globals above (f ∷ fs) h = (list_fair _ _ f.body (h.0).body, funcs_fair globals (above ++ f ∷ []) fs h.1)

pub program_fair : (p : Program) → WellFormed p → FuncsFair p.funcs
program_fair p h = funcs_fair (global_shapes p.globals) [] p.funcs h.funcs
