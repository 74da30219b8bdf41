-- A unit with its names replaced by numbers. A name is in scope from the end of its declarator, its own initialiser
-- included, to the end of the list that declares it (C11 6.2.1 paragraphs 4 and 7). Locals are numbered by function in
-- the order of their declarations, the parameters first, functions and globals in the order of the text. `static`,
-- `const` and parentheses are dropped.
use Rattle.std.specs.Prelude.{
  ℕ,
  ◌+◌,
  Bool,
  true,
  false,
  ◌&&◌,
  nat_le,
  if◌then◌else◌,
  List,
  [],
  ◌∷◌,
  ◌++◌,
  length,
  map,
  Option,
  Some,
  None,
  option_map,
  is_some,
  unwrap_or,
  ℤ,
  bytes_eq,
}
use Rattle.std.specs.List.{position}
use Rattle.c_tree.specs.declared.tree.Ty.{Ty}
use Rattle.c_tree.specs.declared.tree.Var.TheVariants as var
use Rattle.c_tree.specs.declared.tree.Expr.{Expr}
use Rattle.c_tree.specs.declared.tree.Place.{Place}
use Rattle.c_tree.specs.declared.tree.Place.TheVariants as place
use Rattle.c_tree.specs.declared.tree.Target.{Target}
use Rattle.c_tree.specs.declared.tree.Target.TheVariants as target
use Rattle.c_tree.specs.declared.tree.Stmt.{Stmt}
use Rattle.c_tree.specs.declared.tree.Stmt.TheVariants as stmt
use Rattle.c_tree.specs.declared.program.Local.{Local}
use Rattle.c_tree.specs.declared.program.Global.{Global}
use Rattle.c_tree.specs.declared.program.Func.{Func}
use Rattle.c_tree.specs.declared.program.Program.{Program}
use Rattle.c_tree.specs.declared.unit.RawBound.{RawBound}
use Rattle.c_tree.specs.declared.unit.RawExpr.{RawExpr}
use Rattle.c_tree.specs.declared.unit.RawPlace.{RawPlace}
use Rattle.c_tree.specs.declared.unit.RawPlace.TheVariants as raw_place
use Rattle.c_tree.specs.declared.unit.RawTarget.{RawTarget}
use Rattle.c_tree.specs.declared.unit.RawTarget.TheVariants as raw_target
use Rattle.c_tree.specs.declared.unit.RawShape.{RawShape}
use Rattle.c_tree.specs.declared.unit.RawShape.TheVariants as shape
use Rattle.c_tree.specs.declared.unit.RawStmt.{
  RawStmt,
  Row_of-RawStmt,
  end_of-RawStmt,
  more_of-RawStmt,
  Held-RawStmt-For-2,
  None',
  Some',
}
use Rattle.c_tree.specs.declared.unit.RawStmt.TheVariants.{
  Empty,
  Declare,
  Assign,
  Call,
  Break,
  Continue,
  Return,
  If',
  While',
  Do',
  For',
  Group',
}
use Rattle.c_tree.specs.declared.unit.RawParam.{RawParam}
use Rattle.c_tree.specs.declared.unit.RawFunc.{RawFunc}
use Rattle.c_tree.specs.declared.unit.RawTop.{RawTop}
use Rattle.c_tree.specs.declared.unit.RawTop.TheVariants as top
use Rattle.c_tree.specs.declared.unit.Unit.{Unit as Tree}
use Rattle.c_tree.specs.Checking.Scopes.{Entity, Variable, Function, Known, entity_of, variable, function_number}
use Rattle.c_tree.specs.Checking.Constants.{
  expr_of,
  exprs_of,
  constant_value,
  kept_number,
  declared_length,
  shape_length,
}

-- ---- scopes in a function

-- where a statement stands: the names in scope, the depth of the innermost scope, the locals that are declared so far,
-- the number of the function and its result, and whether a loop is around it
pub record Scope : Type 0 where
  pub known : List Known
  pub depth : ℕ
  pub locals : List Local
  pub func : ℕ
  pub result : Option Ty
  pub looped : Bool

abbrev pub local_of : Ty → List ℕ → Option ℕ → Local
local_of t name n = record { name = name; ty = t; length = n }

-- behind a declarator; a local with a length is an array
abbrev pub scope_with_local : Scope → Bool → Ty → List ℕ → Option ℕ → Scope
scope_with_local s constant_value t name n =
    record s {
      known = s.known ++ record {
        name = name;
        depth = s.depth;
        entity = Variable
            (var.Local (length s.locals)) (is_some n) constant_value;
      } ∷ [];
      locals = s.locals ++ local_of t name n ∷ [];
    }

-- inside a list or a `for`
abbrev pub inner_scope : Scope → Scope
inner_scope s = record s { depth = s.depth + 1 }

-- inside the list of a loop
abbrev pub loop_scope : Scope → Scope
loop_scope s = record s { depth = s.depth + 1; looped = true }

unfoldable mutual
  -- the locals that a statement declares, in the order of the text
  pub stmt_locals : RawStmt → List Local
  stmt_locals (Declare constant_value t x sh) = local_of t x.name (shape_length sh) ∷ []
  stmt_locals (Call (raw_target.Declare constant_value t x) f es) = local_of t x.name None ∷ []
  stmt_locals (If' e _ x _ y) = row_locals x ++ row_locals y
  stmt_locals (While' at k e a x) = row_locals x
  stmt_locals (Do' at k a x e) = row_locals x
  stmt_locals (For' at k i e j a x) = held_locals i ++ (held_locals j ++ row_locals x)
  stmt_locals (Group' _ x) = row_locals x
  stmt_locals _ = []

  pub row_locals : {m : _} → Row_of-RawStmt m → List Local
  row_locals end_of-RawStmt = []
  row_locals (more_of-RawStmt s rest) = stmt_locals s ++ row_locals rest

  pub held_locals : Held-RawStmt-For-2 → List Local
  held_locals None' = []
  held_locals (Some' _ x) = row_locals x

abbrev pub list_locals : List RawStmt → List Local
list_locals [] = []
list_locals (s ∷ rest) = stmt_locals s ++ list_locals rest

-- behind a list, whose names are in scope no more
abbrev pub scope_past_list : Scope → List Local → Scope
scope_past_list s ls = record s { locals = s.locals ++ ls }

-- behind a statement
unfoldable pub scope_behind : Scope → RawStmt → Scope
scope_behind s (Declare constant_value t x sh) = scope_with_local s constant_value t x.name (shape_length sh)
scope_behind s (Call (raw_target.Declare constant_value t x) f es) = scope_with_local s constant_value t x.name None
scope_behind s stmt = scope_past_list s (stmt_locals stmt)

-- ---- statements

abbrev pub optional_expr : List Known → Option RawExpr → Option Expr
optional_expr ks e = option_map (expr_of ks) e

abbrev pub place_of : List Known → RawPlace → Place
place_of ks (raw_place.Scalar x) = place.Scalar (variable (entity_of ks x.name))
place_of ks (raw_place.Elem x i) = place.Elem (variable (entity_of ks x.name)) (expr_of ks i)

-- a declaration of the local n; the names of its length are those before it and do not matter
abbrev pub declaration_stmt : List Known → ℕ → RawShape → Stmt
declaration_stmt ks n (shape.Scalar e) = stmt.Scalar n (optional_expr ks e)
declaration_stmt ks n (shape.Array e es) = stmt.Array n (exprs_of ks (unwrap_or es []))

-- the target of a call. A name that the call initialises is in scope in the call
abbrev pub target_of : Scope → RawTarget → Target
target_of s raw_target.Nothing = target.Nothing
target_of s (raw_target.Assign x) = target.Assign (variable (entity_of s.known x.name))
target_of s (raw_target.Declare constant_value t x) = target.Declare (length s.locals)

-- a bound is 1 to 1,048,576; where there is none such, which is a fault, the number is 0
abbrev pub is_bound : ℕ → Bool
is_bound n = nat_le 1 n && nat_le n 1048576

abbrev pub bound_number : Option RawBound → ℕ
bound_number None = 0
bound_number (Some b) = if is_bound b.value then b.value else 0

-- the scope of a call, behind its target
abbrev pub scope_behind_target : Scope → RawTarget → Scope
scope_behind_target s (raw_target.Declare constant_value t x) = scope_with_local s constant_value t x.name None
scope_behind_target s _ = s

unfoldable mutual
  pub stmt_of : Scope → RawStmt → Stmt
  stmt_of s Empty = stmt.Empty
  stmt_of s (Declare constant_value t x sh) =
      declaration_stmt (scope_with_local s constant_value t x.name (shape_length sh)).known (length s.locals) sh
  stmt_of s (Assign p op e) = stmt.Assign (place_of s.known p) op (expr_of s.known e)
  stmt_of s (Call t f es) =
      stmt.Call (target_of s t) (function_number (entity_of (scope_behind_target s t).known f.name))
      (exprs_of (scope_behind_target s t).known es)
  stmt_of s (Break at) = stmt.Break
  stmt_of s (Continue at) = stmt.Continue
  stmt_of s (Return at e) = stmt.Return (optional_expr s.known e)
  stmt_of s (If' e _ x _ y) =
      stmt.If (expr_of s.known e) (row_stmts (inner_scope s) x)
      (row_stmts (inner_scope (scope_past_list s (row_locals x))) y)
  stmt_of s (While' at k e a x) = stmt.While (bound_number k) (expr_of s.known e) (row_stmts (loop_scope s) x)
  stmt_of s (Do' at k a x e) = stmt.Do (bound_number k) (row_stmts (loop_scope s) x) (expr_of s.known e)
  stmt_of s (For' at k i e j a x) =
      stmt.For (bound_number k) (held_stmt (inner_scope s) i) (expr_of (held_behind (inner_scope s) i).known e)
      (held_stmt (held_behind (inner_scope s) i) j)
      (row_stmts (loop_scope (held_behind (held_behind (inner_scope s) i) j)) x)
  stmt_of s (Group' _ x) = stmt.Group (row_stmts (inner_scope s) x)

  pub row_stmts : {m : _} → Scope → Row_of-RawStmt m → List Stmt
  row_stmts s end_of-RawStmt = []
  row_stmts s (more_of-RawStmt x rest) = stmt_of s x ∷ row_stmts (scope_behind s x) rest

  pub held_stmt : Scope → Held-RawStmt-For-2 → Option Stmt
  held_stmt s None' = None
  held_stmt s (Some' _ x) = Some (sole_stmt s x)

  pub sole_stmt : {m : _} → Scope → Row_of-RawStmt m → Stmt
  sole_stmt s end_of-RawStmt = stmt.Empty
  sole_stmt s (more_of-RawStmt x rest) = stmt_of s x

  pub held_behind : Scope → Held-RawStmt-For-2 → Scope
  held_behind s None' = s
  held_behind s (Some' _ x) = row_behind s x

  pub row_behind : {m : _} → Scope → Row_of-RawStmt m → Scope
  row_behind s end_of-RawStmt = s
  row_behind s (more_of-RawStmt x rest) = scope_behind s x

abbrev pub stmts_of : Scope → List RawStmt → List Stmt
stmts_of s [] = []
stmts_of s (x ∷ rest) = stmt_of s x ∷ stmts_of (scope_behind s x) rest

-- behind each statement of a list
abbrev pub list_behind : Scope → List RawStmt → Scope
list_behind s [] = s
list_behind s (x ∷ rest) = list_behind (scope_behind s x) rest

-- ---- file scope

-- the names that are known so far, and how many globals and functions there are
pub record File : Type 0 where
  pub known : List Known
  pub globals : ℕ
  pub funcs : ℕ

abbrev pub at_file_scope : List ℕ → Entity → Known
at_file_scope name e = record { name = name; depth = 1; entity = e }

-- behind the declarator of a global
abbrev pub with_global : File → Bool → List ℕ → Bool → File
with_global f constant_value name array =
    record f {
      known = f.known ++ at_file_scope name (Variable (var.Global f.globals) array constant_value)
          ∷ [];
      globals = f.globals + 1;
    }

-- behind the declarator of a function
abbrev pub with_func : File → RawFunc → File
with_func f g =
    record f {
      known = f.known ++ at_file_scope g.spot.name (Function f.funcs (length g.params) g.result)
          ∷ [];
      funcs = f.funcs + 1;
    }

-- behind a declaration at file scope
abbrev pub behind_top : File → RawTop → File
behind_top f (top.Outer constant_value t x e) = with_global f constant_value x.name (is_some e)
behind_top f (top.Global kept constant_value t x sh) = with_global f constant_value x.name (is_some (shape_length sh))
behind_top f (top.Func g) = with_func f g

-- the functions of a unit, each known in the whole of it
abbrev pub known_funcs : ℕ → List RawTop → List Known
known_funcs n [] = []
known_funcs n (top.Func g ∷ ts) =
    record { name = g.spot.name; depth = 0; entity = Function n (length g.params) g.result } ∷ known_funcs (n + 1) ts
known_funcs n (t ∷ ts) = known_funcs n ts

abbrev pub file_start : List RawTop → File
file_start ts = record { known = known_funcs 0 ts; globals = 0; funcs = 0 }

-- ---- functions

-- where the parameters of a function are declared, behind its own declarator
abbrev pub func_scope : File → RawFunc → Scope
func_scope f g =
    record { known = (with_func f g).known; depth = 2; locals = []; func = f.funcs; result = g.result; looped = false }

-- behind parameters, which are scalars
abbrev pub with_params : Scope → List RawParam → Scope
with_params s [] = s
with_params s (p ∷ ps) = with_params (scope_with_local s false p.ty p.spot.name None) ps

abbrev pub body_scope : File → RawFunc → Scope
body_scope f g = with_params (func_scope f g) g.params

abbrev pub func_in_file : File → RawFunc → Func
func_in_file f g =
    record {
      name = g.spot.name;
      result = g.result;
      params = length g.params;
      locals =
          (list_behind (body_scope f g) g.body).locals;
      body = stmts_of (body_scope f g) g.body;
    }

abbrev pub funcs_of : File → List RawTop → List Func
funcs_of f [] = []
funcs_of f (top.Func g ∷ ts) = func_in_file f g ∷ funcs_of (with_func f g) ts
funcs_of f (t ∷ ts) = funcs_of (behind_top f t) ts

-- ---- globals

abbrev pub kept_numbers : Ty → List RawExpr → List ℤ
kept_numbers t es = map (λ e. kept_number t (constant_value e)) es

-- the values of an initialiser, converted to the type; there are none without one
abbrev pub shape_values : Ty → RawShape → List ℤ
shape_values t (shape.Scalar None) = []
shape_values t (shape.Scalar (Some e)) = kept_number t (constant_value e) ∷ []
shape_values t (shape.Array e es) = kept_numbers t (unwrap_or es [])

abbrev pub globals_of : List RawTop → List Global
globals_of [] = []
globals_of (top.Outer constant_value t x e ∷ ts) =
    record {
      name = x.name;
      ty = t;
      length = option_map (λ l. declared_length (Some l) None) e;
      outer = true;
      values =
          [];
    } ∷ globals_of ts
globals_of (top.Global kept constant_value t x sh ∷ ts) =
    record { name = x.name; ty = t; length = shape_length sh; outer = false; values = shape_values t sh }
    ∷ globals_of ts
globals_of (top.Func g ∷ ts) = globals_of ts

-- ---- programs

-- the number of the function of this name
abbrev pub entry_number : List Func → List ℕ → Option ℕ
entry_number fs name = position (λ (f : Func). bytes_eq f.name name) fs

-- the program of a unit
unfoldable pub program_of : Tree → List ℕ → Program
program_of u entry =
    let fs = funcs_of (file_start u.tops) u.tops in
    record { globals = globals_of u.tops; funcs = fs; entry = unwrap_or (entry_number fs entry) 0 }
