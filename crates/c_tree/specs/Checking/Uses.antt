-- What stands in a unit that checking asks of, in the order of the text: each name that is used or declared, with what
-- it stands for there, and each constant, array, `return`, `break`, `continue` and loop.
use Rattle.std.specs.Prelude.{
  ℕ,
  Bool,
  true,
  false,
  List,
  [],
  ◌∷◌,
  ◌++◌,
  length,
  Option,
  Some,
  None,
  option_map,
  is_some,
  unwrap_or,
}
use Rattle.c_tree.specs.declared.tree.Ty.{Ty}
use Rattle.c_tree.specs.declared.value.Value.{Value}
use Rattle.c_tree.specs.declared.unit.Spot.{Spot}
use Rattle.c_tree.specs.declared.unit.RawBound.{RawBound}
use Rattle.c_tree.specs.declared.unit.RawExpr.{RawExpr, Row_of-RawExpr, end_of-RawExpr, more_of-RawExpr}
use Rattle.c_tree.specs.declared.unit.RawExpr.TheVariants.{Num, Name, Elem', Un', Cast', Bin', Cond', Paren'}
use Rattle.c_tree.specs.declared.unit.RawPlace.{RawPlace}
use Rattle.c_tree.specs.declared.unit.RawPlace.TheVariants as raw_place
use Rattle.c_tree.specs.declared.unit.RawTarget.{RawTarget}
use Rattle.c_tree.specs.declared.unit.RawTarget.TheVariants as raw_target
use Rattle.c_tree.specs.declared.unit.RawShape.{RawShape}
use Rattle.c_tree.specs.declared.unit.RawShape.TheVariants as shape
use Rattle.c_tree.specs.declared.unit.RawStmt.{
  RawStmt,
  Row_of-RawStmt,
  end_of-RawStmt,
  more_of-RawStmt,
  Held-RawStmt-For-2,
  None',
  Some',
}
use Rattle.c_tree.specs.declared.unit.RawStmt.TheVariants.{
  Empty,
  Declare,
  Assign,
  Call,
  Break,
  Continue,
  Return,
  If',
  While',
  Do',
  For',
  Group',
}
use Rattle.c_tree.specs.declared.unit.RawParam.{RawParam}
use Rattle.c_tree.specs.declared.unit.RawFunc.{RawFunc}
use Rattle.c_tree.specs.declared.unit.RawTop.{RawTop}
use Rattle.c_tree.specs.declared.unit.RawTop.TheVariants as top
use Rattle.c_tree.specs.declared.unit.Unit.{Unit as Tree}
use Rattle.c_tree.specs.Checking.Scopes.{Entity, Known, entity_of, is_known_at}
use Rattle.c_tree.specs.Checking.Constants.{first_token, constant_value, declared_length}
use Rattle.c_tree.specs.Checking.Naming.{
  Scope,
  scope_with_local,
  inner_scope,
  loop_scope,
  scope_past_list,
  row_locals,
  scope_behind,
  held_behind,
  scope_behind_target,
  File,
  with_global,
  behind_top,
  file_start,
  func_scope,
  body_scope,
}

-- each with its place
pub data Use : Type 0 where
  -- a name that is read or assigned to, what it stands for, and whether an index follows it
  Read : (at : ℕ) (entity : Option Entity) (indexed : Bool) → Use
  Assigned : (at : ℕ) (entity : Option Entity) (indexed : Bool) → Use
  -- a called name, the number of arguments, whether the result goes somewhere, and the calling function
  Called : (at : ℕ) (entity : Option Entity) (arguments : ℕ) (is_used : Bool) (caller : ℕ) → Use
  -- a declared name, and whether its scope has it already
  Declared : (at : ℕ) (again : Bool) → Use
  -- an array's name, its length, how long its list is, and whether it is a local
  Sized : (at length : ℕ) (list : Option ℕ) (local : Bool) → Use
  -- the first token of an expression that is to be a constant, and its value
  Constant : (at : ℕ) (value : Option Value) → Use
  -- `return`, whether it has a value, and whether the function has a result
  Returned : (at : ℕ) (value result : Bool) → Use
  -- `break` or `continue`, and whether a loop is around it
  Left : (at : ℕ) (looped : Bool) → Use
  -- the first word of a loop, and its bound
  Looped : (at : ℕ) (bound : Option RawBound) → Use

-- ---- expressions

unfoldable mutual
  pub expr_uses : List Known → RawExpr → List Use
  expr_uses ks (Num at t n) = []
  expr_uses ks (Name x) = Read x.at (entity_of ks x.name) false ∷ []
  expr_uses ks (Elem' x _ i) = Read x.at (entity_of ks x.name) true ∷ row_uses ks i
  expr_uses ks (Un' at op a x) = row_uses ks x
  expr_uses ks (Cast' at t a x) = row_uses ks x
  expr_uses ks (Bin' op _ x _ y) = row_uses ks x ++ row_uses ks y
  expr_uses ks (Cond' _ x _ y _ z) = row_uses ks x ++ (row_uses ks y ++ row_uses ks z)
  expr_uses ks (Paren' at a x) = row_uses ks x

  pub row_uses : {m : _} → List Known → Row_of-RawExpr m → List Use
  row_uses ks end_of-RawExpr = []
  row_uses ks (more_of-RawExpr e rest) = expr_uses ks e

abbrev pub exprs_uses : List Known → List RawExpr → List Use
exprs_uses ks [] = []
exprs_uses ks (e ∷ es) = expr_uses ks e ++ exprs_uses ks es

abbrev pub optional_uses : List Known → Option RawExpr → List Use
optional_uses ks None = []
optional_uses ks (Some e) = expr_uses ks e

abbrev pub list_uses : List Known → Option (List RawExpr) → List Use
list_uses ks None = []
list_uses ks (Some es) = exprs_uses ks es

-- an expression that is to be a constant
abbrev pub constant_uses : List Known → RawExpr → List Use
constant_uses ks e = expr_uses ks e ++ Constant (first_token e) (constant_value e) ∷ []

abbrev pub constants_uses : List Known → List RawExpr → List Use
constants_uses ks [] = []
constants_uses ks (e ∷ es) = constant_uses ks e ++ constants_uses ks es

abbrev pub length_uses : List Known → Option RawExpr → List Use
length_uses ks None = []
length_uses ks (Some e) = constant_uses ks e

-- ---- declarators

abbrev pub sized_use : Spot → Option RawExpr → Option (List RawExpr) → Bool → Use
sized_use x e es local = Sized x.at (declared_length e es) (option_map length es) local

-- a declared name, where the innermost scope has this depth
abbrev pub declared_at : List Known → ℕ → Spot → Use
declared_at ks depth x = Declared x.at (is_known_at ks depth x.name)

-- of a local. A length is read before the name is in scope, an initialiser behind
abbrev pub declarator_uses : Scope → Bool → Ty → Spot → RawShape → List Use
declarator_uses s constant_value t x (shape.Scalar e) =
    declared_at s.known s.depth x ∷ optional_uses (scope_with_local s constant_value t x.name None).known e
declarator_uses s constant_value t x (shape.Array e es) =
    length_uses s.known e ++ (declared_at s.known s.depth x
    ∷ (sized_use x e es true ∷ list_uses (scope_with_local s constant_value t x.name
    (Some (declared_length e es))).known es))

-- ---- statements

abbrev pub place_uses : List Known → RawPlace → List Use
place_uses ks (raw_place.Scalar x) = Assigned x.at (entity_of ks x.name) false ∷ []
place_uses ks (raw_place.Elem x i) = Assigned x.at (entity_of ks x.name) true ∷ expr_uses ks i

abbrev pub target_uses : Scope → RawTarget → List Use
target_uses s raw_target.Nothing = []
target_uses s (raw_target.Assign x) = Assigned x.at (entity_of s.known x.name) false ∷ []
target_uses s (raw_target.Declare constant_value t x) = declared_at s.known s.depth x ∷ []

abbrev pub has_target : RawTarget → Bool
has_target raw_target.Nothing = false
has_target _ = true

-- a call, in the scope behind its target
abbrev pub call_uses : Scope → Bool → Spot → List RawExpr → List Use
call_uses s is_used f es =
    Called f.at (entity_of s.known f.name) (length es) is_used s.func ∷ exprs_uses s.known es

unfoldable mutual
  pub stmt_uses : Scope → RawStmt → List Use
  stmt_uses s Empty = []
  stmt_uses s (Declare constant_value t x sh) = declarator_uses s constant_value t x sh
  stmt_uses s (Assign p op e) = place_uses s.known p ++ expr_uses s.known e
  stmt_uses s (Call t f es) = target_uses s t ++ call_uses (scope_behind_target s t) (has_target t) f es
  stmt_uses s (Break at) = Left at s.looped ∷ []
  stmt_uses s (Continue at) = Left at s.looped ∷ []
  stmt_uses s (Return at e) = Returned at (is_some e) (is_some s.result) ∷ optional_uses s.known e
  stmt_uses s (If' e _ x _ y) =
      expr_uses s.known e ++ (row_stmt_uses (inner_scope s) x
      ++ row_stmt_uses (inner_scope (scope_past_list s (row_locals x))) y)
  stmt_uses s (While' at k e a x) = Looped at k ∷ (expr_uses s.known e ++ row_stmt_uses (loop_scope s) x)
  stmt_uses s (Do' at k a x e) = Looped at k ∷ (row_stmt_uses (loop_scope s) x ++ expr_uses s.known e)
  stmt_uses s (For' at k i e j a x) =
      Looped at k ∷ (held_uses (inner_scope s) i ++ (expr_uses (held_behind (inner_scope s) i).known e
      ++ (held_uses (held_behind (inner_scope s) i) j
      ++ row_stmt_uses (loop_scope (held_behind (held_behind (inner_scope s) i) j)) x)))
  stmt_uses s (Group' _ x) = row_stmt_uses (inner_scope s) x

  pub row_stmt_uses : {m : _} → Scope → Row_of-RawStmt m → List Use
  row_stmt_uses s end_of-RawStmt = []
  row_stmt_uses s (more_of-RawStmt x rest) = stmt_uses s x ++ row_stmt_uses (scope_behind s x) rest

  pub held_uses : Scope → Held-RawStmt-For-2 → List Use
  held_uses s None' = []
  held_uses s (Some' _ x) = row_stmt_uses s x

abbrev pub stmts_uses : Scope → List RawStmt → List Use
stmts_uses s [] = []
stmts_uses s (x ∷ rest) = stmt_uses s x ++ stmts_uses (scope_behind s x) rest

-- ---- file scope

abbrev pub params_uses : Scope → List RawParam → List Use
params_uses s [] = []
params_uses s (p ∷ ps) =
    declared_at s.known s.depth p.spot ∷ params_uses (scope_with_local s false p.ty p.spot.name None) ps

abbrev pub func_uses : File → RawFunc → List Use
func_uses f g =
    declared_at f.known 1 g.spot ∷ (params_uses (func_scope f g) g.params ++ stmts_uses (body_scope f g) g.body)

abbrev pub global_uses : File → Bool → Spot → RawShape → List Use
global_uses f constant_value x (shape.Scalar None) = declared_at f.known 1 x ∷ []
global_uses f constant_value x (shape.Scalar (Some e)) =
    declared_at f.known 1 x ∷ constant_uses (with_global f constant_value x.name false).known e
global_uses f constant_value x (shape.Array e es) =
    length_uses f.known e
    ++ (declared_at f.known 1 x
    ∷ (sized_use x e es false ∷ constants_uses (with_global f constant_value x.name true).known (unwrap_or es [])))

abbrev pub outer_uses : File → Spot → Option RawExpr → List Use
outer_uses f x None = declared_at f.known 1 x ∷ []
outer_uses f x (Some e) = constant_uses f.known e ++ (declared_at f.known 1 x ∷ (sized_use x (Some e) None false ∷ []))

abbrev pub top_uses : File → RawTop → List Use
top_uses f (top.Outer constant_value t x e) = outer_uses f x e
top_uses f (top.Global kept constant_value t x sh) = global_uses f constant_value x sh
top_uses f (top.Func g) = func_uses f g

abbrev pub tops_uses : File → List RawTop → List Use
tops_uses f [] = []
tops_uses f (t ∷ ts) = top_uses f t ++ tops_uses (behind_top f t) ts

-- of a whole unit
unfoldable pub uses : Tree → List Use
uses u = tops_uses (file_start u.tops) u.tops
