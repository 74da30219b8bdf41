-- What a checked program keeps: each variable and function that it names is there and of the right kind, and each
-- number is in its range.
use Rattle.std.specs.Prelude.{
  ◌≡◌,
  ◌≤◌,
  ◌<◌,
  ℕ,
  zero,
  suc,
  ◌^◌,
  Bool,
  true,
  false,
  IsTrue,
  List,
  [],
  ◌∷◌,
  ◌++◌,
  length,
  slice_get,
  Option,
  Some,
  None,
  is_some,
  unwrap_or,
  ℤ,
  pos,
}
use Rattle.c_tree.specs.declared.tree.Ty.{Ty}
use Rattle.c_tree.specs.declared.tree.Var.TheVariants.{Local}
use Rattle.c_tree.specs.declared.tree.BinOp.{BinOp}
use Rattle.c_tree.specs.declared.tree.BinOp.TheVariants as bin
use Rattle.c_tree.specs.declared.tree.Expr.{Expr, Row_of-Expr, end_of-Expr, more_of-Expr}
use Rattle.c_tree.specs.declared.tree.Expr.TheVariants.{Num, Name, Elem', Un', Cast', Bin', Cond'}
use Rattle.c_tree.specs.declared.tree.Place.{Place}
use Rattle.c_tree.specs.declared.tree.Place.TheVariants.{Scalar as PlainPlace, Elem as ElemPlace}
use Rattle.c_tree.specs.declared.tree.Target.{Target}
use Rattle.c_tree.specs.declared.tree.Target.TheVariants.{Nothing, Assign as Into, Declare}
use Rattle.c_tree.specs.declared.tree.Stmt.{Stmt, Row_of-Stmt, end_of-Stmt, more_of-Stmt, Held-Stmt-For-1, None', Some'}
use Rattle.c_tree.specs.declared.tree.Stmt.TheVariants.{
  Empty,
  Scalar,
  Array,
  Assign,
  Call,
  Break,
  Continue,
  Return,
  If',
  While',
  Do',
  For',
  Group',
}
use Rattle.c_tree.specs.declared.program.Local.{Local as Declared}
use Rattle.c_tree.specs.declared.program.Global.{Global as Outside}
use Rattle.c_tree.specs.declared.program.Func.{Func}
use Rattle.c_tree.specs.declared.program.Program.{Program}
use Rattle.c_tree.specs.Meaning.Values.{is_of}
use Rattle.c_tree.specs.Keeping.Layouts.{Shape, Layout, local_shapes, global_shapes, shape, is_scalar, is_array}
use Rattle.c_tree.specs.Meaning.Runs.{input_types}
use Rattle.c_tree.specs.Meaning.Spans.{func_span, spans}

-- ---- expressions

unfoldable mutual
  -- a number lies in the range of its type; a name is that of a scalar, and an index stands at an array
  pub WellFormedExpr : Layout → Expr → Type 0
  WellFormedExpr l (Num t n) = IsTrue (is_of t (pos n))
  WellFormedExpr l (Name v) = IsTrue (is_scalar (shape l v))
  WellFormedExpr l (Elem' v _ i) = IsTrue (is_array (shape l v)) × WellFormedPart l i
  WellFormedExpr l (Un' op _ x) = WellFormedPart l x
  WellFormedExpr l (Cast' t _ x) = WellFormedPart l x
  WellFormedExpr l (Bin' op _ x _ y) = WellFormedPart l x × WellFormedPart l y
  WellFormedExpr l (Cond' _ x _ y _ z) = WellFormedPart l x × (WellFormedPart l y × WellFormedPart l z)

  pub WellFormedPart : {m : _} → Layout → Row_of-Expr m → Type 0
  WellFormedPart l end_of-Expr = ⊥
  WellFormedPart l (more_of-Expr e rest) = WellFormedExpr l e

abbrev pub WellFormedExprs : Layout → List Expr → Type 0
WellFormedExprs l [] = Unit {0}
WellFormedExprs l (e ∷ es) = WellFormedExpr l e × WellFormedExprs l es

abbrev pub WellFormedOptional : Layout → Option Expr → Type 0
WellFormedOptional l None = Unit {0}
WellFormedOptional l (Some e) = WellFormedExpr l e

-- ---- the parts of statements

-- what a function's statements may name: variables of a layout, and the functions above. `result` is what the function
-- returns
pub record Context : Type 0 where
  pub layout : Layout
  pub above : List Func
  pub result : Option Ty

abbrev pub WellFormedPlace : Layout → Place → Type 0
WellFormedPlace l (PlainPlace x) = IsTrue (is_scalar (shape l x))
WellFormedPlace l (ElemPlace x i) = IsTrue (is_array (shape l x)) × WellFormedExpr l i

-- the operators of `op=`
abbrev pub is_compound : BinOp → Bool
is_compound bin.Mul = true
is_compound bin.Div = true
is_compound bin.Rem = true
is_compound bin.Add = true
is_compound bin.Sub = true
is_compound bin.Shl = true
is_compound bin.Shr = true
is_compound bin.And = true
is_compound bin.Xor = true
is_compound bin.Or = true
is_compound _ = false

abbrev pub is_assigning : Option BinOp → Bool
is_assigning None = true
is_assigning (Some op) = is_compound op

-- a list of 1 to as many numbers as a local array is long
abbrev pub FitsLength : Option ℕ → ℕ → Type 0
FitsLength None n = ⊥
FitsLength (Some m) n = (1 ≤ n) × (n ≤ m)

abbrev pub FitsArray : Option Shape → ℕ → Type 0
FitsArray None n = ⊥
FitsArray (Some x) n = FitsLength x.length n

-- the target of a call is a scalar
abbrev pub WellFormedTarget : Layout → Target → Type 0
WellFormedTarget l Nothing = Unit {0}
WellFormedTarget l (Into x) = IsTrue (is_scalar (shape l x))
WellFormedTarget l (Declare n) = IsTrue (is_scalar (shape l (Local n)))

-- the result of a `void` function goes nowhere
abbrev pub gives_for : Option Ty → Target → Bool
gives_for r Nothing = true
gives_for r (Into x) = is_some r
gives_for r (Declare l) = is_some r

-- a function above, with as many arguments as parameters
abbrev pub WellFormedCallee : Option Func → ℕ → Target → Type 0
WellFormedCallee None n t = ⊥
WellFormedCallee (Some f) n t = (n ≡ f.params) × IsTrue (gives_for f.result t)

-- `return` has a value exactly where the function has a result
abbrev pub returns_for : Option Ty → Option Expr → Bool
returns_for None None = true
returns_for None (Some e) = false
returns_for (Some t) None = false
returns_for (Some t) (Some e) = true

abbrev pub IsLoopBound : ℕ → Type 0
IsLoopBound k = (1 ≤ k) × (k ≤ 1048576)

-- the initialiser of a `for` is a declaration with an initialiser or an assignment, its step an assignment
abbrev pub is_initialiser : Stmt → Bool
is_initialiser (Scalar l (Some e)) = true
is_initialiser (Assign p op e) = true
is_initialiser _ = false

abbrev pub is_step : Stmt → Bool
is_step (Assign p op e) = true
is_step _ = false

-- ---- statements

unfoldable mutual
  -- a statement of a function, in a loop or not
  pub WellFormedStmt : Context → Bool → Stmt → Type 0
  WellFormedStmt c looped Empty = Unit {0}
  WellFormedStmt c looped (Scalar l e) =
      IsTrue (is_scalar (shape c.layout (Local l))) × WellFormedOptional c.layout e
  WellFormedStmt c looped (Array l es) =
      FitsArray (shape c.layout (Local l)) (length es) × WellFormedExprs c.layout es
  WellFormedStmt c looped (Assign p op e) =
      WellFormedPlace c.layout p × (IsTrue (is_assigning op) × WellFormedExpr c.layout e)
  WellFormedStmt c looped (Call t g es) =
      WellFormedTarget c.layout t × (WellFormedCallee (slice_get c.above g) (length es) t × WellFormedExprs c.layout es)
  WellFormedStmt c looped Break = IsTrue looped
  WellFormedStmt c looped Continue = IsTrue looped
  WellFormedStmt c looped (Return e) = IsTrue (returns_for c.result e) × WellFormedOptional c.layout e
  WellFormedStmt c looped (If' e _ x _ y) =
      WellFormedExpr c.layout e × (WellFormedRow c looped x × WellFormedRow c looped y)
  WellFormedStmt c looped (While' bound e _ x) =
      IsLoopBound bound × (WellFormedExpr c.layout e × WellFormedRow c true x)
  WellFormedStmt c looped (Do' bound _ x e) =
      IsLoopBound bound × (WellFormedRow c true x × WellFormedExpr c.layout e)
  WellFormedStmt c looped (For' bound i e j _ x) =
      IsLoopBound bound × (WellFormedHeld c is_initialiser i
      × (WellFormedExpr c.layout e × (WellFormedHeld c is_step j × WellFormedRow c true x)))
  WellFormedStmt c looped (Group' _ x) = WellFormedRow c looped x

  pub WellFormedRow : {m : _} → Context → Bool → Row_of-Stmt m → Type 0
  WellFormedRow c looped end_of-Stmt = Unit {0}
  WellFormedRow c looped (more_of-Stmt s rest) = WellFormedStmt c looped s × WellFormedRow c looped rest

  -- one statement of this sort, or none
  pub WellFormedHeld : Context → (Stmt → Bool) → Held-Stmt-For-1 → Type 0
  WellFormedHeld c sort None' = Unit {0}
  WellFormedHeld c sort (Some' _ x) = WellFormedSole c sort x

  pub WellFormedSole : {m : _} → Context → (Stmt → Bool) → Row_of-Stmt m → Type 0
  WellFormedSole c sort end_of-Stmt = ⊥
  WellFormedSole c sort (more_of-Stmt s rest) = IsTrue (sort s)
      × (WellFormedStmt c false s × WellFormedRow c false rest)

abbrev pub WellFormedList : Context → Bool → List Stmt → Type 0
WellFormedList c looped [] = Unit {0}
WellFormedList c looped (s ∷ rest) = WellFormedStmt c looped s × WellFormedList c looped rest

-- ---- programs

-- an array is 1 to 64 long
abbrev pub IsLength : Option ℕ → Type 0
IsLength None = Unit {0}
IsLength (Some n) = (1 ≤ n) × (n ≤ 64)

abbrev pub WellFormedLocals : List Declared → Type 0
WellFormedLocals [] = Unit {0}
WellFormedLocals (l ∷ ls) = IsLength l.length × WellFormedLocals ls

-- the first n locals, the parameters, are there and are scalars
abbrev pub HasParams : ℕ → List Declared → Type 0
HasParams zero ls = Unit {0}
HasParams (suc n) [] = ⊥
HasParams (suc n) (l ∷ ls) = (l.length ≡ None) × HasParams n ls

-- a function over those above it
pub record WellFormedFunc (globals : List Shape) (above : List Func) (f : Func) : Type 0 where
  pub locals : WellFormedLocals f.locals
  pub params : HasParams f.params f.locals
  pub body : WellFormedList (record {
    layout = record { locals = local_shapes f.locals; globals = globals };
    above =
        above;
    result = f.result;
  }) false f.body
  pub span : func_span (spans [] above) f ≤ 2 ^ 64

-- each function, over those above it
abbrev pub WellFormedFuncs : List Shape → List Func → List Func → Type 0
WellFormedFuncs globals above [] = Unit {0}
WellFormedFuncs globals above (f ∷ fs) =
    WellFormedFunc globals above f × WellFormedFuncs globals (above ++ f ∷ []) fs

abbrev pub AreNumbersOf : Ty → List ℤ → Type 0
AreNumbersOf t [] = Unit {0}
AreNumbersOf t (z ∷ zs) = IsTrue (is_of t z) × AreNumbersOf t zs

-- an extern variable has no initialiser
abbrev pub outer_has_none : Bool → List ℤ → Bool
outer_has_none false zs = true
outer_has_none true [] = true
outer_has_none true (z ∷ zs) = false

pub record WellFormedGlobal (g : Outside) : Type 0 where
  pub array : IsLength g.length
  pub numbers : AreNumbersOf g.ty g.values
  pub count : length g.values ≤ unwrap_or g.length 1
  pub outside : IsTrue (outer_has_none g.outer g.values)

abbrev pub WellFormedGlobals : List Outside → Type 0
WellFormedGlobals [] = Unit {0}
WellFormedGlobals (g ∷ gs) = WellFormedGlobal g × WellFormedGlobals gs

pub record WellFormed (p : Program) : Type 0 where
  pub entry : p.entry < length p.funcs
  pub globals : WellFormedGlobals p.globals
  pub funcs : WellFormedFuncs (global_shapes p.globals) [] p.funcs
  pub inputs : length (input_types p) ≤ 64
