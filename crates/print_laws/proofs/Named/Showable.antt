-- The programs that can be printed and read: each name is an identifier, each number is of its type, and each part is where its text needs it.
use Rattle.std.specs.Prelude.{◌≡◌, ℕ, ◌≤◌, Bool, IsTrue, List, [], ◌∷◌, slice_get, Option, Some, None}
use Rattle.c_tree.specs.declared.tree.Expr.{Expr}
use Rattle.c_tree.specs.declared.tree.Place.{Place}
use Rattle.c_tree.specs.declared.tree.Place.TheVariants as place
use Rattle.c_tree.specs.declared.tree.Target.{Target}
use Rattle.c_tree.specs.declared.tree.Target.TheVariants as target
use Rattle.c_tree.specs.declared.tree.Stmt.{Stmt, Row_of-Stmt, end_of-Stmt, more_of-Stmt, Held-Stmt-For-1, None', Some'}
use Rattle.c_tree.specs.declared.tree.Stmt.TheVariants.{Empty, Scalar, Array, Assign, Call, Break, Continue, Return, If', While', Do', For', Group'}
use Rattle.c_tree.specs.declared.program.Local.{Local as Declared}
use Rattle.c_tree.specs.declared.program.Global.{Global as Outside}
use Rattle.c_tree.specs.declared.program.Func.{Func}
use Rattle.c_tree.specs.declared.program.Program.{Program}
use Rattle.c_tree.specs.Keeping.WellFormed.{is_assigning, is_initialiser, is_step, HasParams, WellFormedGlobal}
use Rattle.print_laws.specs.PrintedExpressions.{name_text}
use Rattle.print_laws.proofs.Composing.ComposedExpressions.{IsIdentifier, IsShowable}
use Rattle.print_laws.proofs.Composing.ExpressionLists.{AreShowable}

-- ---- parts of statements

abbrev pub IsShowableOptional : Program → Func → Option Expr → Type 0
IsShowableOptional p f None = Unit {0}
IsShowableOptional p f (Some e) = IsShowable p f e

-- the arguments of a call, which may be none
abbrev pub AreShowableArguments : Program → Func → List Expr → Type 0
AreShowableArguments p f [] = Unit {0}
AreShowableArguments p f (e ∷ es) = AreShowable p f (e ∷ es)

-- the local n is there, with a name and this length
pub record HasLocal (f : Func) (n : ℕ) (m : Option ℕ) : Type 0 where
  pub local : Declared
  pub there : slice_get f.locals n ≡ Some local
  pub named : IsIdentifier local.name
  pub length : local.length ≡ m

-- an array
pub record HasArray (f : Func) (n : ℕ) : Type 0 where
  pub size : ℕ
  pub short : size ≤ 64
  pub local : HasLocal f n (Some size)

abbrev pub IsShowablePlace : Program → Func → Place → Type 0
IsShowablePlace p f (place.Scalar v) = IsIdentifier (name_text p f v)
IsShowablePlace p f (place.Elem v i) = IsIdentifier (name_text p f v) × IsShowable p f i

abbrev pub IsShowableTarget : Program → Func → Target → Type 0
IsShowableTarget p f target.Nothing = Unit {0}
IsShowableTarget p f (target.Assign v) = IsIdentifier (name_text p f v)
IsShowableTarget p f (target.Declare n) = HasLocal f n None

-- the function g is there, with a name
pub record HasFunc (p : Program) (g : ℕ) : Type 0 where
  pub callee : Func
  pub there : slice_get p.funcs g ≡ Some callee
  pub named : IsIdentifier callee.name

-- ---- statements

unfoldable mutual
  pub IsShowableStmt : Program → Func → Stmt → Type 0
  IsShowableStmt p f Empty = Unit {0}
  IsShowableStmt p f (Scalar n e) = HasLocal f n None × IsShowableOptional p f e
  IsShowableStmt p f (Array n es) = HasArray f n × AreShowable p f es
  IsShowableStmt p f (Assign v o e) = IsShowablePlace p f v × IsTrue (is_assigning o) × IsShowable p f e
  IsShowableStmt p f (Call t g es) = IsShowableTarget p f t × HasFunc p g × AreShowableArguments p f es
  IsShowableStmt p f Break = Unit {0}
  IsShowableStmt p f Continue = Unit {0}
  IsShowableStmt p f (Return e) = IsShowableOptional p f e
  IsShowableStmt p f (If' e m xs n ys) = IsShowable p f e × IsShowableRow p f xs × IsShowableRow p f ys
  IsShowableStmt p f (While' k e m xs) = (k ≤ 1048576) × IsShowable p f e × IsShowableRow p f xs
  IsShowableStmt p f (Do' k m xs e) = (k ≤ 1048576) × IsShowableRow p f xs × IsShowable p f e
  IsShowableStmt p f (For' k i e j m xs) =
      (k ≤ 1048576) × IsShowableHeld p f is_initialiser i × IsShowable p f e × IsShowableHeld p f is_step j × IsShowableRow p f xs
  IsShowableStmt p f (Group' m xs) = IsShowableRow p f xs

  pub IsShowableRow : {m : _} → Program → Func → Row_of-Stmt m → Type 0
  IsShowableRow p f end_of-Stmt = Unit {0}
  IsShowableRow p f (more_of-Stmt s rest) = IsShowableStmt p f s × IsShowableRow p f rest

  -- one statement of this sort, or none
  pub IsShowableHeld : Program → Func → (Stmt → Bool) → Held-Stmt-For-1 → Type 0
  IsShowableHeld p f sort None' = Unit {0}
  IsShowableHeld p f sort (Some' m x) = IsShowableSole p f sort x

  pub IsShowableSole : {m : _} → Program → Func → (Stmt → Bool) → Row_of-Stmt m → Type 0
  IsShowableSole p f sort end_of-Stmt = ⊥
  IsShowableSole p f sort (more_of-Stmt s rest) = IsTrue (sort s) × IsShowableStmt p f s

abbrev pub AreShowableStmts : Program → Func → List Stmt → Type 0
AreShowableStmts p f [] = Unit {0}
AreShowableStmts p f (s ∷ ss) = IsShowableStmt p f s × AreShowableStmts p f ss

-- ---- programs

abbrev pub AreNamed : List Declared → Type 0
AreNamed [] = Unit {0}
AreNamed (l ∷ ls) = IsIdentifier l.name × AreNamed ls

pub record IsShowableFunc (p : Program) (f : Func) : Type 0 where
  pub named : IsIdentifier f.name
  pub locals : AreNamed f.locals
  pub params : HasParams f.params f.locals
  pub body : AreShowableStmts p f f.body

abbrev pub AreShowableFuncs : Program → List Func → Type 0
AreShowableFuncs p [] = Unit {0}
AreShowableFuncs p (f ∷ fs) = IsShowableFunc p f × AreShowableFuncs p fs

pub record IsShowableGlobal (g : Outside) : Type 0 where
  pub named : IsIdentifier g.name
  pub formed : WellFormedGlobal g

abbrev pub AreShowableGlobals : List Outside → Type 0
AreShowableGlobals [] = Unit {0}
AreShowableGlobals (g ∷ gs) = IsShowableGlobal g × AreShowableGlobals gs

pub record IsShowableProgram (p : Program) : Type 0 where
  pub globals : AreShowableGlobals p.globals
  pub funcs : AreShowableFuncs p p.funcs
