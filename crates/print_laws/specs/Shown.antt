-- A tree of a text shows a program: it has the program's parts with names for its numbers, and besides places,
-- parentheses and the lengths and values of declarations as expressions.
use Rattle.std.specs.Prelude.{
  ◌≡◌,
  ℕ,
  suc,
  ◌-◌,
  ◌^◌,
  ◌==◌,
  Bool,
  true,
  false,
  if◌then◌else◌,
  List,
  [],
  ◌∷◌,
  ◌++◌,
  take,
  length,
  map,
  slice_get,
  Option,
  Some,
  None,
  ℤ,
  pos,
  negsuc,
}
use Rattle.c_tree.specs.declared.tree.Ty.{Ty}
use Rattle.c_tree.specs.declared.tree.Ty.TheVariants as ty
use Rattle.c_tree.specs.declared.tree.UnOp.{UnOp}
use Rattle.c_tree.specs.declared.tree.UnOp.TheVariants as un
use Rattle.c_tree.specs.declared.tree.BinOp.{BinOp}
use Rattle.c_tree.specs.declared.tree.Var.{Var}
use Rattle.c_tree.specs.declared.tree.Expr.{Expr}
use Rattle.c_tree.specs.declared.tree.Expr.TheVariants as x
use Rattle.c_tree.specs.declared.tree.Place.{Place}
use Rattle.c_tree.specs.declared.tree.Place.TheVariants as place
use Rattle.c_tree.specs.declared.tree.Target.{Target}
use Rattle.c_tree.specs.declared.tree.Target.TheVariants as target
use Rattle.c_tree.specs.declared.tree.Stmt.{Stmt, Row_of-Stmt, end_of-Stmt, more_of-Stmt, Held-Stmt-For-1, None', Some'}
use Rattle.c_tree.specs.declared.tree.Stmt.TheVariants.{
  Empty,
  Scalar,
  Array,
  Assign,
  Call,
  Break,
  Continue,
  Return,
  If',
  While',
  Do',
  For',
  Group',
}
use Rattle.c_tree.specs.declared.program.Local.{Local as Declared}
use Rattle.c_tree.specs.declared.program.Global.{Global as Outside}
use Rattle.c_tree.specs.declared.program.Func.{Func}
use Rattle.c_tree.specs.declared.program.Program.{Program}
use Rattle.c_tree.specs.declared.unit.Spot.{Spot}
use Rattle.c_tree.specs.declared.unit.RawBound.{RawBound}
use Rattle.c_tree.specs.declared.unit.RawExpr.{RawExpr}
use Rattle.c_tree.specs.declared.unit.RawExpr.TheVariants as e
use Rattle.c_tree.specs.declared.unit.RawPlace.{RawPlace}
use Rattle.c_tree.specs.declared.unit.RawPlace.TheVariants as raw_place
use Rattle.c_tree.specs.declared.unit.RawTarget.{RawTarget}
use Rattle.c_tree.specs.declared.unit.RawTarget.TheVariants as raw_target
use Rattle.c_tree.specs.declared.unit.RawShape.{RawShape}
use Rattle.c_tree.specs.declared.unit.RawShape.TheVariants as shape
use Rattle.c_tree.specs.declared.unit.RawStmt.{RawStmt}
use Rattle.c_tree.specs.declared.unit.RawStmt.TheVariants as raw
use Rattle.c_tree.specs.declared.unit.RawParam.{RawParam}
use Rattle.c_tree.specs.declared.unit.RawFunc.{RawFunc}
use Rattle.c_tree.specs.declared.unit.RawTop.{RawTop}
use Rattle.c_tree.specs.declared.unit.RawTop.TheVariants as top
use Rattle.c_tree.specs.declared.unit.Unit.{Unit as Tree}
use Rattle.c_tree.specs.Checking.Naming.{local_of}
use Rattle.print_laws.specs.PrintedExpressions.{name_text}

-- ---- expressions

-- a name for each variable, and places and parentheses besides
pub data Shows (p : Program) (f : Func) : RawExpr → Expr → Type 0 where
  shows_num : {at n : ℕ} {t : Ty} → Shows p f (e.Num at t n) (x.Num t n)
  shows_name : {y : Spot} {v : Var} → y.name ≡ name_text p f v → Shows p f (e.Name y) (x.Name v)
  shows_elem : {y : Spot} {v : Var} {i : RawExpr} {j : Expr} → y.name ≡ name_text p f v → Shows p f i j
      → Shows p f (e.Elem y i) (x.Elem v j)
  shows_un : {at : ℕ} {o : UnOp} {a : RawExpr} {b : Expr} → Shows p f a b → Shows p f (e.Un at o a) (x.Un o b)
  shows_cast : {at : ℕ} {t : Ty} {a : RawExpr} {b : Expr} → Shows p f a b → Shows p f (e.Cast at t a) (x.Cast t b)
  shows_bin : {o : BinOp} {a c : RawExpr} {b d : Expr} → Shows p f a b → Shows p f c d → Shows p f (e.Bin o a c)
      (x.Bin o b d)
  shows_cond : {a b c : RawExpr} {i j k : Expr} → Shows p f a i → Shows p f b j → Shows p f c k
      → Shows p f (e.Cond a b c) (x.Cond i j k)
  shows_paren : {at : ℕ} {a : RawExpr} {b : Expr} → Shows p f a b → Shows p f (e.Paren at a) b

-- one by one
pub data ShowAll (p : Program) (f : Func) : List RawExpr → List Expr → Type 0 where
  show_none : ShowAll p f [] []
  show_more : {a : RawExpr} {b : Expr} {more : List RawExpr} {rest : List Expr} → Shows p f a b → ShowAll p f more rest
      → ShowAll p f (a ∷ more) (b ∷ rest)

abbrev pub ShowsOptional : Program → Func → Option RawExpr → Option Expr → Type 0
ShowsOptional p f None None = Unit {0}
ShowsOptional p f None (Some b) = ⊥
ShowsOptional p f (Some a) None = ⊥
ShowsOptional p f (Some a) (Some b) = Shows p f a b

-- ---- parts of statements

-- the name, the type and the length of a declarator are those of the local n
pub record DeclaresLocal (f : Func) (n : ℕ) (t : Ty) (y : Spot) (m : Option ℕ) : Type 0 where
  pub local : slice_get f.locals n ≡ Some (local_of t y.name m)

-- a length as an expression
abbrev pub ShowsLength : Option RawExpr → Option ℕ → Type 0
ShowsLength r None = r ≡ None
ShowsLength r (Some m) = (at : ℕ) × (r ≡ Some (e.Num at ty.Int m))

abbrev pub ShowsPlace : Program → Func → RawPlace → Place → Type 0
ShowsPlace p f r (place.Scalar v) = (y : Spot) × (r ≡ raw_place.Scalar y) × (y.name ≡ name_text p f v)
ShowsPlace p f r (place.Elem v i) = (y : Spot) × (a : RawExpr) × (r ≡ raw_place.Elem y a) × (y.name ≡ name_text p f v)
    × Shows p f a i

abbrev pub ShowsTarget : Program → Func → RawTarget → Target → Type 0
ShowsTarget p f r target.Nothing = r ≡ raw_target.Nothing
ShowsTarget p f r (target.Assign v) = (y : Spot) × (r ≡ raw_target.Assign y) × (y.name ≡ name_text p f v)
ShowsTarget p f r (target.Declare n) = (t : Ty) × (y : Spot) × (r ≡ raw_target.Declare false t y)
    × DeclaresLocal f n t y None

-- the name of the function g
pub record NamesFunc (p : Program) (y : Spot) (g : ℕ) : Type 0 where
  pub callee : Func
  pub there : slice_get p.funcs g ≡ Some callee
  pub named : y.name ≡ callee.name

-- a bound and its place
pub record ShowsBound (k : Option RawBound) (n : ℕ) : Type 0 where
  pub at : ℕ
  pub is : k ≡ Some (record { at = at; value = n })

-- ---- statements

unfoldable mutual
  pub ShowsStmt : Program → Func → RawStmt → Stmt → Type 0
  ShowsStmt p f r Empty = r ≡ raw.Empty
  ShowsStmt p f r (Scalar n b) =
      (t : Ty) × (y : Spot) × (a : Option RawExpr) × (r ≡ raw.Declare false t y (shape.Scalar a))
      × DeclaresLocal f n t y None × ShowsOptional p f a b
  ShowsStmt p f r (Array n bs) =
      (t : Ty) × (y : Spot) × (m : ℕ) × (at : ℕ) × (es : List RawExpr)
      × (r ≡ raw.Declare false t y (shape.Array (Some (e.Num at ty.Int m)) (Some es)))
      × DeclaresLocal f n t y (Some m) × ShowAll p f es bs
  ShowsStmt p f r (Assign v o b) =
      (q : RawPlace) × (a : RawExpr) × (r ≡ raw.Assign q o a) × ShowsPlace p f q v × Shows p f a b
  ShowsStmt p f r (Call t g bs) =
      (u : RawTarget) × (y : Spot) × (es : List RawExpr) × (r ≡ raw.Call u y es) × ShowsTarget p f u t
      × NamesFunc p y g × ShowAll p f es bs
  ShowsStmt p f r Break = (at : ℕ) × (r ≡ raw.Break at)
  ShowsStmt p f r Continue = (at : ℕ) × (r ≡ raw.Continue at)
  ShowsStmt p f r (Return b) = (at : ℕ) × (a : Option RawExpr) × (r ≡ raw.Return at a) × ShowsOptional p f a b
  ShowsStmt p f r (If' b m us n vs) =
      (a : RawExpr) × (xs : List RawStmt) × (ys : List RawStmt) × (r ≡ raw.If a xs ys) × Shows p f a b
      × ShowsRow p f xs us × ShowsRow p f ys vs
  ShowsStmt p f r (While' n b m us) =
      (at : ℕ) × (k : Option RawBound) × (a : RawExpr) × (xs : List RawStmt) × (r ≡ raw.While at k a xs)
      × ShowsBound k n × Shows p f a b × ShowsRow p f xs us
  ShowsStmt p f r (Do' n m us b) =
      (at : ℕ) × (k : Option RawBound) × (xs : List RawStmt) × (a : RawExpr) × (r ≡ raw.Do at k xs a) × ShowsBound k n
      × ShowsRow p f xs us × Shows p f a b
  ShowsStmt p f r (For' n i b j m us) =
      (at : ℕ) × (k : Option RawBound) × (x : Option RawStmt) × (a : RawExpr) × (z : Option RawStmt)
      × (xs : List RawStmt) × (r ≡ raw.For at k x a z xs) × ShowsBound k n × ShowsHeld p f x i × Shows p f a b
      × ShowsHeld p f z j × ShowsRow p f xs us
  ShowsStmt p f r (Group' m us) = (xs : List RawStmt) × (r ≡ raw.Group xs) × ShowsRow p f xs us

  pub ShowsRow : {m : _} → Program → Func → List RawStmt → Row_of-Stmt m → Type 0
  ShowsRow p f rs end_of-Stmt = rs ≡ []
  ShowsRow p f rs (more_of-Stmt s rest) =
      (r : RawStmt) × (more : List RawStmt) × (rs ≡ r ∷ more) × ShowsStmt p f r s × ShowsRow p f more rest

  -- the initialiser or the step of a `for`
  pub ShowsHeld : Program → Func → Option RawStmt → Held-Stmt-For-1 → Type 0
  ShowsHeld p f r None' = r ≡ None
  ShowsHeld p f r (Some' m s) = ShowsSole p f r s

  pub ShowsSole : {m : _} → Program → Func → Option RawStmt → Row_of-Stmt m → Type 0
  ShowsSole p f r end_of-Stmt = ⊥
  ShowsSole p f r (more_of-Stmt s rest) = (x : RawStmt) × (r ≡ Some x) × ShowsStmt p f x s

-- one by one
abbrev pub ShowsStmts : Program → Func → List RawStmt → List Stmt → Type 0
ShowsStmts p f rs [] = rs ≡ []
ShowsStmts p f rs (s ∷ ss) =
    (r : RawStmt) × (more : List RawStmt) × (rs ≡ r ∷ more) × ShowsStmt p f r s × ShowsStmts p f more ss

-- ---- functions

abbrev pub local_of_param : RawParam → Declared
local_of_param q = local_of q.ty q.spot.name None

pub record ShowsFunc (p : Program) (g : RawFunc) (f : Func) : Type 0 where
  pub kept : g.kept ≡ false
  pub result : g.result ≡ f.result
  pub named : g.spot.name ≡ f.name
  pub params : map local_of_param g.params ≡ take f.params f.locals
  pub count : length g.params ≡ f.params
  pub body : ShowsStmts p f g.body f.body

abbrev pub ShowsFuncs : Program → List RawFunc → List Func → Type 0
ShowsFuncs p [] [] = Unit {0}
ShowsFuncs p [] (f ∷ fs) = ⊥
ShowsFuncs p (g ∷ gs) [] = ⊥
ShowsFuncs p (g ∷ gs) (f ∷ fs) = ShowsFunc p g f × ShowsFuncs p gs fs

-- ---- globals

-- a kept value as an expression: the least `int` has no number that a minus could stand before (`negsuc n` is -n - 1)
abbrev pub ShowsValue : Ty → RawExpr → ℤ → Type 0
ShowsValue t a (pos n) = (at : ℕ) × (a ≡ e.Num at t n)
ShowsValue t a (negsuc n) =
    (at : ℕ) × (from : ℕ) × (a ≡ (if n == 2 ^ 31 - 1 then e.Cast at ty.Int (e.Num from ty.Unsigned 2147483648)
    else e.Un at un.Minus (e.Num from t (suc n))))

abbrev pub ShowValues : Ty → List RawExpr → List ℤ → Type 0
ShowValues t [] [] = Unit {0}
ShowValues t [] (z ∷ zs) = ⊥
ShowValues t (a ∷ more) [] = ⊥
ShowValues t (a ∷ more) (z ∷ zs) = ShowsValue t a z × ShowValues t more zs

-- the initialiser and the length of a global of this type
abbrev pub ShowsInitial : Ty → RawShape → Option ℕ → List ℤ → Type 0
ShowsInitial t r None [] = r ≡ shape.Scalar None
ShowsInitial t r None (z ∷ zs) = (a : RawExpr) × (r ≡ shape.Scalar (Some a)) × (zs ≡ []) × ShowsValue t a z
ShowsInitial t r (Some m) [] = (at : ℕ) × (r ≡ shape.Array (Some (e.Num at ty.Int m)) None)
ShowsInitial t r (Some m) (z ∷ zs) =
    (at : ℕ) × (es : List RawExpr) × (r ≡ shape.Array (Some (e.Num at ty.Int m)) (Some es)) × ShowValues t es (z ∷ zs)

abbrev pub ShowsDeclaration : Bool → RawTop → Outside → Type 0
ShowsDeclaration true r g =
    (y : Spot) × (a : Option RawExpr) × (r ≡ top.Outer false g.ty y a) × (y.name ≡ g.name) × ShowsLength a g.length
    × (g.values ≡ [])
ShowsDeclaration false r g =
    (y : Spot) × (sh : RawShape) × (r ≡ top.Global false false g.ty y sh) × (y.name ≡ g.name)
    × ShowsInitial g.ty sh g.length g.values

pub record ShowsGlobal (r : RawTop) (g : Outside) : Type 0 where
  pub shown : ShowsDeclaration g.outer r g

abbrev pub ShowsGlobals : List RawTop → List Outside → Type 0
ShowsGlobals [] [] = Unit {0}
ShowsGlobals [] (g ∷ gs) = ⊥
ShowsGlobals (r ∷ rs) [] = ⊥
ShowsGlobals (r ∷ rs) (g ∷ gs) = ShowsGlobal r g × ShowsGlobals rs gs

-- ---- programs

-- all globals first, then the functions
pub record ShowsProgram (u : Tree) (p : Program) : Type 0 where
  pub globals : List RawTop
  pub funcs : List RawFunc
  pub tops : u.tops ≡ globals ++ map top.Func funcs
  pub shows_globals : ShowsGlobals globals p.globals
  pub shows_funcs : ShowsFuncs p funcs p.funcs
