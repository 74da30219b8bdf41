-- What an evaluation asks of a store and of the functions above: that each variable and function is there and of the
-- right kind.
use Rattle.std.specs.Prelude.{Bool, true, false, IsTrue, IsSome, List, [], ◌∷◌, slice_get, Option, Some, None}
use Rattle.c_tree.specs.declared.tree.Var.TheVariants.{Local}
use Rattle.c_tree.specs.declared.tree.Expr.{Expr, Row_of-Expr, end_of-Expr, more_of-Expr}
use Rattle.c_tree.specs.declared.tree.Expr.TheVariants.{Num, Name, Elem', Un', Cast', Bin', Cond'}
use Rattle.c_tree.specs.declared.tree.Place.{Place}
use Rattle.c_tree.specs.declared.tree.Place.TheVariants.{Scalar as PlainPlace, Elem as ElemPlace}
use Rattle.c_tree.specs.declared.tree.Target.{Target}
use Rattle.c_tree.specs.declared.tree.Target.TheVariants.{Nothing, Assign as Into, Declare}
use Rattle.c_tree.specs.declared.tree.Stmt.{Stmt}
use Rattle.c_tree.specs.declared.tree.Stmt.TheVariants.{
  Empty,
  Scalar,
  Array,
  Assign,
  Call,
  Break,
  Continue,
  Return,
  If',
  While',
  Do',
  For',
  Group',
}
use Rattle.c_tree.specs.declared.value.Slot.{Slot}
use Rattle.c_tree.specs.declared.value.Slot.TheVariants.{Unset, Number, Numbers}
use Rattle.c_tree.specs.declared.value.Store.{Store}
use Rattle.c_tree.specs.Meaning.Stores.{slot, unset_local}
use Rattle.c_tree.specs.Meaning.Statements.{Callee, unset_target}

-- the slot of a scalar is there
abbrev pub has_scalar : Option Slot → Bool
has_scalar None = false
has_scalar (Some (Unset t)) = true
has_scalar (Some (Number v)) = true
has_scalar (Some (Numbers t vs)) = false

-- the slot of an array is there
abbrev pub has_array : Option Slot → Bool
has_array None = false
has_array (Some (Unset t)) = true
has_array (Some (Number v)) = false
has_array (Some (Numbers t vs)) = true

-- ---- expressions

unfoldable mutual
  -- every variable of an expression, evaluated or not
  pub FindsExpr : Store → Expr → Type 0
  FindsExpr s (Num t n) = Unit {0}
  FindsExpr s (Name v) = IsTrue (has_scalar (slot s v))
  FindsExpr s (Elem' v _ i) = IsTrue (has_array (slot s v)) × FindsPart s i
  FindsExpr s (Un' op _ x) = FindsPart s x
  FindsExpr s (Cast' t _ x) = FindsPart s x
  FindsExpr s (Bin' op _ x _ y) = FindsPart s x × FindsPart s y
  FindsExpr s (Cond' _ x _ y _ z) = FindsPart s x × (FindsPart s y × FindsPart s z)

  pub FindsPart : {m : _} → Store → Row_of-Expr m → Type 0
  FindsPart s end_of-Expr = ⊥
  FindsPart s (more_of-Expr e rest) = FindsExpr s e

abbrev pub FindsExprs : Store → List Expr → Type 0
FindsExprs s [] = Unit {0}
FindsExprs s (e ∷ es) = FindsExpr s e × FindsExprs s es

abbrev pub FindsOptional : Store → Option Expr → Type 0
FindsOptional s None = Unit {0}
FindsOptional s (Some e) = FindsExpr s e

-- ---- statements

abbrev pub FindsPlace : Store → Place → Type 0
FindsPlace s (PlainPlace x) = IsTrue (has_scalar (slot s x))
FindsPlace s (ElemPlace x i) = IsTrue (has_array (slot s x)) × FindsExpr s i

abbrev pub FindsTarget : Store → Target → Type 0
FindsTarget s Nothing = Unit {0}
FindsTarget s (Into x) = IsTrue (has_scalar (slot s x))
FindsTarget s (Declare l) = IsTrue (has_scalar (slot s (Local l)))

-- what a statement itself asks for, in each store in which it begins; of an `if` or a loop, what its condition asks
-- for in each store in which it is evaluated
abbrev pub FindsStmt : List Callee → Store → Stmt → Type 0
FindsStmt cs s Empty = Unit {0}
FindsStmt cs s (Scalar l e) = IsTrue (has_scalar (slot s (Local l))) × FindsOptional (unset_local l s) e
FindsStmt cs s (Array l es) = IsTrue (has_array (slot s (Local l))) × FindsExprs (unset_local l s) es
FindsStmt cs s (Assign p op e) = FindsPlace s p × FindsExpr s e
FindsStmt cs s (Call t g es) =
    IsSome (slice_get cs g) × (FindsTarget s t × FindsExprs (unset_target t s) es)
FindsStmt cs s Break = Unit {0}
FindsStmt cs s Continue = Unit {0}
FindsStmt cs s (Return e) = FindsOptional s e
FindsStmt cs s (If' e _ x _ y) = FindsExpr s e
FindsStmt cs s (While' bound e _ x) = FindsExpr s e
FindsStmt cs s (Do' bound _ x e) = FindsExpr s e
FindsStmt cs s (For' bound i e j _ x) = FindsExpr s e
FindsStmt cs s (Group' _ x) = Unit {0}
