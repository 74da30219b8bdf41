-- What the grammar sees to in a unit before its names are looked at: each constant lies in the range of its type, each
-- `op=` has one of its operators, no list of an array is empty, and a `for` begins with a declaration that has an
-- initialiser, or an assignment, and steps by an assignment.
use Rattle.std.specs.Prelude.{◌≤◌, Bool, true, false, IsTrue, List, [], ◌∷◌, length, Option, Some, None, pos}
use Rattle.c_tree.specs.declared.unit.RawExpr.{RawExpr, Row_of-RawExpr, end_of-RawExpr, more_of-RawExpr}
use Rattle.c_tree.specs.declared.unit.RawExpr.TheVariants.{Num, Name, Elem', Un', Cast', Bin', Cond', Paren'}
use Rattle.c_tree.specs.declared.unit.RawPlace.{RawPlace}
use Rattle.c_tree.specs.declared.unit.RawPlace.TheVariants as place
use Rattle.c_tree.specs.declared.unit.RawShape.{RawShape}
use Rattle.c_tree.specs.declared.unit.RawShape.TheVariants as shape
use Rattle.c_tree.specs.declared.unit.RawStmt.{
  RawStmt,
  Row_of-RawStmt,
  end_of-RawStmt,
  more_of-RawStmt,
  Held-RawStmt-For-2,
  None',
  Some',
}
use Rattle.c_tree.specs.declared.unit.RawStmt.TheVariants.{
  Empty,
  Declare,
  Assign,
  Call,
  Break,
  Continue,
  Return,
  If',
  While',
  Do',
  For',
  Group',
}
use Rattle.c_tree.specs.declared.unit.RawTop.{RawTop}
use Rattle.c_tree.specs.declared.unit.RawTop.TheVariants as top
use Rattle.c_tree.specs.declared.unit.Unit.{Unit as Tree}
use Rattle.c_tree.specs.Meaning.Values.{is_of}
use Rattle.c_tree.specs.Keeping.WellFormed.{is_assigning}

-- ---- expressions

unfoldable mutual
  pub ShapedExpr : RawExpr → Type 0
  ShapedExpr (Num at t n) = IsTrue (is_of t (pos n))
  ShapedExpr (Name x) = Unit {0}
  ShapedExpr (Elem' x a i) = ShapedPart i
  ShapedExpr (Un' at op a x) = ShapedPart x
  ShapedExpr (Cast' at t a x) = ShapedPart x
  ShapedExpr (Bin' op a x b y) = ShapedPart x × ShapedPart y
  ShapedExpr (Cond' a x b y c z) = ShapedPart x × (ShapedPart y × ShapedPart z)
  ShapedExpr (Paren' at a x) = ShapedPart x

  pub ShapedPart : {m : _} → Row_of-RawExpr m → Type 0
  ShapedPart end_of-RawExpr = ⊥
  ShapedPart (more_of-RawExpr e rest) = ShapedExpr e

abbrev pub ShapedExprs : List RawExpr → Type 0
ShapedExprs [] = Unit {0}
ShapedExprs (e ∷ es) = ShapedExpr e × ShapedExprs es

abbrev pub ShapedOptional : Option RawExpr → Type 0
ShapedOptional None = Unit {0}
ShapedOptional (Some e) = ShapedExpr e

-- the list of an array, where it has one
abbrev pub ShapedValues : Option (List RawExpr) → Type 0
ShapedValues None = Unit {0}
ShapedValues (Some es) = (1 ≤ length es) × ShapedExprs es

-- ---- statements

abbrev pub ShapedPlace : RawPlace → Type 0
ShapedPlace (place.Scalar x) = Unit {0}
ShapedPlace (place.Elem x i) = ShapedExpr i

abbrev pub ShapedShape : RawShape → Type 0
ShapedShape (shape.Scalar e) = ShapedOptional e
ShapedShape (shape.Array e es) = ShapedOptional e × ShapedValues es

-- the initialiser of a `for`
abbrev pub is_first : RawStmt → Bool
is_first (Declare constant t x (shape.Scalar (Some e))) = true
is_first (Assign p op e) = true
is_first _ = false

-- its step
abbrev pub is_next : RawStmt → Bool
is_next (Assign p op e) = true
is_next _ = false

unfoldable mutual
  pub ShapedStmt : RawStmt → Type 0
  ShapedStmt Empty = Unit {0}
  ShapedStmt (Declare constant t x sh) = ShapedShape sh
  ShapedStmt (Assign p op e) = ShapedPlace p × (IsTrue (is_assigning op) × ShapedExpr e)
  ShapedStmt (Call t f es) = ShapedExprs es
  ShapedStmt (Break at) = Unit {0}
  ShapedStmt (Continue at) = Unit {0}
  ShapedStmt (Return at e) = ShapedOptional e
  ShapedStmt (If' e a x b y) = ShapedExpr e × (ShapedRow x × ShapedRow y)
  ShapedStmt (While' at k e a x) = ShapedExpr e × ShapedRow x
  ShapedStmt (Do' at k a x e) = ShapedRow x × ShapedExpr e
  ShapedStmt (For' at k i e j a x) =
      ShapedHeld is_first i × (ShapedExpr e × (ShapedHeld is_next j × ShapedRow x))
  ShapedStmt (Group' a x) = ShapedRow x

  pub ShapedRow : {m : _} → Row_of-RawStmt m → Type 0
  ShapedRow end_of-RawStmt = Unit {0}
  ShapedRow (more_of-RawStmt s rest) = ShapedStmt s × ShapedRow rest

  pub ShapedHeld : (RawStmt → Bool) → Held-RawStmt-For-2 → Type 0
  ShapedHeld sort None' = Unit {0}
  ShapedHeld sort (Some' a x) = ShapedSole sort x

  pub ShapedSole : {m : _} → (RawStmt → Bool) → Row_of-RawStmt m → Type 0
  ShapedSole sort end_of-RawStmt = ⊥
  ShapedSole sort (more_of-RawStmt s rest) = IsTrue (sort s) × (ShapedStmt s × ShapedRow rest)

abbrev pub ShapedList : List RawStmt → Type 0
ShapedList [] = Unit {0}
ShapedList (s ∷ rest) = ShapedStmt s × ShapedList rest

-- ---- file scope

abbrev pub ShapedTop : RawTop → Type 0
ShapedTop (top.Outer constant t x e) = ShapedOptional e
ShapedTop (top.Global kept constant t x sh) = ShapedShape sh
ShapedTop (top.Func g) = ShapedList g.body

abbrev pub ShapedTops : List RawTop → Type 0
ShapedTops [] = Unit {0}
ShapedTops (t ∷ ts) = ShapedTop t × ShapedTops ts

abbrev pub ShapedUnit : Tree → Type 0
ShapedUnit u = ShapedTops u.tops
