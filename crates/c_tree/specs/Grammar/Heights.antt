-- Heights of trees.
use Rattle.std.specs.Prelude.{ℕ, suc, max, List, [], ◌∷◌, Option, Some, None}
use Rattle.c_tree.specs.declared.unit.RawExpr.{RawExpr, Row_of-RawExpr, end_of-RawExpr, more_of-RawExpr}
use Rattle.c_tree.specs.declared.unit.RawExpr.TheVariants.{Num, Name, Elem', Un', Cast', Bin', Cond', Paren'}
use Rattle.c_tree.specs.declared.unit.RawPlace.{RawPlace}
use Rattle.c_tree.specs.declared.unit.RawPlace.TheVariants as place
use Rattle.c_tree.specs.declared.unit.RawShape.{RawShape}
use Rattle.c_tree.specs.declared.unit.RawShape.TheVariants as shape
use Rattle.c_tree.specs.declared.unit.RawStmt.{
  RawStmt,
  Row_of-RawStmt,
  end_of-RawStmt,
  more_of-RawStmt,
  Held-RawStmt-For-2,
  None',
  Some',
}
use Rattle.c_tree.specs.declared.unit.RawStmt.TheVariants.{
  Empty,
  Declare,
  Assign,
  Call,
  Break,
  Continue,
  Return,
  If',
  While',
  Do',
  For',
  Group',
}
use Rattle.c_tree.specs.declared.unit.RawTop.{RawTop}
use Rattle.c_tree.specs.declared.unit.RawTop.TheVariants as top
use Rattle.c_tree.specs.declared.unit.Unit.{Unit as Tree}

unfoldable mutual
  -- a number or a name has height 1; every other expression, also one in parentheses, 1 more than its highest part
  pub height : RawExpr → ℕ
  height (Num at to n) = 1
  height (Name x) = 1
  height (Elem' x _ i) = suc (row_height i)
  height (Un' at o a x) = suc (row_height x)
  height (Cast' at to a x) = suc (row_height x)
  height (Bin' o _ x _ y) = suc (max (row_height x) (row_height y))
  height (Cond' _ x _ y _ z) = suc (max (row_height x) (max (row_height y) (row_height z)))
  height (Paren' at a x) = suc (row_height x)

  pub row_height : {m : _} → Row_of-RawExpr m → ℕ
  row_height end_of-RawExpr = 0
  row_height (more_of-RawExpr a rest) = height a

-- the greatest height of the expressions that are there, and 0 where there is none
abbrev pub option_height : Option RawExpr → ℕ
option_height None = 0
option_height (Some a) = height a

abbrev pub list_height : List RawExpr → ℕ
list_height [] = 0
list_height (a ∷ rest) = max (height a) (list_height rest)

abbrev pub values_height : Option (List RawExpr) → ℕ
values_height None = 0
values_height (Some list) = list_height list

abbrev pub shape_height : RawShape → ℕ
shape_height (shape.Scalar value) = option_height value
shape_height (shape.Array size values) = max (option_height size) (values_height values)

-- what is assigned to counts as an expression
abbrev pub place_height : RawPlace → ℕ
place_height (place.Scalar x) = 1
place_height (place.Elem x a) = suc (height a)

unfoldable mutual
  -- 1 more than the highest expression or statement in the statement
  pub stmt_height : RawStmt → ℕ
  stmt_height Empty = 1
  stmt_height (Declare constant to x form) = suc (shape_height form)
  stmt_height (Assign x o a) = suc (max (place_height x) (height a))
  stmt_height (Call target x arguments) = suc (list_height arguments)
  stmt_height (Break at) = 1
  stmt_height (Continue at) = 1
  stmt_height (Return at a) = suc (option_height a)
  stmt_height (If' a _ xs _ ys) = suc (max (height a) (max (stmts_height xs) (stmts_height ys)))
  stmt_height (While' at bound a m xs) = suc (max (height a) (stmts_height xs))
  stmt_height (Do' at bound m xs a) = suc (max (stmts_height xs) (height a))
  stmt_height (For' at bound i a j m xs) = suc
      (max (held_height i) (max (height a) (max (held_height j) (stmts_height xs))))
  stmt_height (Group' _ xs) = suc (stmts_height xs)

  pub stmts_height : {m : _} → Row_of-RawStmt m → ℕ
  stmts_height end_of-RawStmt = 0
  stmts_height (more_of-RawStmt a rest) = max (stmt_height a) (stmts_height rest)

  pub held_height : Held-RawStmt-For-2 → ℕ
  held_height None' = 0
  held_height (Some' _ x) = stmts_height x

abbrev pub body_height : List RawStmt → ℕ
body_height [] = 0
body_height (a ∷ rest) = max (stmt_height a) (body_height rest)

abbrev pub top_height : RawTop → ℕ
top_height (top.Outer constant to x size) = option_height size
top_height (top.Global kept constant to x form) = shape_height form
top_height (top.Func f) = body_height f.body

abbrev pub tops_height : List RawTop → ℕ
tops_height [] = 0
tops_height (a ∷ rest) = max (top_height a) (tops_height rest)

-- the height of a text's tree
abbrev pub unit_height : Tree → ℕ
unit_height unit = tops_height unit.tops
