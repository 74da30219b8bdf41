-- The height, one layer at a time.
use Rattle.std.proofs.Common.{◌≡◌, ℕ, suc, max, ◌<◌, List, [], ◌∷◌, ◌++◌, Option, Bool, refl, ap, arith}
use Rattle.c_tree.specs.declared.tree.Ty.{Ty}
use Rattle.c_tree.specs.declared.tree.UnOp.{UnOp}
use Rattle.c_tree.specs.declared.tree.BinOp.{BinOp}
use Rattle.c_tree.specs.declared.unit.Spot.{Spot}
use Rattle.c_tree.specs.declared.unit.RawPlace.{RawPlace}
use Rattle.c_tree.specs.declared.unit.RawShape.{RawShape}
use Rattle.c_tree.specs.declared.unit.RawExpr.{RawExpr}
use Rattle.c_tree.specs.declared.unit.RawExpr.TheVariants.{Num, Name, Elem, Un, Cast, Bin, Cond, Paren, Elem', Un', Cast', Bin', Cond', Paren'}
use Rattle.c_tree.specs.declared.unit.RawExpr.TheBlock as in_expr
use Rattle.c_tree.specs.declared.unit.RawStmt.{RawStmt}
use Rattle.c_tree.specs.declared.unit.RawStmt.TheVariants as stmt
use Rattle.c_tree.specs.declared.unit.RawStmt.TheVariants.{Empty, Declare, Assign, Call, Break, Continue, Return, If', While', Do', For', Group'}
use Rattle.c_tree.specs.declared.unit.RawStmt.TheBlock as in_stmt
use denote.Hole.Carrier.{hidden}
use Rattle.c_tree.specs.Grammar.Heights.{height, row_height, option_height, shape_height, place_height, stmt_height, stmts_height, body_height}

pub height-Num : (at : ℕ) (to : Ty) (n : ℕ) → height (Num at to n) ≡ 1
unfolding height
height-Num at to n = refl

pub height-Name : (x : Spot) → height (Name x) ≡ 1
unfolding height
height-Name x = refl

pub height-Bin : (o : BinOp) (a b : RawExpr) → height (Bin o a b) ≡ suc (max (height a) (height b))
unfolding height row_height in_expr.shape-the_row-RawExpr-0 in_expr.hidden-the_row-RawExpr-0 hidden
height-Bin o a b = refl

pub height-Elem : (x : Spot) (i : RawExpr) → height (Elem x i) ≡ suc (height i)
unfolding height row_height in_expr.shape-the_row-RawExpr-0 in_expr.hidden-the_row-RawExpr-0 hidden
height-Elem x i = refl

pub height-Un : (at : ℕ) (o : UnOp) (a : RawExpr) → height (Un at o a) ≡ suc (height a)
unfolding height row_height in_expr.shape-the_row-RawExpr-0 in_expr.hidden-the_row-RawExpr-0 hidden
height-Un at o a = refl

pub height-Cast : (at : ℕ) (to : Ty) (a : RawExpr) → height (Cast at to a) ≡ suc (height a)
unfolding height row_height in_expr.shape-the_row-RawExpr-0 in_expr.hidden-the_row-RawExpr-0 hidden
height-Cast at to a = refl

pub height-Cond : (a b c : RawExpr) → height (Cond a b c) ≡ suc (max (height a) (max (height b) (height c)))
unfolding height row_height in_expr.shape-the_row-RawExpr-0 in_expr.hidden-the_row-RawExpr-0 hidden
height-Cond a b c = refl

pub height-Paren : (at : ℕ) (a : RawExpr) → height (Paren at a) ≡ suc (height a)
unfolding height row_height in_expr.shape-the_row-RawExpr-0 in_expr.hidden-the_row-RawExpr-0 hidden
height-Paren at a = refl

-- every expression has a height
pub height-pos : (a : RawExpr) → 0 < height a
unfolding height
height-pos (Num at to n) = omega arith
height-pos (Name x) = omega arith
height-pos (Elem' x a i) = omega arith
height-pos (Un' at o a x) = omega arith
height-pos (Cast' at to a x) = omega arith
height-pos (Bin' o a x b y) = omega arith
height-pos (Cond' a x b y c z) = omega arith
height-pos (Paren' at a x) = omega arith

pub ruleset height_layers = (height-Num, height-Name, height-Elem, height-Un, height-Cast, height-Bin, height-Cond, height-Paren)

pub ruleset some_height = (height-pos)

-- ---- statements

row_is : (xs : List RawStmt) → stmts_height (in_stmt.hidden-the_row-RawStmt-0 xs) ≡ body_height xs
unfolding stmt_height stmts_height in_stmt.shape-the_row-RawStmt-0 in_stmt.hidden-the_row-RawStmt-0 hidden
row_is [] = refl
row_is (x ∷ xs) = ap (λ n. max (stmt_height x) n) (row_is xs)

pub height-Empty : stmt_height Empty ≡ 1
unfolding stmt_height
height-Empty = refl

pub height-Declare : (constant : Bool) (to : Ty) (x : Spot) (form : RawShape) → stmt_height (Declare constant to x form) ≡ suc (shape_height form)
unfolding stmt_height
height-Declare constant to x form = refl

pub height-Assign : (x : RawPlace) (o : Option BinOp) (a : RawExpr) → stmt_height (Assign x o a) ≡ suc (max (place_height x) (height a))
unfolding stmt_height
height-Assign x o a = refl

pub height-Return : (at : ℕ) (a : Option RawExpr) → stmt_height (Return at a) ≡ suc (option_height a)
unfolding stmt_height
height-Return at a = refl

pub height-If : (a : RawExpr) (xs ys : List RawStmt) → stmt_height (stmt.If a xs ys) ≡ suc (max (height a) (max (body_height xs) (body_height ys)))
unfolding stmt_height
height-If a xs ys = λ i. suc (max (height a) (max (row_is xs i) (row_is ys i)))

pub height-Group : (xs : List RawStmt) → stmt_height (stmt.Group xs) ≡ suc (body_height xs)
unfolding stmt_height
height-Group xs = λ i. suc (row_is xs i)

pub stmt_height-pos : (a : RawStmt) → 0 < stmt_height a
unfolding stmt_height
stmt_height-pos Empty = omega arith
stmt_height-pos (Declare constant to x form) = omega arith
stmt_height-pos (Assign x o a) = omega arith
stmt_height-pos (Call target x arguments) = omega arith
stmt_height-pos (Break at) = omega arith
stmt_height-pos (Continue at) = omega arith
stmt_height-pos (Return at a) = omega arith
stmt_height-pos (If' a m xs n ys) = omega arith
stmt_height-pos (While' at bound a m xs) = omega arith
stmt_height-pos (Do' at bound m xs a) = omega arith
stmt_height-pos (For' at bound i a j m xs) = omega arith
stmt_height-pos (Group' m xs) = omega arith

pub body_height-append : (xs ys : List RawStmt) → body_height (xs ++ ys) ≡ max (body_height xs) (body_height ys)
body_height-append [] ys = omega arith
body_height-append (x ∷ xs) ys = omega (arith, body_height-append xs ys)

pub ruleset stmt_layers = (height-Empty, height-Declare, height-Assign, height-Return, height-If, height-Group, body_height-append)
