-- The height of a statement that holds others, one layer at a time.
use Rattle.std.proofs.Common.{◌≡◌, ℕ, suc, max, List, [], ◌∷◌, Option, Some, None, refl, ap, arith}
use Rattle.c_tree.specs.declared.unit.Spot.{Spot}
use Rattle.c_tree.specs.declared.unit.RawBound.{RawBound}
use Rattle.c_tree.specs.declared.unit.RawExpr.{RawExpr}
use Rattle.c_tree.specs.declared.unit.RawTarget.{RawTarget}
use Rattle.c_tree.specs.declared.unit.RawStmt.{RawStmt}
use Rattle.c_tree.specs.declared.unit.RawStmt.TheVariants as stmt
use Rattle.c_tree.specs.declared.unit.RawStmt.TheBlock.{shape-the_row-RawStmt-0, hidden-the_row-RawStmt-0, shape-the_row-RawStmt-1, hidden-the_row-RawStmt-1, back-RawStmt-For-2}
use denote.Hole.Carrier.{hidden}
use Rattle.c_tree.specs.Grammar.Heights.{height, list_height, stmt_height, stmts_height, held_height, body_height}

-- the height of a statement that may be missing
abbrev pub held : Option RawStmt → ℕ
held None = 0
held (Some x) = stmt_height x

row_is : (xs : List RawStmt) → stmts_height (hidden-the_row-RawStmt-0 xs) ≡ body_height xs
unfolding stmt_height stmts_height shape-the_row-RawStmt-0 hidden-the_row-RawStmt-0 hidden
row_is [] = refl
row_is (x ∷ xs) = ap (λ (n : ℕ). max (stmt_height x) n) (row_is xs)

held_is : (o : Option RawStmt) → held_height (back-RawStmt-For-2 o) ≡ held o
unfolding stmt_height stmts_height held_height shape-the_row-RawStmt-1 hidden-the_row-RawStmt-1 hidden
held_is None = refl
held_is (Some x) = let single : max (stmt_height x) 0 ≡ stmt_height x = omega arith in single

pub height-Call : (to : RawTarget) (f : Spot) (list : List RawExpr) → stmt_height (stmt.Call to f list) ≡ suc (list_height list)
unfolding stmt_height
height-Call to f list = refl

pub height-Break : (at : ℕ) → stmt_height (stmt.Break at) ≡ 1
unfolding stmt_height
height-Break at = refl

pub height-Continue : (at : ℕ) → stmt_height (stmt.Continue at) ≡ 1
unfolding stmt_height
height-Continue at = refl

pub height-While : (at : ℕ) (bound : Option RawBound) (a : RawExpr) (xs : List RawStmt) → stmt_height (stmt.While at bound a xs) ≡ suc (max (height a) (body_height xs))
unfolding stmt_height
height-While at bound a xs = λ i. suc (max (height a) (row_is xs i))

pub height-Do : (at : ℕ) (bound : Option RawBound) (xs : List RawStmt) (a : RawExpr) → stmt_height (stmt.Do at bound xs a) ≡ suc (max (body_height xs) (height a))
unfolding stmt_height
height-Do at bound xs a = λ i. suc (max (row_is xs i) (height a))

pub height-For : (at : ℕ) (bound : Option RawBound) (i : Option RawStmt) (a : RawExpr) (j : Option RawStmt) (xs : List RawStmt)
    → stmt_height (stmt.For at bound i a j xs) ≡ suc (max (held i) (max (height a) (max (held j) (body_height xs))))
unfolding stmt_height
height-For at bound i a j xs = λ k. suc (max (held_is i k) (max (height a) (max (held_is j k) (row_is xs k))))
