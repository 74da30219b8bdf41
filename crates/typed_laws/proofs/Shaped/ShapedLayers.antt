-- What a shaped statement is that holds others, one layer at a time.
use Rattle.std.proofs.Common.{◌≡◌, ℕ, Bool, List, [], ◌∷◌, ◌++◌, Option, Some, None, refl}
use Rattle.std.specs.Prelude.{IsTrue}
use Rattle.c_tree.specs.declared.unit.RawBound.{RawBound}
use Rattle.c_tree.specs.declared.unit.RawExpr.{RawExpr}
use Rattle.c_tree.specs.declared.unit.RawStmt.{RawStmt}
use Rattle.c_tree.specs.declared.unit.RawStmt.TheVariants as stmt
use Rattle.c_tree.specs.declared.unit.RawStmt.TheBlock as in_stmt
use denote.Hole.Carrier.{hidden}
use Rattle.typed_laws.specs.Shaped.{ShapedExpr, ShapedStmt, ShapedRow, ShapedHeld, ShapedSole, ShapedList, is_first, is_next}

row_is : (xs : List RawStmt) → ShapedRow (in_stmt.hidden-the_row-RawStmt-0 xs) ≡ ShapedList xs
unfolding ShapedStmt ShapedRow in_stmt.shape-the_row-RawStmt-0 in_stmt.hidden-the_row-RawStmt-0 hidden
row_is [] = refl
row_is (x ∷ xs) = λ i. ShapedStmt x × row_is xs i

-- one statement of a sort, or none
abbrev pub ShapedMaybe : (RawStmt → Bool) → Option RawStmt → Type 0
ShapedMaybe sort None = Unit {0}
ShapedMaybe sort (Some x) = IsTrue (sort x) × (ShapedStmt x × Unit {0})

held_is : (sort : RawStmt → Bool) (o : Option RawStmt) → ShapedHeld sort (in_stmt.back-RawStmt-For-2 o) ≡ ShapedMaybe sort o
unfolding ShapedStmt ShapedRow ShapedHeld ShapedSole in_stmt.shape-the_row-RawStmt-1 in_stmt.hidden-the_row-RawStmt-1 hidden
held_is sort None = refl
held_is sort (Some x) = refl

pub shaped-If : (a : RawExpr) (xs ys : List RawStmt) → ShapedStmt (stmt.If a xs ys) ≡ (ShapedExpr a × (ShapedList xs × ShapedList ys))
unfolding ShapedStmt
shaped-If a xs ys = λ i. ShapedExpr a × (row_is xs i × row_is ys i)

pub shaped-While : (at : ℕ) (bound : Option RawBound) (a : RawExpr) (xs : List RawStmt) → ShapedStmt (stmt.While at bound a xs) ≡ (ShapedExpr a × ShapedList xs)
unfolding ShapedStmt
shaped-While at bound a xs = λ i. ShapedExpr a × row_is xs i

pub shaped-Do : (at : ℕ) (bound : Option RawBound) (xs : List RawStmt) (a : RawExpr) → ShapedStmt (stmt.Do at bound xs a) ≡ (ShapedList xs × ShapedExpr a)
unfolding ShapedStmt
shaped-Do at bound xs a = λ i. row_is xs i × ShapedExpr a

pub shaped-For : (at : ℕ) (bound : Option RawBound) (i : Option RawStmt) (a : RawExpr) (j : Option RawStmt) (xs : List RawStmt)
    → ShapedStmt (stmt.For at bound i a j xs) ≡ (ShapedMaybe is_first i × (ShapedExpr a × (ShapedMaybe is_next j × ShapedList xs)))
unfolding ShapedStmt
shaped-For at bound i a j xs = λ k. held_is is_first i k × (ShapedExpr a × (held_is is_next j k × row_is xs k))

pub shaped-Group : (xs : List RawStmt) → ShapedStmt (stmt.Group xs) ≡ ShapedList xs
unfolding ShapedStmt
shaped-Group xs = row_is xs

pub shaped_append : (xs ys : List RawStmt) → ShapedList xs → ShapedList ys → ShapedList (xs ++ ys)
shaped_append [] ys h k = k
shaped_append (x ∷ xs) ys h k = (h.0, shaped_append xs ys h.1 k)
