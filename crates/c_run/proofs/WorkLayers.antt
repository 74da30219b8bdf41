-- The work of a statement, one layer at a time, as code opens it.
use Rattle.std.proofs.Common.{◌≡◌, ℕ, ◌+◌, List, [], ◌∷◌, Option, Some, None, refl, ap}
use Rattle.c_tree.specs.declared.tree.Expr.{Expr}
use Rattle.c_tree.specs.declared.tree.Place.{Place}
use Rattle.c_tree.specs.declared.tree.Target.{Target}
use Rattle.c_tree.specs.declared.tree.BinOp.{BinOp}
use Rattle.c_tree.specs.declared.tree.Stmt.{Stmt}
use Rattle.c_tree.specs.declared.tree.Stmt.TheVariants.{Empty, Scalar, Array, Assign, Call, Break, Continue, Return, If, While, Do, For, Group}
use Rattle.c_tree.specs.declared.tree.Stmt.TheBlock.{shape-the_row-Stmt-0, hidden-the_row-Stmt-0, shape-the_row-Stmt-1, hidden-the_row-Stmt-1, back-Stmt-For-1}
use denote.Hole.Carrier.{hidden}
use Rattle.c_tree.specs.Meaning.Statements.{held_stmts}
use Rattle.c_run.specs.Work.{work_at, while_work, do_work, work, row_work, held_work, list_work}

row_is : (ws : List ℕ) (xs : List Stmt) → row_work ws (hidden-the_row-Stmt-0 xs) ≡ list_work ws xs
unfolding work row_work shape-the_row-Stmt-0 hidden-the_row-Stmt-0 hidden
row_is ws [] = refl
row_is ws (x ∷ xs) = ap (λ n. 2 + work ws x + n) (row_is ws xs)

held_is : (ws : List ℕ) (o : Option Stmt) → held_work ws (back-Stmt-For-1 o) ≡ list_work ws (held_stmts o)
unfolding work row_work held_work shape-the_row-Stmt-1 hidden-the_row-Stmt-1 hidden
held_is ws None = refl
held_is ws (Some a) = refl

pub work-Empty : (ws : List ℕ) → work ws Empty ≡ 1
unfolding work
work-Empty ws = refl

pub work-Scalar : (ws : List ℕ) (l : ℕ) (e : Option Expr) → work ws (Scalar l e) ≡ 1
unfolding work
work-Scalar ws l e = refl

pub work-Array : (ws : List ℕ) (l : ℕ) (es : List Expr) → work ws (Array l es) ≡ 1
unfolding work
work-Array ws l es = refl

pub work-Assign : (ws : List ℕ) (p : Place) (op : Option BinOp) (e : Expr) → work ws (Assign p op e) ≡ 1
unfolding work
work-Assign ws p op e = refl

pub work-Call : (ws : List ℕ) (t : Target) (g : ℕ) (es : List Expr) → work ws (Call t g es) ≡ 2 + work_at ws g
unfolding work
work-Call ws t g es = refl

pub work-Break : (ws : List ℕ) → work ws Break ≡ 1
unfolding work
work-Break ws = refl

pub work-Continue : (ws : List ℕ) → work ws Continue ≡ 1
unfolding work
work-Continue ws = refl

pub work-Return : (ws : List ℕ) (e : Option Expr) → work ws (Return e) ≡ 1
unfolding work
work-Return ws e = refl

pub work-If : (ws : List ℕ) (e : Expr) (xs ys : List Stmt) → work ws (If e xs ys) ≡ 1 + list_work ws xs + list_work ws ys
unfolding work
work-If ws e xs ys = λ i. 1 + row_is ws xs i + row_is ws ys i

pub work-While : (ws : List ℕ) (k : ℕ) (e : Expr) (xs : List Stmt) → work ws (While k e xs) ≡ 1 + while_work k (list_work ws xs) 1
unfolding work
work-While ws k e xs = λ i. 1 + while_work k (row_is ws xs i) 1

pub work-Do : (ws : List ℕ) (k : ℕ) (xs : List Stmt) (e : Expr) → work ws (Do k xs e) ≡ 1 + do_work k (list_work ws xs)
unfolding work
work-Do ws k xs e = λ i. 1 + do_work k (row_is ws xs i)

pub work-For : (ws : List ℕ) (k : ℕ) (a b : Option Stmt) (e : Expr) (xs : List Stmt) → work ws (For k a e b xs) ≡ 3 + list_work ws (held_stmts a) + while_work k (list_work ws xs) (list_work ws (held_stmts b))
unfolding work
work-For ws k a b e xs = λ i. 3 + held_is ws a i + while_work k (row_is ws xs i) (held_is ws b i)

pub work-Group : (ws : List ℕ) (xs : List Stmt) → work ws (Group xs) ≡ 1 + list_work ws xs
unfolding work
work-Group ws xs = λ i. 1 + row_is ws xs i
