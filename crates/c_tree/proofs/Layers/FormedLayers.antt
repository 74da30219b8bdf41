-- What a well-formed expression or statement is, one layer at a time, as code opens it.
use Rattle.std.proofs.Common.{◌≡◌, ℕ, Bool, true, false, List, [], ◌∷◌, Option, Some, None, refl}
use Rattle.std.specs.Prelude.{IsTrue}
use Rattle.c_tree.specs.declared.tree.Ty.{Ty}
use Rattle.c_tree.specs.declared.tree.UnOp.{UnOp}
use Rattle.c_tree.specs.declared.tree.BinOp.{BinOp}
use Rattle.c_tree.specs.declared.tree.Var.{Var}
use Rattle.c_tree.specs.declared.tree.Expr.{Expr}
use Rattle.c_tree.specs.declared.tree.Expr.TheVariants.{Elem, Un, Cast, Bin, Cond}
use Rattle.c_tree.specs.declared.tree.Expr.TheBlock.{shape-the_row-Expr-0, hidden-the_row-Expr-0}
use Rattle.c_tree.specs.declared.tree.Stmt.{Stmt}
use Rattle.c_tree.specs.declared.tree.Stmt.TheVariants.{If, While, Do, For, Group}
use Rattle.c_tree.specs.declared.tree.Stmt.TheBlock.{shape-the_row-Stmt-0, hidden-the_row-Stmt-0, shape-the_row-Stmt-1, hidden-the_row-Stmt-1, back-Stmt-For-1}
use denote.Hole.Carrier.{hidden}
use Rattle.c_tree.specs.Keeping.Layouts.{Layout, shape, is_array}
use Rattle.c_tree.specs.Keeping.WellFormed.{Context, WellFormedExpr, WellFormedPart, WellFormedStmt, WellFormedRow, WellFormedHeld, WellFormedSole, WellFormedList, IsLoopBound, is_initialiser, is_step}

pub formed-Un : (l : Layout) (op : UnOp) (a : Expr) → WellFormedExpr l (Un op a) ≡ WellFormedExpr l a
unfolding WellFormedExpr WellFormedPart shape-the_row-Expr-0 hidden-the_row-Expr-0 hidden
formed-Un l op a = refl

pub formed-Elem : (l : Layout) (x : Var) (i : Expr) → WellFormedExpr l (Elem x i) ≡ (IsTrue (is_array (shape l x)) × WellFormedExpr l i)
unfolding WellFormedExpr WellFormedPart shape-the_row-Expr-0 hidden-the_row-Expr-0 hidden
formed-Elem l x i = refl

pub formed-Cast : (l : Layout) (t : Ty) (a : Expr) → WellFormedExpr l (Cast t a) ≡ WellFormedExpr l a
unfolding WellFormedExpr WellFormedPart shape-the_row-Expr-0 hidden-the_row-Expr-0 hidden
formed-Cast l t a = refl

pub formed-Bin : (l : Layout) (op : BinOp) (a b : Expr) → WellFormedExpr l (Bin op a b) ≡ (WellFormedExpr l a × WellFormedExpr l b)
unfolding WellFormedExpr WellFormedPart shape-the_row-Expr-0 hidden-the_row-Expr-0 hidden
formed-Bin l op a b = refl

pub formed-Cond : (l : Layout) (c a b : Expr) → WellFormedExpr l (Cond c a b) ≡ (WellFormedExpr l c × (WellFormedExpr l a × WellFormedExpr l b))
unfolding WellFormedExpr WellFormedPart shape-the_row-Expr-0 hidden-the_row-Expr-0 hidden
formed-Cond l c a b = refl

row_is : (c : Context) (looped : Bool) (xs : List Stmt) → WellFormedRow c looped (hidden-the_row-Stmt-0 xs) ≡ WellFormedList c looped xs
unfolding WellFormedStmt WellFormedRow shape-the_row-Stmt-0 hidden-the_row-Stmt-0 hidden
row_is c looped [] = refl
row_is c looped (x ∷ xs) = λ i. WellFormedStmt c looped x × row_is c looped xs i

pub formed-If : (c : Context) (looped : Bool) (e : Expr) (xs ys : List Stmt) → WellFormedStmt c looped (If e xs ys) ≡ (WellFormedExpr c.layout e × (WellFormedList c looped xs × WellFormedList c looped ys))
unfolding WellFormedStmt
formed-If c looped e xs ys = λ i. WellFormedExpr c.layout e × (row_is c looped xs i × row_is c looped ys i)

pub formed-While : (c : Context) (looped : Bool) (k : ℕ) (e : Expr) (xs : List Stmt) → WellFormedStmt c looped (While k e xs) ≡ (IsLoopBound k × (WellFormedExpr c.layout e × WellFormedList c true xs))
unfolding WellFormedStmt
formed-While c looped k e xs = λ i. IsLoopBound k × (WellFormedExpr c.layout e × row_is c true xs i)

pub formed-Do : (c : Context) (looped : Bool) (k : ℕ) (xs : List Stmt) (e : Expr) → WellFormedStmt c looped (Do k xs e) ≡ (IsLoopBound k × (WellFormedList c true xs × WellFormedExpr c.layout e))
unfolding WellFormedStmt
formed-Do c looped k xs e = λ i. IsLoopBound k × (row_is c true xs i × WellFormedExpr c.layout e)

-- one statement of a sort, or none
abbrev pub WellFormedMaybe : Context → (Stmt → Bool) → Option Stmt → Type 0
WellFormedMaybe c sort None = Unit {0}
WellFormedMaybe c sort (Some s) = IsTrue (sort s) × (WellFormedStmt c false s × Unit {0})

held_is : (c : Context) (sort : Stmt → Bool) (o : Option Stmt) → WellFormedHeld c sort (back-Stmt-For-1 o) ≡ WellFormedMaybe c sort o
unfolding WellFormedStmt WellFormedRow WellFormedHeld WellFormedSole shape-the_row-Stmt-1 hidden-the_row-Stmt-1 hidden
held_is c sort None = refl
held_is c sort (Some s) = refl

pub formed-For : (c : Context) (looped : Bool) (k : ℕ) (a b : Option Stmt) (e : Expr) (xs : List Stmt) → WellFormedStmt c looped (For k a e b xs) ≡ (IsLoopBound k × (WellFormedMaybe c is_initialiser a × (WellFormedExpr c.layout e × (WellFormedMaybe c is_step b × WellFormedList c true xs))))
unfolding WellFormedStmt
formed-For c looped k a b e xs =
    λ i. IsLoopBound k × (held_is c is_initialiser a i × (WellFormedExpr c.layout e × (held_is c is_step b i × row_is c true xs i)))

pub formed-Group : (c : Context) (looped : Bool) (xs : List Stmt) → WellFormedStmt c looped (Group xs) ≡ WellFormedList c looped xs
unfolding WellFormedStmt
formed-Group c looped xs = row_is c looped xs

pub ruleset formed_layers = (formed-Elem, formed-Un, formed-Cast, formed-Bin, formed-Cond, formed-If, formed-While, formed-Do, formed-For, formed-Group)
