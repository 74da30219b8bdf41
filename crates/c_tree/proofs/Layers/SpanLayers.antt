-- The span of a statement, one layer at a time, as code opens it.
use Rattle.std.proofs.Common.{◌≡◌, ℕ, ◌+◌, ◌*◌, Bool, false, List, [], ◌∷◌, Option, Some, None, refl, ap}
use Rattle.c_tree.specs.declared.tree.Expr.{Expr}
use Rattle.c_tree.specs.declared.tree.Place.{Place}
use Rattle.c_tree.specs.declared.tree.Target.{Target}
use Rattle.c_tree.specs.declared.tree.BinOp.{BinOp}
use Rattle.c_tree.specs.declared.tree.Stmt.{Stmt}
use Rattle.c_tree.specs.declared.tree.Stmt.TheVariants.{Empty, Scalar, Array, Assign, Call, Break, Continue, Return, If, While, Do, For, Group}
use Rattle.c_tree.specs.declared.tree.Stmt.TheBlock.{shape-the_row-Stmt-0, hidden-the_row-Stmt-0, shape-the_row-Stmt-1, hidden-the_row-Stmt-1, back-Stmt-For-1}
use denote.Hole.Carrier.{hidden}
use Rattle.c_tree.specs.Meaning.Blocks.{is_simple}
use Rattle.c_tree.specs.Meaning.Statements.{held_stmts}
use Rattle.c_tree.specs.Meaning.Spans.{begun_span, span_at, span, row_span, held_span, list_span}

pub row_is : (ss : List ℕ) (k : ℕ) (xs : List Stmt) (run : Bool) → row_span ss k (hidden-the_row-Stmt-0 xs) run ≡ list_span ss k xs run
unfolding span row_span shape-the_row-Stmt-0 hidden-the_row-Stmt-0 hidden
row_is ss k [] run = refl
row_is ss k (x ∷ xs) run = ap (λ n. span ss k x run + n) (row_is ss k xs (is_simple x))

held_is : (ss : List ℕ) (k : ℕ) (o : Option Stmt) → held_span ss k (back-Stmt-For-1 o) ≡ list_span ss k (held_stmts o) false
unfolding span row_span held_span shape-the_row-Stmt-1 hidden-the_row-Stmt-1 hidden
held_is ss k None = refl
held_is ss k (Some a) = refl

pub span-Empty : (ss : List ℕ) (k : ℕ) (run : Bool) → span ss k Empty run ≡ begun_span k run
unfolding span
span-Empty ss k run = refl

pub span-Scalar : (ss : List ℕ) (k : ℕ) (l : ℕ) (e : Option Expr) (run : Bool) → span ss k (Scalar l e) run ≡ begun_span k run
unfolding span
span-Scalar ss k l e run = refl

pub span-Array : (ss : List ℕ) (k : ℕ) (l : ℕ) (es : List Expr) (run : Bool) → span ss k (Array l es) run ≡ begun_span k run
unfolding span
span-Array ss k l es run = refl

pub span-Assign : (ss : List ℕ) (k : ℕ) (p : Place) (op : Option BinOp) (e : Expr) (run : Bool) → span ss k (Assign p op e) run ≡ begun_span k run
unfolding span
span-Assign ss k p op e run = refl

pub span-Call : (ss : List ℕ) (k : ℕ) (t : Target) (g : ℕ) (es : List Expr) (run : Bool) → span ss k (Call t g es) run ≡ k + k * span_at ss g
unfolding span
span-Call ss k t g es run = refl

pub span-Break : (ss : List ℕ) (k : ℕ) (run : Bool) → span ss k Break run ≡ k
unfolding span
span-Break ss k run = refl

pub span-Continue : (ss : List ℕ) (k : ℕ) (run : Bool) → span ss k Continue run ≡ k
unfolding span
span-Continue ss k run = refl

pub span-Return : (ss : List ℕ) (k : ℕ) (e : Option Expr) (run : Bool) → span ss k (Return e) run ≡ k
unfolding span
span-Return ss k e run = refl

pub span-If : (ss : List ℕ) (k : ℕ) (e : Expr) (xs ys : List Stmt) (run : Bool) → span ss k (If e xs ys) run ≡ k + list_span ss k xs false + list_span ss k ys false
unfolding span
span-If ss k e xs ys run = λ i. k + row_is ss k xs false i + row_is ss k ys false i

pub span-While : (ss : List ℕ) (k b : ℕ) (e : Expr) (xs : List Stmt) (run : Bool) → span ss k (While b e xs) run ≡ k * (b + 1) + list_span ss (k * b) xs false
unfolding span
span-While ss k b e xs run = λ i. k * (b + 1) + row_is ss (k * b) xs false i

pub span-Do : (ss : List ℕ) (k b : ℕ) (xs : List Stmt) (e : Expr) (run : Bool) → span ss k (Do b xs e) run ≡ list_span ss (k * b) xs false + k * b
unfolding span
span-Do ss k b xs e run = λ i. row_is ss (k * b) xs false i + k * b

pub span-For : (ss : List ℕ) (k b : ℕ) (a c : Option Stmt) (e : Expr) (xs : List Stmt) (run : Bool) → span ss k (For b a e c xs) run ≡ list_span ss k (held_stmts a) false + k * (b + 1) + list_span ss (k * b) (held_stmts c) false + list_span ss (k * b) xs false
unfolding span
span-For ss k b a c e xs run =
    λ i. held_is ss k a i + k * (b + 1) + held_is ss (k * b) c i + row_is ss (k * b) xs false i

pub span-Group : (ss : List ℕ) (k : ℕ) (xs : List Stmt) (run : Bool) → span ss k (Group xs) run ≡ list_span ss k xs false
unfolding span
span-Group ss k xs run = row_is ss k xs false

pub ruleset span_layers = (span-Empty, span-Scalar, span-Array, span-Assign, span-Call, span-Break, span-Continue, span-Return, span-If, span-While, span-Do, span-For, span-Group)
