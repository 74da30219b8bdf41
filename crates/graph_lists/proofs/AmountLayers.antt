-- The amount of a statement, one layer at a time, as code opens it.
use Rattle.std.proofs.Common.{◌≡◌, ℕ, Bool, false, List, [], ◌∷◌, Option, Some, None, refl, ap}
use Rattle.c_tree.specs.declared.tree.Expr.{Expr}
use Rattle.c_tree.specs.declared.tree.Place.{Place}
use Rattle.c_tree.specs.declared.tree.Target.{Target}
use Rattle.c_tree.specs.declared.tree.BinOp.{BinOp}
use Rattle.c_tree.specs.declared.tree.Stmt.{Stmt}
use Rattle.c_tree.specs.declared.tree.Stmt.TheVariants.{Empty, Scalar, Array, Assign, Call, Break, Continue, Return, If, While, Do, For, Group}
use Rattle.c_tree.specs.declared.tree.Stmt.TheBlock.{shape-the_row-Stmt-0, hidden-the_row-Stmt-0, shape-the_row-Stmt-1, hidden-the_row-Stmt-1, back-Stmt-For-1}
use denote.Hole.Carrier.{hidden}
use Rattle.c_tree.specs.Meaning.Blocks.{is_simple}
use Rattle.graph_lists.specs.declared.sizes.Weights.{Weights}
use Rattle.graph_lists.specs.Amounts.{capped_sum, begun_amount, call_amount, amount, row_amount, part_amount, list_amount, held_amount}

pub row_is : (v : Weights) (ds : List ℕ) (xs : List Stmt) (run : Bool) → row_amount v ds (hidden-the_row-Stmt-0 xs) run ≡ list_amount v ds xs run
unfolding amount row_amount shape-the_row-Stmt-0 hidden-the_row-Stmt-0 hidden
row_is v ds [] run = refl
row_is v ds (x ∷ xs) run = ap (capped_sum (amount v ds x run)) (row_is v ds xs (is_simple x))

pub held_is : (v : Weights) (ds : List ℕ) (o : Option Stmt) → part_amount v ds (back-Stmt-For-1 o) ≡ held_amount v ds o
unfolding amount row_amount part_amount shape-the_row-Stmt-1 hidden-the_row-Stmt-1 hidden
held_is v ds None = refl
held_is v ds (Some a) = refl

pub amount-Empty : (v : Weights) (ds : List ℕ) (run : Bool) → amount v ds Empty run ≡ begun_amount run
unfolding amount
amount-Empty v ds run = refl

pub amount-Scalar : (v : Weights) (ds : List ℕ) (l : ℕ) (e : Option Expr) (run : Bool) → amount v ds (Scalar l e) run ≡ begun_amount run
unfolding amount
amount-Scalar v ds l e run = refl

pub amount-Array : (v : Weights) (ds : List ℕ) (l : ℕ) (es : List Expr) (run : Bool) → amount v ds (Array l es) run ≡ begun_amount run
unfolding amount
amount-Array v ds l es run = refl

pub amount-Assign : (v : Weights) (ds : List ℕ) (p : Place) (op : Option BinOp) (e : Expr) (run : Bool) → amount v ds (Assign p op e) run ≡ begun_amount run
unfolding amount
amount-Assign v ds p op e run = refl

pub amount-Call : (v : Weights) (ds : List ℕ) (t : Target) (g : ℕ) (es : List Expr) (run : Bool) → amount v ds (Call t g es) run ≡ call_amount v ds g
unfolding amount
amount-Call v ds t g es run = refl

pub amount-Break : (v : Weights) (ds : List ℕ) (run : Bool) → amount v ds Break run ≡ 1
unfolding amount
amount-Break v ds run = refl

pub amount-Continue : (v : Weights) (ds : List ℕ) (run : Bool) → amount v ds Continue run ≡ 1
unfolding amount
amount-Continue v ds run = refl

pub amount-Return : (v : Weights) (ds : List ℕ) (e : Option Expr) (run : Bool) → amount v ds (Return e) run ≡ 1
unfolding amount
amount-Return v ds e run = refl

pub amount-If : (v : Weights) (ds : List ℕ) (e : Expr) (xs ys : List Stmt) (run : Bool) → amount v ds (If e xs ys) run ≡ capped_sum v.test (capped_sum (list_amount v ds xs false) (list_amount v ds ys false))
unfolding amount
amount-If v ds e xs ys run = λ i. capped_sum v.test (capped_sum (row_is v ds xs false i) (row_is v ds ys false i))

pub amount-While : (v : Weights) (ds : List ℕ) (k : ℕ) (e : Expr) (xs : List Stmt) (run : Bool) → amount v ds (While k e xs) run ≡ capped_sum v.test (list_amount v ds xs false)
unfolding amount
amount-While v ds k e xs run = λ i. capped_sum v.test (row_is v ds xs false i)

pub amount-Do : (v : Weights) (ds : List ℕ) (k : ℕ) (xs : List Stmt) (e : Expr) (run : Bool) → amount v ds (Do k xs e) run ≡ capped_sum v.test (list_amount v ds xs false)
unfolding amount
amount-Do v ds k xs e run = λ i. capped_sum v.test (row_is v ds xs false i)

pub amount-For : (v : Weights) (ds : List ℕ) (k : ℕ) (a j : Option Stmt) (e : Expr) (xs : List Stmt) (run : Bool) → amount v ds (For k a e j xs) run ≡ capped_sum (held_amount v ds a) (capped_sum v.test (capped_sum (held_amount v ds j) (list_amount v ds xs false)))
unfolding amount
amount-For v ds k a j e xs run = λ i. capped_sum (held_is v ds a i) (capped_sum v.test (capped_sum (held_is v ds j i) (row_is v ds xs false i)))

pub amount-Group : (v : Weights) (ds : List ℕ) (xs : List Stmt) (run : Bool) → amount v ds (Group xs) run ≡ list_amount v ds xs false
unfolding amount
amount-Group v ds xs run = row_is v ds xs false

pub ruleset amount_layers = (amount-Empty, amount-Scalar, amount-Array, amount-Assign, amount-Call, amount-Break, amount-Continue, amount-Return, amount-If, amount-While, amount-Do, amount-For, amount-Group)
