-- The blocks and the effect of a statement, one layer at a time, as code opens it.
use Rattle.std.proofs.Common.{◌≡◌, ℕ, ◌+◌, Bool, false, List, [], ◌∷◌, Option, Some, None, refl, ap, if◌then◌else◌}
use Rattle.std.specs.Prelude.{slice_get}
use Rattle.c_tree.specs.declared.tree.Expr.{Expr}
use Rattle.c_tree.specs.declared.tree.Place.{Place}
use Rattle.c_tree.specs.declared.tree.Target.{Target}
use Rattle.c_tree.specs.declared.tree.BinOp.{BinOp}
use Rattle.c_tree.specs.declared.tree.Stmt.{Stmt}
use Rattle.c_tree.specs.declared.tree.Stmt.TheVariants.{Empty, Scalar, Array, Assign, Call, Break, Continue, Return, If, While, Do, For, Group}
use Rattle.c_tree.specs.declared.tree.Stmt.TheBlock.{shape-the_row-Stmt-0, hidden-the_row-Stmt-0, shape-the_row-Stmt-1, hidden-the_row-Stmt-1, back-Stmt-For-1}
use denote.Hole.Carrier.{hidden}
use Rattle.c_tree.specs.declared.value.Store.{Store}
use Rattle.c_tree.specs.declared.value.Way.TheVariants as way
use Rattle.c_tree.specs.Meaning.Values.{is_nonzero}
use Rattle.c_tree.specs.Meaning.Expressions.{val, all_values}
use Rattle.c_tree.specs.Meaning.Blocks.{is_simple, begun_blocks, blocks, row_blocks, held_blocks, list_blocks}
use Rattle.c_tree.specs.Meaning.Statements.{Callee, Ends, entered_block, store_outcome, simple, unset_target, call, return_value, after, then_do, with_value, block, while_turns, do_turns, exec, row_exec, held_exec, list_exec, held_stmts}

pub row_is : (xs : List Stmt) (run : Bool) → row_blocks (hidden-the_row-Stmt-0 xs) run ≡ list_blocks xs run
unfolding blocks row_blocks shape-the_row-Stmt-0 hidden-the_row-Stmt-0 hidden
row_is [] run = refl
row_is (x ∷ xs) run = ap (λ n. blocks x run + n) (row_is xs (is_simple x))

pub row_does : (cs : List Callee) (f : ℕ) (xs : List Stmt) (n : ℕ) (run : Bool) (s : Store) → row_exec cs f (hidden-the_row-Stmt-0 xs) n run s ≡ list_exec cs f xs n run s
unfolding exec row_exec shape-the_row-Stmt-0 hidden-the_row-Stmt-0 hidden
row_does cs f [] n run s = refl
row_does cs f (x ∷ xs) n run s =
    ap (then_do (exec cs f x n run s)) (λ i s'. row_does cs f xs (n + blocks x run) (is_simple x) s' i)

pub held_is : (o : Option Stmt) → held_blocks (back-Stmt-For-1 o) ≡ list_blocks (held_stmts o) false
unfolding blocks row_blocks held_blocks shape-the_row-Stmt-1 hidden-the_row-Stmt-1 hidden
held_is None = refl
held_is (Some a) = refl

held_does : (cs : List Callee) (f : ℕ) (o : Option Stmt) (n : ℕ) (s : Store) → held_exec cs f (back-Stmt-For-1 o) n s ≡ list_exec cs f (held_stmts o) n false s
unfolding exec row_exec held_exec shape-the_row-Stmt-1 hidden-the_row-Stmt-1 hidden
held_does cs f None n s = refl
held_does cs f (Some a) n s = refl

pub blocks-If : (e : Expr) (xs ys : List Stmt) (run : Bool) → blocks (If e xs ys) run ≡ 1 + list_blocks xs false + list_blocks ys false
unfolding blocks
blocks-If e xs ys run = λ i. 1 + row_is xs false i + row_is ys false i

pub blocks-While : (k : ℕ) (e : Expr) (xs : List Stmt) (run : Bool) → blocks (While k e xs) run ≡ 1 + list_blocks xs false
unfolding blocks
blocks-While k e xs run = λ i. 1 + row_is xs false i

pub blocks-Group : (xs : List Stmt) (run : Bool) → blocks (Group xs) run ≡ list_blocks xs false
unfolding blocks
blocks-Group xs run = row_is xs false

pub exec-If : (cs : List Callee) (f : ℕ) (e : Expr) (xs ys : List Stmt) (n : ℕ) (run : Bool) (s : Store) → exec cs f (If e xs ys) n run s ≡ after (block f n ∷ []) (with_value (val e s) (λ v. if is_nonzero v then list_exec cs f xs (n + 1) false s else list_exec cs f ys (n + 1 + list_blocks xs false) false s))
unfolding exec
exec-If cs f e xs ys n run s =
    λ i. after (block f n ∷ []) (with_value (val e s) (λ v. if is_nonzero v then row_does cs f xs (n + 1) false s i else row_does cs f ys (n + 1 + row_is xs false i) false s i))

pub exec-While : (cs : List Callee) (f k : ℕ) (e : Expr) (xs : List Stmt) (n : ℕ) (run : Bool) (s : Store) → exec cs f (While k e xs) n run s ≡ while_turns k (block f n) e (list_exec cs f xs (n + 1) false) (λ s'. Ends [] s' way.Next) s
unfolding exec
exec-While cs f k e xs n run s =
    λ i. while_turns k (block f n) e (λ s'. row_does cs f xs (n + 1) false s' i) (λ s'. Ends [] s' way.Next) s

pub exec-Group : (cs : List Callee) (f : ℕ) (xs : List Stmt) (n : ℕ) (run : Bool) (s : Store) → exec cs f (Group xs) n run s ≡ list_exec cs f xs n false s
unfolding exec
exec-Group cs f xs n run s = row_does cs f xs n false s

pub blocks-Do : (k : ℕ) (xs : List Stmt) (e : Expr) (run : Bool) → blocks (Do k xs e) run ≡ list_blocks xs false + 1
unfolding blocks
blocks-Do k xs e run = λ i. row_is xs false i + 1

pub exec-Do : (cs : List Callee) (f k : ℕ) (xs : List Stmt) (e : Expr) (n : ℕ) (run : Bool) (s : Store) → exec cs f (Do k xs e) n run s ≡ do_turns k (block f (n + list_blocks xs false)) e (list_exec cs f xs n false) s
unfolding exec
exec-Do cs f k xs e n run s =
    λ i. do_turns k (block f (n + row_is xs false i)) e (λ s'. row_does cs f xs n false s' i) s

pub exec-For : (cs : List Callee) (f k : ℕ) (a b : Option Stmt) (e : Expr) (xs : List Stmt) (n : ℕ) (run : Bool) (s : Store) → exec cs f (For k a e b xs) n run s ≡ let at = n + list_blocks (held_stmts a) false in then_do (list_exec cs f (held_stmts a) n false s) (while_turns k (block f at) e (list_exec cs f xs (at + 1 + list_blocks (held_stmts b) false) false) (list_exec cs f (held_stmts b) (at + 1) false))
unfolding exec
exec-For cs f k a b e xs n run s =
    λ i. let at = n + held_is a i in then_do (held_does cs f a n s i) (while_turns k (block f at) e (λ s'. row_does cs f xs (at + 1 + held_is b i) false s' i) (λ s'. held_does cs f b (at + 1) s' i))

pub blocks-For : (k : ℕ) (a b : Option Stmt) (e : Expr) (xs : List Stmt) (run : Bool) → blocks (For k a e b xs) run ≡ list_blocks (held_stmts a) false + 1 + list_blocks (held_stmts b) false + list_blocks xs false
unfolding blocks
blocks-For k a b e xs run = λ i. held_is a i + 1 + held_is b i + row_is xs false i

pub blocks-Empty : (run : Bool) → blocks Empty run ≡ begun_blocks run
unfolding blocks
blocks-Empty run = refl

pub blocks-Scalar : (l : ℕ) (e : Option Expr) (run : Bool) → blocks (Scalar l e) run ≡ begun_blocks run
unfolding blocks
blocks-Scalar l e run = refl

pub blocks-Array : (l : ℕ) (es : List Expr) (run : Bool) → blocks (Array l es) run ≡ begun_blocks run
unfolding blocks
blocks-Array l es run = refl

pub blocks-Assign : (p : Place) (op : Option BinOp) (e : Expr) (run : Bool) → blocks (Assign p op e) run ≡ begun_blocks run
unfolding blocks
blocks-Assign p op e run = refl

pub blocks-Call : (t : Target) (g : ℕ) (es : List Expr) (run : Bool) → blocks (Call t g es) run ≡ 1
unfolding blocks
blocks-Call t g es run = refl

pub blocks-Break : (run : Bool) → blocks Break run ≡ 1
unfolding blocks
blocks-Break run = refl

pub blocks-Continue : (run : Bool) → blocks Continue run ≡ 1
unfolding blocks
blocks-Continue run = refl

pub blocks-Return : (e : Option Expr) (run : Bool) → blocks (Return e) run ≡ 1
unfolding blocks
blocks-Return e run = refl

pub exec-Empty : (cs : List Callee) (f : ℕ) (n : ℕ) (run : Bool) (s : Store) → exec cs f Empty n run s ≡ after (entered_block f n run) (store_outcome (simple Empty s))
unfolding exec
exec-Empty cs f n run s = refl

pub exec-Scalar : (cs : List Callee) (f : ℕ) (l : ℕ) (e : Option Expr) (n : ℕ) (run : Bool) (s : Store) → exec cs f (Scalar l e) n run s ≡ after (entered_block f n run) (store_outcome (simple (Scalar l e) s))
unfolding exec
exec-Scalar cs f l e n run s = refl

pub exec-Array : (cs : List Callee) (f : ℕ) (l : ℕ) (es : List Expr) (n : ℕ) (run : Bool) (s : Store) → exec cs f (Array l es) n run s ≡ after (entered_block f n run) (store_outcome (simple (Array l es) s))
unfolding exec
exec-Array cs f l es n run s = refl

pub exec-Assign : (cs : List Callee) (f : ℕ) (p : Place) (op : Option BinOp) (e : Expr) (n : ℕ) (run : Bool) (s : Store) → exec cs f (Assign p op e) n run s ≡ after (entered_block f n run) (store_outcome (simple (Assign p op e) s))
unfolding exec
exec-Assign cs f p op e n run s = refl

pub exec-Call : (cs : List Callee) (f : ℕ) (t : Target) (g : ℕ) (es : List Expr) (n : ℕ) (run : Bool) (s : Store) → exec cs f (Call t g es) n run s ≡ after (block f n ∷ []) (call (slice_get cs g) t (all_values es (unset_target t s)) (unset_target t s))
unfolding exec
exec-Call cs f t g es n run s = refl

pub exec-Break : (cs : List Callee) (f : ℕ) (n : ℕ) (run : Bool) (s : Store) → exec cs f Break n run s ≡ Ends (block f n ∷ []) s way.Break
unfolding exec
exec-Break cs f n run s = refl

pub exec-Continue : (cs : List Callee) (f : ℕ) (n : ℕ) (run : Bool) (s : Store) → exec cs f Continue n run s ≡ Ends (block f n ∷ []) s way.Continue
unfolding exec
exec-Continue cs f n run s = refl

pub exec-Return : (cs : List Callee) (f : ℕ) (e : Option Expr) (n : ℕ) (run : Bool) (s : Store) → exec cs f (Return e) n run s ≡ after (block f n ∷ []) (return_value e s)
unfolding exec
exec-Return cs f e n run s = refl

pub ruleset exec_layers = (blocks-Empty, blocks-Scalar, blocks-Array, blocks-Assign, blocks-Call, blocks-Break, blocks-Continue, blocks-Return, blocks-If, blocks-While, blocks-Do, blocks-For, blocks-Group, exec-If, exec-While, exec-Do, exec-For, exec-Group)
