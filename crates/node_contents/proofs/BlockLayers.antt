-- The blocks of a statement, one layer at a time, as code opens it.
use Rattle.std.proofs.Common.{◌≡◌, ℕ, if◌then◌else◌, List, [], ◌∷◌, ◌++◌, Option, Some, None, refl, ap}
use Rattle.c_tree.specs.declared.tree.Expr.{Expr}
use Rattle.c_tree.specs.declared.tree.Target.{Target}
use Rattle.c_tree.specs.declared.tree.Stmt.{Stmt}
use Rattle.c_tree.specs.declared.tree.Stmt.TheVariants.{Call, Break, Continue, Return, If, While, Do, For, Group}
use Rattle.c_tree.specs.declared.tree.Stmt.TheBlock.{shape-the_row-Stmt-0, hidden-the_row-Stmt-0, shape-the_row-Stmt-1, hidden-the_row-Stmt-1, back-Stmt-For-1}
use denote.Hole.Carrier.{hidden}
use Rattle.c_tree.specs.Meaning.Blocks.{is_simple}
use Rattle.c_tree.specs.Meaning.Statements.{held_stmts}
use Rattle.flow_laws.specs.BlockLists.{Asks, Jumps, Gives, Calls, block_of_run, blocks_of_stmt, blocks_of_row, blocks_of_held, blocks_of_list}

row_is : (ss xs : List Stmt) → blocks_of_row ss (hidden-the_row-Stmt-0 xs) ≡ blocks_of_list ss xs
unfolding blocks_of_stmt blocks_of_row shape-the_row-Stmt-0 hidden-the_row-Stmt-0 hidden
row_is ss [] = refl
row_is ss (x ∷ xs) = λ i. if is_simple x then row_is (ss ++ x ∷ []) xs i else block_of_run ss ++ (blocks_of_stmt x ++ row_is [] xs i)

held_is : (o : Option Stmt) → blocks_of_held (back-Stmt-For-1 o) ≡ blocks_of_list [] (held_stmts o)
unfolding blocks_of_stmt blocks_of_row blocks_of_held shape-the_row-Stmt-1 hidden-the_row-Stmt-1 hidden
held_is None = refl
held_is (Some a) = refl

pub blocks_of_stmt-Call : (t : Target) (g : ℕ) (es : List Expr) → blocks_of_stmt (Call t g es) ≡ Calls t g es ∷ []
unfolding blocks_of_stmt
blocks_of_stmt-Call t g es = refl

pub blocks_of_stmt-Break : blocks_of_stmt Break ≡ Jumps ∷ []
unfolding blocks_of_stmt
blocks_of_stmt-Break = refl

pub blocks_of_stmt-Continue : blocks_of_stmt Continue ≡ Jumps ∷ []
unfolding blocks_of_stmt
blocks_of_stmt-Continue = refl

pub blocks_of_stmt-Return : (e : Option Expr) → blocks_of_stmt (Return e) ≡ Gives e ∷ []
unfolding blocks_of_stmt
blocks_of_stmt-Return e = refl

pub blocks_of_stmt-If : (e : Expr) (xs ys : List Stmt) → blocks_of_stmt (If e xs ys) ≡ Asks e ∷ (blocks_of_list [] xs ++ blocks_of_list [] ys)
unfolding blocks_of_stmt
blocks_of_stmt-If e xs ys = λ i. Asks e ∷ (row_is [] xs i ++ row_is [] ys i)

pub blocks_of_stmt-While : (k : ℕ) (e : Expr) (xs : List Stmt) → blocks_of_stmt (While k e xs) ≡ Asks e ∷ blocks_of_list [] xs
unfolding blocks_of_stmt
blocks_of_stmt-While k e xs = ap (λ ps. Asks e ∷ ps) (row_is [] xs)

pub blocks_of_stmt-Do : (k : ℕ) (xs : List Stmt) (e : Expr) → blocks_of_stmt (Do k xs e) ≡ blocks_of_list [] xs ++ Asks e ∷ []
unfolding blocks_of_stmt
blocks_of_stmt-Do k xs e = ap (λ ps. ps ++ Asks e ∷ []) (row_is [] xs)

pub blocks_of_stmt-For : (k : ℕ) (i j : Option Stmt) (e : Expr) (xs : List Stmt) → blocks_of_stmt (For k i e j xs) ≡ blocks_of_list [] (held_stmts i) ++ (Asks e ∷ (blocks_of_list [] (held_stmts j) ++ blocks_of_list [] xs))
unfolding blocks_of_stmt
blocks_of_stmt-For k i j e xs = λ z. held_is i z ++ (Asks e ∷ (held_is j z ++ row_is [] xs z))

pub blocks_of_stmt-Group : (xs : List Stmt) → blocks_of_stmt (Group xs) ≡ blocks_of_list [] xs
unfolding blocks_of_stmt
blocks_of_stmt-Group xs = row_is [] xs

pub ruleset block_layers = (blocks_of_stmt-Call, blocks_of_stmt-Break, blocks_of_stmt-Continue, blocks_of_stmt-Return, blocks_of_stmt-If, blocks_of_stmt-While, blocks_of_stmt-Do, blocks_of_stmt-For, blocks_of_stmt-Group)
