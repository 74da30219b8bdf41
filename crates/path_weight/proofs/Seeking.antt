-- A block that is sought along one list of blocks and then along another.
use Rattle.std.proofs.Common.{◌≡◌, ◌<◌, ◌≤◌, ℕ, zero, suc, ◌+◌, ◌-◌, Bool, true, false, if◌then◌else◌, Option, List, [], ◌∷◌, ◌++◌, take, drop, length, get_or, Result, Ok, Err, refl, sym, ap, ◌∙◌, arith, length-drop}
use Rattle.std.specs.Result.{IsErrAnd}
use Rattle.std.proofs.Math.Seq.{take-suc}
use Rattle.std.proofs.lemmas.List.{get_or-drop}
use Rattle.c_tree.specs.declared.tree.Expr.{Expr}
use Rattle.c_tree.specs.declared.tree.Stmt.{Stmt}
use Rattle.c_tree.specs.declared.tree.Stmt.TheVariants.{For}
use Rattle.c_tree.specs.Meaning.Statements.{held_stmts}
use Rattle.c_tree.specs.Meaning.Blocks.{is_simple}
use Rattle.node_contents.proofs.BlockLayers.{blocks_of_stmt-For}
use Rattle.flow_laws.specs.BlockLists.{Block, Asks, block_of_run, blocks_of_stmt, blocks_of_list}
use Rattle.path_weight.specs.declared.blocks.Found.{Found}
use Rattle.path_weight.specs.Sought.{sought}
use Rattle.plain_laws.proofs.Lists.{drop-read}
use Rattle.node_contents.proofs.Gathered.{run_more, one_list}

abbrev pub then_sought : (Block → ℕ) → List Block → Result ℕ Found → Result ℕ Found
then_sought w bs (Ok n) = sought w bs n
then_sought w bs (Err f) = Err f

pub sought_append : (w : Block → ℕ) (xs ys : List Block) (n : ℕ) → sought w (xs ++ ys) n ≡ then_sought w ys (sought w xs n)
sought_append w [] ys n = refl
sought_append w (x ∷ xs) ys zero = refl
sought_append w (x ∷ xs) ys (suc n) = sought_append w xs ys n

pub sought_none : (w : Block → ℕ) (n : ℕ) → sought w [] n ≡ Ok n
sought_none w n = refl

pub ruleset seeking = (sought_append, sought_none)

-- ---- parts

pub on_ok : (w : Block → ℕ) (xs ys : List Block) (n m : ℕ) → sought w xs n ≡ Ok m → sought w (xs ++ ys) n ≡ sought w ys m
on_ok w xs ys n m h = sought_append w xs ys n ∙ ap (then_sought w ys) h

pub on_err : (w : Block → ℕ) (xs ys : List Block) (n : ℕ) (f : Found) → sought w xs n ≡ Err f → sought w (xs ++ ys) n ≡ Err f
on_err w xs ys n f h = sought_append w xs ys n ∙ ap (then_sought w ys) h

-- a `for`, up to its body
pub for_parts : (w : Block → ℕ) (stmt : Stmt) (b : ℕ) (i j : Option Stmt) (e : Expr) (xs : List Stmt) (n m k : ℕ) → stmt ≡ For b i e j xs → sought w (blocks_of_list [] (held_stmts i)) n ≡ Ok m → sought w (Asks e ∷ []) m ≡ Ok k
    → sought w (blocks_of_stmt stmt) n ≡ sought w (blocks_of_list [] (held_stmts j) ++ blocks_of_list [] xs) k
for_parts w stmt b i j e xs n m k is h l =
    let rest = blocks_of_list [] (held_stmts j) ++ blocks_of_list [] xs in
    ap (λ s. sought w (blocks_of_stmt s) n) is ∙ ap (λ bs. sought w bs n) (blocks_of_stmt-For b i j e xs) ∙ on_ok w (blocks_of_list [] (held_stmts i)) (Asks e ∷ rest) n m h ∙ on_ok w (Asks e ∷ []) rest m k l

-- what a `?` hands on
pub err_is : (r : Result ℕ Found) (f : Found) → IsErrAnd r (λ e. e ≡ f) → r ≡ Err f
err_is (Ok n) f h = absurd h
err_is (Err e) f h = ap Err h

-- ---- a list

-- with a simple statement the blocks stay as they are
pub simple_step : (xs : List Stmt) (b i : ℕ) (x : Stmt) → b ≤ i → i < length xs → x ≡ get_or xs i x → is_simple x ≡ true
    → blocks_of_list (take (i + 1 - b) (drop b xs)) (drop (i + 1) xs) ≡ blocks_of_list (take (i - b) (drop b xs)) (drop i xs)
simple_step xs b i x le lt is simple =
    let run = take (i - b) (drop b xs) in
    ap (λ y. blocks_of_list y (drop (i + 1) xs)) (run_more xs b i x le lt is) ∙ sym (one_list run (drop (i + 1) xs) x true simple) ∙ ap (λ y. blocks_of_list run y) (sym (drop-read xs i x lt is))

-- at another one
pub plain_step : (w : Block → ℕ) (xs : List Stmt) (b i : ℕ) (x : Stmt) (n m : ℕ) → i < length xs → x ≡ get_or xs i x → is_simple x ≡ false → sought w (block_of_run (take (i - b) (drop b xs))) n ≡ Ok m
    → sought w (blocks_of_list (take (i - b) (drop b xs)) (drop i xs)) n ≡ sought w (blocks_of_stmt x ++ blocks_of_list [] (drop (i + 1) xs)) m
plain_step w xs b i x n m lt is plain h =
    let run = take (i - b) (drop b xs) in
    let rest = drop (i + 1) xs in
    ap (λ y. sought w (blocks_of_list run y) n) (drop-read xs i x lt is) ∙ ap (λ bs. sought w bs n) (one_list run rest x false plain) ∙ on_ok w (block_of_run run) (blocks_of_stmt x ++ blocks_of_list [] rest) n m h

pub no_run : (xs : List Stmt) (i : ℕ) → blocks_of_list (take (i + 1 - (i + 1)) (drop (i + 1) xs)) (drop (i + 1) xs) ≡ blocks_of_list [] (drop (i + 1) xs)
no_run xs i =
    let none : i + 1 - (i + 1) ≡ 0 = omega arith in
    ap (λ n. blocks_of_list (take n (drop (i + 1) xs)) (drop (i + 1) xs)) none
