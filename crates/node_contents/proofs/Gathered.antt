-- Blocks that are gathered along a list, and part by part.
use Rattle.std.proofs.Common.{◌≡◌, ◌<◌, ◌≤◌, ℕ, suc, ◌+◌, ◌-◌, Bool, true, false, if◌then◌else◌, Option, List, [], ◌∷◌, ◌++◌, take, drop, length, get_or, refl, sym, ap, ◌∙◌, arith, append_assoc, append-nil, add-one, length-drop}
use Rattle.std.proofs.Math.Seq.{take-suc, drop-cons}
use Rattle.std.proofs.lemmas.List.{drop_all, get_or-drop}
use Rattle.c_tree.specs.declared.tree.Expr.{Expr}
use Rattle.c_tree.specs.declared.tree.Stmt.{Stmt}
use Rattle.c_tree.specs.declared.tree.Stmt.TheVariants.{If, While, Do, For}
use Rattle.c_tree.specs.Meaning.Statements.{held_stmts}
use Rattle.node_contents.proofs.BlockLayers.{blocks_of_stmt-If, blocks_of_stmt-While, blocks_of_stmt-Do, blocks_of_stmt-For}
use Rattle.c_tree.specs.Meaning.Blocks.{is_simple}
use Rattle.flow_laws.specs.BlockLists.{Block, Asks, block_of_run, blocks_of_stmt, blocks_of_list}

-- ---- parts

pub two : (old m new a b : List Block) → m ≡ old ++ a → new ≡ m ++ b → new ≡ old ++ (a ++ b)
two old m new a b h k = k ∙ ap (λ y. y ++ b) h ∙ append_assoc old a b

pub three : (old m n new a b c : List Block) → m ≡ old ++ a → n ≡ m ++ b → new ≡ n ++ c → new ≡ old ++ (a ++ (b ++ c))
three old m n new a b c h k l = two old m new a (b ++ c) h (two m n new b c k l)

-- ---- a list

pub run_more : (xs : List Stmt) (b i : ℕ) (x : Stmt) → b ≤ i → i < length xs → x ≡ get_or xs i x → take (i + 1 - b) (drop b xs) ≡ take (i - b) (drop b xs) ++ x ∷ []
run_more xs b i x le lt is =
    let count : i + 1 - b ≡ suc (i - b) = omega arith in
    let at : b + (i - b) ≡ i = omega arith in
    let room : i - b < length (drop b xs) = omega (arith, length-drop b xs) in
    ap (λ n. take n (drop b xs)) count ∙ take-suc (drop b xs) (i - b) x room ∙ ap (λ y. take (i - b) (drop b xs) ++ y ∷ []) (get_or-drop b xs (i - b) x ∙ ap (λ n. get_or xs n x) at ∙ sym is)

here : (xs : List Stmt) (i : ℕ) (x : Stmt) → i < length xs → x ≡ get_or xs i x → drop i xs ≡ x ∷ drop (i + 1) xs
here xs i x lt is = rw (add-one, drop-cons xs i x) (ap (λ y. y ∷ drop (suc i) xs) (sym is))

pub one_list : (ss rest : List Stmt) (x : Stmt) (c : Bool) → is_simple x ≡ c → blocks_of_list ss (x ∷ rest) ≡ (if c then blocks_of_list (ss ++ x ∷ []) rest else block_of_run ss ++ (blocks_of_stmt x ++ blocks_of_list [] rest))
one_list ss rest x c is = ap (λ d. if d then blocks_of_list (ss ++ x ∷ []) rest else block_of_run ss ++ (blocks_of_stmt x ++ blocks_of_list [] rest)) is

-- with a simple statement
pub simple_step : (xs : List Stmt) (b i : ℕ) (x : Stmt) (out all : List Block) → b ≤ i → i < length xs → x ≡ get_or xs i x → is_simple x ≡ true → out ++ blocks_of_list (take (i - b) (drop b xs)) (drop i xs) ≡ all
    → out ++ blocks_of_list (take (i + 1 - b) (drop b xs)) (drop (i + 1) xs) ≡ all
simple_step xs b i x out all le lt is simple h =
    let run = take (i - b) (drop b xs) in
    ap (λ y. out ++ blocks_of_list y (drop (i + 1) xs)) (run_more xs b i x le lt is) ∙ ap (λ y. out ++ y) (sym (one_list run (drop (i + 1) xs) x true simple)) ∙ ap (λ y. out ++ blocks_of_list run y) (sym (here xs i x lt is)) ∙ h

-- with another one
pub plain_step : (xs : List Stmt) (b i : ℕ) (x : Stmt) (out mid new all : List Block) → i < length xs → x ≡ get_or xs i x → is_simple x ≡ false → mid ≡ out ++ block_of_run (take (i - b) (drop b xs)) → new ≡ mid ++ blocks_of_stmt x → out ++ blocks_of_list (take (i - b) (drop b xs)) (drop i xs) ≡ all
    → new ++ blocks_of_list (take (i + 1 - (i + 1)) (drop (i + 1) xs)) (drop (i + 1) xs) ≡ all
plain_step xs b i x out mid new all lt is plain h k whole =
    let run = take (i - b) (drop b xs) in
    let rest = drop (i + 1) xs in
    let none : i + 1 - (i + 1) ≡ 0 = omega arith in
    ap (λ n. new ++ blocks_of_list (take n rest) rest) none ∙ three out mid new (new ++ blocks_of_list [] rest) (block_of_run run) (blocks_of_stmt x) (blocks_of_list [] rest) h k refl ∙ ap (λ y. out ++ y) (sym (one_list run rest x false plain)) ∙ ap (λ y. out ++ blocks_of_list run y) (sym (here xs i x lt is)) ∙ whole

-- at its end
pub at_end : (xs : List Stmt) (b i : ℕ) (out new all : List Block) → length xs ≤ i → b ≤ i → i ≤ length xs → new ≡ out ++ block_of_run (take (length xs - b) (drop b xs)) → out ++ blocks_of_list (take (i - b) (drop b xs)) (drop i xs) ≡ all → new ≡ all
at_end xs b i out new all past le most h whole =
    let same : length xs ≡ i = omega arith in
    h ∙ ap (λ n. out ++ block_of_run (take (n - b) (drop b xs))) same ∙ ap (λ y. out ++ blocks_of_list (take (i - b) (drop b xs)) y) (sym (drop_all i xs past)) ∙ whole

pub at_first : (xs : List Stmt) (out : List Block) → out ++ blocks_of_list (take (0 - 0) (drop 0 xs)) (drop 0 xs) ≡ out ++ blocks_of_list [] xs
at_first xs out = refl

-- ---- the initialiser or the step of a `for`

pub simple_held : (x : Stmt) → is_simple x ≡ true → block_of_run (x ∷ []) ≡ blocks_of_list [] (x ∷ [])
simple_held x simple = sym (one_list [] [] x true simple)

pub plain_held : (x : Stmt) → is_simple x ≡ false → blocks_of_stmt x ≡ blocks_of_list [] (x ∷ [])
plain_held x plain = sym (one_list [] [] x false plain ∙ append-nil (blocks_of_stmt x))

-- ---- statements with parts

pub if_blocks : (stmt : Stmt) (e : Expr) (xs ys xs' ys' : List Stmt) (old m n new : List Block) → stmt ≡ If e xs ys → m ≡ old ++ Asks e ∷ [] → n ≡ m ++ blocks_of_list [] xs' → xs' ≡ xs → new ≡ n ++ blocks_of_list [] ys' → ys' ≡ ys → new ≡ old ++ blocks_of_stmt stmt
if_blocks stmt e xs ys xs' ys' old m n new is h k ex l ey =
    three old m n new (Asks e ∷ []) (blocks_of_list [] xs) (blocks_of_list [] ys) h (k ∙ ap (λ z. m ++ blocks_of_list [] z) ex) (l ∙ ap (λ z. n ++ blocks_of_list [] z) ey) ∙ ap (λ y. old ++ y) (sym (ap blocks_of_stmt is ∙ blocks_of_stmt-If e xs ys))

pub while_blocks : (stmt : Stmt) (b : ℕ) (e : Expr) (xs xs' : List Stmt) (old m new : List Block) → stmt ≡ While b e xs → m ≡ old ++ Asks e ∷ [] → new ≡ m ++ blocks_of_list [] xs' → xs' ≡ xs → new ≡ old ++ blocks_of_stmt stmt
while_blocks stmt b e xs xs' old m new is h k ex =
    two old m new (Asks e ∷ []) (blocks_of_list [] xs) h (k ∙ ap (λ z. m ++ blocks_of_list [] z) ex) ∙ ap (λ y. old ++ y) (sym (ap blocks_of_stmt is ∙ blocks_of_stmt-While b e xs))

pub do_blocks : (stmt : Stmt) (b : ℕ) (e : Expr) (xs xs' : List Stmt) (old m new : List Block) → stmt ≡ Do b xs e → m ≡ old ++ blocks_of_list [] xs' → xs' ≡ xs → new ≡ m ++ Asks e ∷ [] → new ≡ old ++ blocks_of_stmt stmt
do_blocks stmt b e xs xs' old m new is h ex k =
    two old m new (blocks_of_list [] xs) (Asks e ∷ []) (h ∙ ap (λ z. old ++ blocks_of_list [] z) ex) k ∙ ap (λ y. old ++ y) (sym (ap blocks_of_stmt is ∙ blocks_of_stmt-Do b xs e))

pub for_blocks : (stmt : Stmt) (b : ℕ) (i j : Option Stmt) (e : Expr) (xs xs' : List Stmt) (old m n o new : List Block) → stmt ≡ For b i e j xs → m ≡ old ++ blocks_of_list [] (held_stmts i) → n ≡ m ++ Asks e ∷ [] → o ≡ n ++ blocks_of_list [] (held_stmts j) → new ≡ o ++ blocks_of_list [] xs' → xs' ≡ xs → new ≡ old ++ blocks_of_stmt stmt
for_blocks stmt b i j e xs xs' old m n o new is h k l p ex =
    let rest = three m n o new (Asks e ∷ []) (blocks_of_list [] (held_stmts j)) (blocks_of_list [] xs) k l (p ∙ ap (λ z. o ++ blocks_of_list [] z) ex) in
    two old m new (blocks_of_list [] (held_stmts i)) (Asks e ∷ (blocks_of_list [] (held_stmts j) ++ blocks_of_list [] xs)) h rest ∙ ap (λ y. old ++ y) (sym (ap blocks_of_stmt is ∙ blocks_of_stmt-For b i j e xs))
