-- The text of a statement behind another text, one layer at a time, as code writes it.
use Rattle.std.proofs.Common.{◌≡◌, ℕ, false, ◌+◌, List, [], ◌∷◌, ◌++◌, Option, Some, None, length, refl, sym, ◌∙◌, ap}
use Rattle.std.specs.Prelude.{◌==◌, codes}
use Rattle.std.proofs.lemmas.List.{append-nil}
use Rattle.c_tree.specs.declared.tree.BinOp.{BinOp}
use Rattle.c_tree.specs.declared.tree.Expr.{Expr}
use Rattle.c_tree.specs.declared.tree.Place.{Place}
use Rattle.c_tree.specs.declared.tree.Target.{Target}
use Rattle.c_tree.specs.declared.tree.Stmt.{Stmt}
use Rattle.c_tree.specs.declared.tree.Stmt.TheVariants.{Empty, Scalar, Array, Assign, Call, Break, Continue, Return, If, While, Do, For, Group}
use Rattle.c_tree.specs.declared.tree.Stmt.TheBlock.{shape-the_row-Stmt-0, hidden-the_row-Stmt-0, shape-the_row-Stmt-1, hidden-the_row-Stmt-1, back-Stmt-For-1}
use denote.Hole.Carrier.{hidden}
use Rattle.c_tree.specs.declared.program.Func.{Func}
use Rattle.c_tree.specs.declared.program.Program.{Program}
use Rattle.print_laws.specs.PrintedExpressions.{expr_text}
use Rattle.print_laws.specs.PrintedStatements.{line, declaration_text, list_text, value_part, place_text, assign_text, target_text, called_text, return_text, simple_text, bound_text, for_text, stmt_text, row_lines, else_text, held_text, sole_text, stmts_text, otherwise_text, part_text}
use Rattle.print_laws.proofs.Composing.Pieces.{two, three, four}

-- ---- statements of one line

pub simple-Empty : (s : List ℕ) (p : Program) (f : Func) → s ++ simple_text p f Empty ≡ s
unfolding simple_text
simple-Empty s p f = append-nil s

pub simple-Scalar : (s : List ℕ) (p : Program) (f : Func) (n : ℕ) (e : Option Expr)
    → s ++ simple_text p f (Scalar n e) ≡ s ++ declaration_text f n ++ value_part p f e
unfolding simple_text
simple-Scalar s p f n e = two s (declaration_text f n) (value_part p f e)

pub simple-Array : (s : List ℕ) (p : Program) (f : Func) (n : ℕ) (es : List Expr)
    → s ++ simple_text p f (Array n es) ≡ s ++ declaration_text f n ++ codes " = " ++ list_text (expr_text p f) es
unfolding simple_text
simple-Array s p f n es = three s (declaration_text f n) (codes " = ") (list_text (expr_text p f) es)

pub simple-Assign : (s : List ℕ) (p : Program) (f : Func) (x : Place) (o : Option BinOp) (e : Expr)
    → s ++ simple_text p f (Assign x o e) ≡ s ++ place_text p f x ++ assign_text o ++ expr_text p f e
unfolding simple_text
simple-Assign s p f x o e = three s (place_text p f x) (assign_text o) (expr_text p f e)

pub simple-Call : (s : List ℕ) (p : Program) (f : Func) (t : Target) (g : ℕ) (es : List Expr)
    → s ++ simple_text p f (Call t g es) ≡ s ++ target_text p f t ++ called_text p f g es
unfolding simple_text
simple-Call s p f t g es = two s (target_text p f t) (called_text p f g es)

pub simple-Break : (p : Program) (f : Func) → simple_text p f Break ≡ codes "break"
unfolding simple_text
simple-Break p f = refl

pub simple-Continue : (p : Program) (f : Func) → simple_text p f Continue ≡ codes "continue"
unfolding simple_text
simple-Continue p f = refl

pub simple-Return : (p : Program) (f : Func) (e : Option Expr) → simple_text p f (Return e) ≡ return_text p f e
unfolding simple_text
simple-Return p f e = refl

pub simple-If : (s : List ℕ) (p : Program) (f : Func) (e : Expr) (xs ys : List Stmt) → s ++ simple_text p f (If e xs ys) ≡ s
unfolding simple_text
simple-If s p f e xs ys = append-nil s

pub simple-While : (s : List ℕ) (p : Program) (f : Func) (n : ℕ) (e : Expr) (xs : List Stmt) → s ++ simple_text p f (While n e xs) ≡ s
unfolding simple_text
simple-While s p f n e xs = append-nil s

pub simple-Do : (s : List ℕ) (p : Program) (f : Func) (n : ℕ) (xs : List Stmt) (e : Expr) → s ++ simple_text p f (Do n xs e) ≡ s
unfolding simple_text
simple-Do s p f n xs e = append-nil s

pub simple-For : (s : List ℕ) (p : Program) (f : Func) (n : ℕ) (i j : Option Stmt) (e : Expr) (xs : List Stmt) → s ++ simple_text p f (For n i e j xs) ≡ s
unfolding simple_text
simple-For s p f n i j e xs = append-nil s

pub simple-Group : (s : List ℕ) (p : Program) (f : Func) (xs : List Stmt) → s ++ simple_text p f (Group xs) ≡ s
unfolding simple_text
simple-Group s p f xs = append-nil s

pub ruleset simple_layers = (simple-Empty, simple-Scalar, simple-Array, simple-Assign, simple-Call, simple-Break, simple-Continue, simple-Return, simple-If, simple-While, simple-Do, simple-For, simple-Group)

-- ---- lists of statements

lines_are : (p : Program) (f : Func) (k : ℕ) (xs : List Stmt) → row_lines p f k (hidden-the_row-Stmt-0 xs) ≡ stmts_text p f k xs
unfolding stmt_text row_lines shape-the_row-Stmt-0 hidden-the_row-Stmt-0 hidden
lines_are p f k [] = refl
lines_are p f k (x ∷ xs) = ap (λ t. stmt_text p f k x ++ t) (lines_are p f k xs)

else_is : (p : Program) (f : Func) (k : ℕ) (xs : List Stmt) → else_text p f k (hidden-the_row-Stmt-0 xs) ≡ otherwise_text p f k xs
unfolding stmt_text row_lines else_text otherwise_text shape-the_row-Stmt-0 hidden-the_row-Stmt-0 hidden
else_is p f k [] = refl
else_is p f k (x ∷ xs) = ap (λ t. line k (codes "} else {") ++ (stmt_text p f (k + 1) x ++ t) ++ line k (codes "}")) (lines_are p f (k + 1) xs)

pub otherwise-none : (p : Program) (f : Func) (k : ℕ) (xs : List Stmt) → length xs ≡ 0 → otherwise_text p f k xs ≡ line k (codes "}")
unfolding otherwise_text
otherwise-none p f k [] none = refl
otherwise-none p f k (x ∷ xs) none = absurd (cc)

-- ---- statements

pub stmt-If : (s : List ℕ) (p : Program) (f : Func) (k : ℕ) (e : Expr) (xs ys : List Stmt)
    → s ++ stmt_text p f k (If e xs ys) ≡ s ++ line k (codes "if (" ++ expr_text p f e ++ codes ") {") ++ stmts_text p f (k + 1) xs ++ otherwise_text p f k ys
unfolding stmt_text
stmt-If s p f k e xs ys =
    ap (λ t. s ++ t) (λ i. line k (codes "if (" ++ expr_text p f e ++ codes ") {") ++ lines_are p f (k + 1) xs i ++ else_is p f k ys i)
    ∙ three s (line k (codes "if (" ++ expr_text p f e ++ codes ") {")) (stmts_text p f (k + 1) xs) (otherwise_text p f k ys)

pub stmt-While : (s : List ℕ) (p : Program) (f : Func) (k n : ℕ) (e : Expr) (xs : List Stmt)
    → s ++ stmt_text p f k (While n e xs) ≡ s ++ bound_text n ++ line k (codes "while (" ++ expr_text p f e ++ codes ") {") ++ stmts_text p f (k + 1) xs ++ line k (codes "}")
unfolding stmt_text
stmt-While s p f k n e xs =
    ap (λ t. s ++ (bound_text n ++ line k (codes "while (" ++ expr_text p f e ++ codes ") {") ++ t ++ line k (codes "}"))) (lines_are p f (k + 1) xs)
    ∙ four s (bound_text n) (line k (codes "while (" ++ expr_text p f e ++ codes ") {")) (stmts_text p f (k + 1) xs) (line k (codes "}"))

pub stmt-Do : (s : List ℕ) (p : Program) (f : Func) (k n : ℕ) (xs : List Stmt) (e : Expr)
    → s ++ stmt_text p f k (Do n xs e) ≡ s ++ bound_text n ++ line k (codes "do {") ++ stmts_text p f (k + 1) xs ++ line k (codes "} while (" ++ expr_text p f e ++ codes ");")
unfolding stmt_text
stmt-Do s p f k n xs e =
    ap (λ t. s ++ (bound_text n ++ line k (codes "do {") ++ t ++ line k (codes "} while (" ++ expr_text p f e ++ codes ");"))) (lines_are p f (k + 1) xs)
    ∙ four s (bound_text n) (line k (codes "do {")) (stmts_text p f (k + 1) xs) (line k (codes "} while (" ++ expr_text p f e ++ codes ");"))

held_is : (p : Program) (f : Func) (o : Option Stmt) → held_text p f (back-Stmt-For-1 o) ≡ part_text p f o
unfolding held_text sole_text part_text shape-the_row-Stmt-1 hidden-the_row-Stmt-1 hidden
held_is p f None = refl
held_is p f (Some x) = refl

pub stmt-For : (s : List ℕ) (p : Program) (f : Func) (k n : ℕ) (i j : Option Stmt) (e : Expr) (xs : List Stmt)
    → s ++ stmt_text p f k (For n i e j xs) ≡ s ++ bound_text n ++ line k (for_text (part_text p f i) (expr_text p f e) (part_text p f j)) ++ stmts_text p f (k + 1) xs ++ line k (codes "}")
unfolding stmt_text
stmt-For s p f k n i j e xs =
    (λ u. s ++ (bound_text n ++ line k (for_text (held_is p f i u) (expr_text p f e) (held_is p f j u)) ++ lines_are p f (k + 1) xs u ++ line k (codes "}")))
    ∙ four s (bound_text n) (line k (for_text (part_text p f i) (expr_text p f e) (part_text p f j))) (stmts_text p f (k + 1) xs) (line k (codes "}"))

pub for-written : (s a b c d : List ℕ) (p : Program) (f : Func) (k n : ℕ) (i j : Option Stmt) (e : Expr) (xs : List Stmt) (x : Stmt) → x ≡ For n i e j xs
    → a ≡ s ++ bound_text n → b ≡ a ++ line k (for_text (part_text p f i) (expr_text p f e) (part_text p f j)) → c ≡ b ++ stmts_text p f (k + 1) xs → d ≡ c ++ line k (codes "}")
    → d ≡ s ++ stmt_text p f k x
for-written s a b c d p f k n i j e xs x is at_a at_b at_c at_d =
    let whole : d ≡ s ++ bound_text n ++ line k (for_text (part_text p f i) (expr_text p f e) (part_text p f j)) ++ stmts_text p f (k + 1) xs ++ line k (codes "}") =
    at_d ∙ ap (λ t. t ++ line k (codes "}")) (at_c ∙ ap (λ t. t ++ stmts_text p f (k + 1) xs) (at_b ∙ ap (λ t. t ++ line k (for_text (part_text p f i) (expr_text p f e) (part_text p f j))) at_a)) in
    whole ∙ sym (ap (λ t. s ++ stmt_text p f k t) is ∙ stmt-For s p f k n i j e xs)

pub stmt-Group : (s : List ℕ) (p : Program) (f : Func) (k : ℕ) (xs : List Stmt)
    → s ++ stmt_text p f k (Group xs) ≡ s ++ line k (codes "{") ++ stmts_text p f (k + 1) xs ++ line k (codes "}")
unfolding stmt_text
stmt-Group s p f k xs =
    ap (λ t. s ++ (line k (codes "{") ++ t ++ line k (codes "}"))) (lines_are p f (k + 1) xs)
    ∙ three s (line k (codes "{")) (stmts_text p f (k + 1) xs) (line k (codes "}"))

pub stmt-Empty : (p : Program) (f : Func) (k : ℕ) → stmt_text p f k Empty ≡ line k (simple_text p f Empty ++ codes ";")
unfolding stmt_text
stmt-Empty p f k = refl

pub stmt-Scalar : (p : Program) (f : Func) (k n : ℕ) (e : Option Expr) → stmt_text p f k (Scalar n e) ≡ line k (simple_text p f (Scalar n e) ++ codes ";")
unfolding stmt_text
stmt-Scalar p f k n e = refl

pub stmt-Array : (p : Program) (f : Func) (k n : ℕ) (es : List Expr) → stmt_text p f k (Array n es) ≡ line k (simple_text p f (Array n es) ++ codes ";")
unfolding stmt_text
stmt-Array p f k n es = refl

pub stmt-Assign : (p : Program) (f : Func) (k : ℕ) (x : Place) (o : Option BinOp) (e : Expr) → stmt_text p f k (Assign x o e) ≡ line k (simple_text p f (Assign x o e) ++ codes ";")
unfolding stmt_text
stmt-Assign p f k x o e = refl

pub stmt-Call : (p : Program) (f : Func) (k : ℕ) (t : Target) (g : ℕ) (es : List Expr) → stmt_text p f k (Call t g es) ≡ line k (simple_text p f (Call t g es) ++ codes ";")
unfolding stmt_text
stmt-Call p f k t g es = refl

pub stmt-Break : (p : Program) (f : Func) (k : ℕ) → stmt_text p f k Break ≡ line k (simple_text p f Break ++ codes ";")
unfolding stmt_text
stmt-Break p f k = refl

pub stmt-Continue : (p : Program) (f : Func) (k : ℕ) → stmt_text p f k Continue ≡ line k (simple_text p f Continue ++ codes ";")
unfolding stmt_text
stmt-Continue p f k = refl

pub stmt-Return : (p : Program) (f : Func) (k : ℕ) (e : Option Expr) → stmt_text p f k (Return e) ≡ line k (simple_text p f (Return e) ++ codes ";")
unfolding stmt_text
stmt-Return p f k e = refl

pub ruleset stmt_layers = (stmt-If, stmt-While, stmt-Do, stmt-For, stmt-Group, stmt-Empty, stmt-Scalar, stmt-Array, stmt-Assign, stmt-Call, stmt-Break, stmt-Continue, stmt-Return)

pub otherwise-some : (s : List ℕ) (p : Program) (f : Func) (k : ℕ) (xs : List Stmt) → (length xs == 0) ≡ false
    → s ++ otherwise_text p f k xs ≡ s ++ line k (codes "} else {") ++ stmts_text p f (k + 1) xs ++ line k (codes "}")
unfolding otherwise_text
otherwise-some s p f k [] some = absurd (cc)
otherwise-some s p f k (x ∷ xs) some = three s (line k (codes "} else {")) (stmts_text p f (k + 1) (x ∷ xs)) (line k (codes "}"))

pub ruleset otherwise_layers = (otherwise-none, otherwise-some)
