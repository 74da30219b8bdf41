-- Statements with their names replaced, what stands in them and what they leave behind, one layer at a time, as code opens them.
use Rattle.std.proofs.Common.{◌≡◌, ℕ, Bool, List, [], ◌∷◌, ◌++◌, Option, Some, None, option_map, length, refl, sym, ap, ◌∙◌, append_assoc}
use Rattle.std.specs.Prelude.{is_some}
use Rattle.c_tree.specs.declared.tree.Ty.{Ty}
use Rattle.c_tree.specs.declared.tree.BinOp.{BinOp}
use Rattle.c_tree.specs.declared.tree.Stmt.TheVariants as stmt
use Rattle.c_tree.specs.declared.program.Local.{Local}
use Rattle.c_tree.specs.declared.unit.Spot.{Spot}
use Rattle.c_tree.specs.declared.unit.RawBound.{RawBound}
use Rattle.c_tree.specs.declared.unit.RawExpr.{RawExpr}
use Rattle.c_tree.specs.declared.unit.RawPlace.{RawPlace}
use Rattle.c_tree.specs.declared.unit.RawShape.{RawShape}
use Rattle.c_tree.specs.declared.unit.RawTarget.{RawTarget}
use Rattle.c_tree.specs.declared.unit.RawTarget.TheVariants as target
use Rattle.c_tree.specs.declared.unit.RawStmt.{RawStmt}
use Rattle.c_tree.specs.declared.unit.RawStmt.TheVariants.{Empty, Declare, Assign, Call, Break, Continue, Return, If, While, Do, For, Group}
use Rattle.c_tree.specs.declared.unit.RawStmt.TheBlock.{shape-the_row-RawStmt-0, hidden-the_row-RawStmt-0, shape-the_row-RawStmt-1, hidden-the_row-RawStmt-1, back-RawStmt-For-2}
use denote.Hole.Carrier.{hidden}
use Rattle.c_tree.specs.Checking.Scopes.{entity_of, function_number}
use Rattle.c_tree.specs.Checking.Constants.{expr_of, exprs_of, shape_length}
use Rattle.c_tree.specs.Checking.Naming.{Scope, scope_with_local, inner_scope, loop_scope, scope_past_list, stmt_locals, row_locals, held_locals, list_locals, scope_behind, optional_expr, place_of, declaration_stmt, target_of, bound_number, scope_behind_target, stmt_of, row_stmts, held_stmt, sole_stmt, held_behind, row_behind, stmts_of}
use Rattle.c_tree.specs.Checking.Uses.{Left, Looped, Returned, expr_uses, optional_uses, declarator_uses, place_uses, target_uses, has_target, call_uses, stmt_uses, row_stmt_uses, held_uses, stmts_uses}
use Rattle.c_resolve.specs.Walks.{option_behind, option_uses, option_locals}
use Rattle.std.proofs.lemmas.List.{append-nil}

-- ---- rows are lists

locals_row : (xs : List RawStmt) → row_locals (hidden-the_row-RawStmt-0 xs) ≡ list_locals xs
unfolding stmt_locals row_locals shape-the_row-RawStmt-0 hidden-the_row-RawStmt-0 hidden
locals_row [] = refl
locals_row (x ∷ xs) = ap (λ l. stmt_locals x ++ l) (locals_row xs)

stmts_row : (s : Scope) (xs : List RawStmt) → row_stmts s (hidden-the_row-RawStmt-0 xs) ≡ stmts_of s xs
unfolding stmt_of row_stmts shape-the_row-RawStmt-0 hidden-the_row-RawStmt-0 hidden
stmts_row s [] = refl
stmts_row s (x ∷ xs) = ap (λ l. stmt_of s x ∷ l) (stmts_row (scope_behind s x) xs)

uses_row : (s : Scope) (xs : List RawStmt) → row_stmt_uses s (hidden-the_row-RawStmt-0 xs) ≡ stmts_uses s xs
unfolding stmt_uses row_stmt_uses shape-the_row-RawStmt-0 hidden-the_row-RawStmt-0 hidden
uses_row s [] = refl
uses_row s (x ∷ xs) = ap (λ l. stmt_uses s x ++ l) (uses_row (scope_behind s x) xs)

-- ---- one statement, or none

locals_held : (o : Option RawStmt) → held_locals (back-RawStmt-For-2 o) ≡ option_locals o
unfolding stmt_locals row_locals held_locals shape-the_row-RawStmt-1 hidden-the_row-RawStmt-1 hidden
locals_held None = refl
locals_held (Some x) = append-nil (stmt_locals x)

stmt_held : (s : Scope) (o : Option RawStmt) → held_stmt s (back-RawStmt-For-2 o) ≡ option_map (stmt_of s) o
unfolding stmt_of held_stmt sole_stmt shape-the_row-RawStmt-1 hidden-the_row-RawStmt-1 hidden
stmt_held s None = refl
stmt_held s (Some x) = refl

behind_held : (s : Scope) (o : Option RawStmt) → held_behind s (back-RawStmt-For-2 o) ≡ option_behind s o
unfolding held_behind row_behind shape-the_row-RawStmt-1 hidden-the_row-RawStmt-1 hidden
behind_held s None = refl
behind_held s (Some x) = refl

uses_held : (s : Scope) (o : Option RawStmt) → held_uses s (back-RawStmt-For-2 o) ≡ option_uses s o
unfolding stmt_uses row_stmt_uses held_uses shape-the_row-RawStmt-1 hidden-the_row-RawStmt-1 hidden
uses_held s None = refl
uses_held s (Some x) = append-nil (stmt_uses s x)

-- ---- statements

pub stmt_of-Empty : (s : Scope) → stmt_of s Empty ≡ stmt.Empty
unfolding stmt_of
stmt_of-Empty s = refl

pub stmt_of-Declare : (s : Scope) (constant : Bool) (t : Ty) (x : Spot) (sh : RawShape) → stmt_of s (Declare constant t x sh) ≡ declaration_stmt (scope_with_local s constant t x.name (shape_length sh)).known (length s.locals) sh
unfolding stmt_of
stmt_of-Declare s constant t x sh = refl

pub stmt_of-Assign : (s : Scope) (p : RawPlace) (op : Option BinOp) (e : RawExpr) → stmt_of s (Assign p op e) ≡ stmt.Assign (place_of s.known p) op (expr_of s.known e)
unfolding stmt_of
stmt_of-Assign s p op e = refl

pub stmt_of-Call : (s : Scope) (t : RawTarget) (f : Spot) (es : List RawExpr) → stmt_of s (Call t f es) ≡ stmt.Call (target_of s t) (function_number (entity_of (scope_behind_target s t).known f.name)) (exprs_of (scope_behind_target s t).known es)
unfolding stmt_of
stmt_of-Call s t f es = refl

pub stmt_of-Break : (s : Scope) (at : ℕ) → stmt_of s (Break at) ≡ stmt.Break
unfolding stmt_of
stmt_of-Break s at = refl

pub stmt_of-Continue : (s : Scope) (at : ℕ) → stmt_of s (Continue at) ≡ stmt.Continue
unfolding stmt_of
stmt_of-Continue s at = refl

pub stmt_of-Return : (s : Scope) (at : ℕ) (e : Option RawExpr) → stmt_of s (Return at e) ≡ stmt.Return (optional_expr s.known e)
unfolding stmt_of
stmt_of-Return s at e = refl

pub stmt_of-If : (s : Scope) (e : RawExpr) (xs ys : List RawStmt) → stmt_of s (If e xs ys) ≡ stmt.If (expr_of s.known e) (stmts_of (inner_scope s) xs) (stmts_of (inner_scope (scope_past_list s (list_locals xs))) ys)
unfolding stmt_of
stmt_of-If s e xs ys = λ i. stmt.If (expr_of s.known e) (stmts_row (inner_scope s) xs i) (last i)
  where
    last : row_stmts (inner_scope (scope_past_list s (row_locals (hidden-the_row-RawStmt-0 xs)))) (hidden-the_row-RawStmt-0 ys) ≡ stmts_of (inner_scope (scope_past_list s (list_locals xs))) ys
    last = stmts_row (inner_scope (scope_past_list s (row_locals (hidden-the_row-RawStmt-0 xs)))) ys ∙ ap (λ l. stmts_of (inner_scope (scope_past_list s l)) ys) (locals_row xs)

pub stmt_of-While : (s : Scope) (at : ℕ) (k : Option RawBound) (e : RawExpr) (xs : List RawStmt) → stmt_of s (While at k e xs) ≡ stmt.While (bound_number k) (expr_of s.known e) (stmts_of (loop_scope s) xs)
unfolding stmt_of
stmt_of-While s at k e xs = λ i. stmt.While (bound_number k) (expr_of s.known e) (stmts_row (loop_scope s) xs i)

pub stmt_of-Do : (s : Scope) (at : ℕ) (k : Option RawBound) (xs : List RawStmt) (e : RawExpr) → stmt_of s (Do at k xs e) ≡ stmt.Do (bound_number k) (stmts_of (loop_scope s) xs) (expr_of s.known e)
unfolding stmt_of
stmt_of-Do s at k xs e = λ i. stmt.Do (bound_number k) (stmts_row (loop_scope s) xs i) (expr_of s.known e)

pub stmt_of-For : (s : Scope) (at : ℕ) (k : Option RawBound) (a : Option RawStmt) (e : RawExpr) (b : Option RawStmt) (xs : List RawStmt) → stmt_of s (For at k a e b xs)
    ≡ stmt.For (bound_number k) (option_map (stmt_of (inner_scope s)) a) (expr_of (option_behind (inner_scope s) a).known e) (option_map (stmt_of (option_behind (inner_scope s) a)) b) (stmts_of (loop_scope (option_behind (option_behind (inner_scope s) a) b)) xs)
unfolding stmt_of
stmt_of-For s at k a e b xs =
    (λ i. stmt.For (bound_number k) (stmt_held (inner_scope s) a i) (expr_of (behind_held (inner_scope s) a i).known e) (held_stmt (behind_held (inner_scope s) a i) (back-RawStmt-For-2 b)) (stmts_row (loop_scope (held_behind (behind_held (inner_scope s) a i) (back-RawStmt-For-2 b))) xs i))
    ∙ (λ i. stmt.For (bound_number k) (option_map (stmt_of (inner_scope s)) a) (expr_of (option_behind (inner_scope s) a).known e) (stmt_held (option_behind (inner_scope s) a) b i) (stmts_of (loop_scope (behind_held (option_behind (inner_scope s) a) b i)) xs))

pub stmt_of-Group : (s : Scope) (xs : List RawStmt) → stmt_of s (Group xs) ≡ stmt.Group (stmts_of (inner_scope s) xs)
unfolding stmt_of
stmt_of-Group s xs = ap stmt.Group (stmts_row (inner_scope s) xs)

pub ruleset stmt_layers = (stmt_of-Empty, stmt_of-Declare, stmt_of-Assign, stmt_of-Call, stmt_of-Break, stmt_of-Continue, stmt_of-Return, stmt_of-If, stmt_of-While, stmt_of-Do, stmt_of-For, stmt_of-Group)

-- ---- what stands in them

pub stmt_uses-Empty : (s : Scope) → stmt_uses s Empty ≡ []
unfolding stmt_uses
stmt_uses-Empty s = refl

pub stmt_uses-Declare : (s : Scope) (constant : Bool) (t : Ty) (x : Spot) (sh : RawShape) → stmt_uses s (Declare constant t x sh) ≡ declarator_uses s constant t x sh
unfolding stmt_uses
stmt_uses-Declare s constant t x sh = refl

pub stmt_uses-Assign : (s : Scope) (p : RawPlace) (op : Option BinOp) (e : RawExpr) → stmt_uses s (Assign p op e) ≡ place_uses s.known p ++ expr_uses s.known e
unfolding stmt_uses
stmt_uses-Assign s p op e = refl

pub stmt_uses-Call : (s : Scope) (t : RawTarget) (f : Spot) (es : List RawExpr) → stmt_uses s (Call t f es) ≡ target_uses s t ++ call_uses (scope_behind_target s t) (has_target t) f es
unfolding stmt_uses
stmt_uses-Call s t f es = refl

pub stmt_uses-Break : (s : Scope) (at : ℕ) → stmt_uses s (Break at) ≡ Left at s.looped ∷ []
unfolding stmt_uses
stmt_uses-Break s at = refl

pub stmt_uses-Continue : (s : Scope) (at : ℕ) → stmt_uses s (Continue at) ≡ Left at s.looped ∷ []
unfolding stmt_uses
stmt_uses-Continue s at = refl

pub stmt_uses-Return : (s : Scope) (at : ℕ) (e : Option RawExpr) → stmt_uses s (Return at e) ≡ Returned at (is_some e) (is_some s.result) ∷ optional_uses s.known e
unfolding stmt_uses
stmt_uses-Return s at e = refl

pub stmt_uses-If : (s : Scope) (e : RawExpr) (xs ys : List RawStmt) → stmt_uses s (If e xs ys) ≡ expr_uses s.known e ++ (stmts_uses (inner_scope s) xs ++ stmts_uses (inner_scope (scope_past_list s (list_locals xs))) ys)
unfolding stmt_uses
stmt_uses-If s e xs ys = λ i. expr_uses s.known e ++ (uses_row (inner_scope s) xs i ++ last i)
  where
    last : row_stmt_uses (inner_scope (scope_past_list s (row_locals (hidden-the_row-RawStmt-0 xs)))) (hidden-the_row-RawStmt-0 ys) ≡ stmts_uses (inner_scope (scope_past_list s (list_locals xs))) ys
    last = uses_row (inner_scope (scope_past_list s (row_locals (hidden-the_row-RawStmt-0 xs)))) ys ∙ ap (λ l. stmts_uses (inner_scope (scope_past_list s l)) ys) (locals_row xs)

pub stmt_uses-While : (s : Scope) (at : ℕ) (k : Option RawBound) (e : RawExpr) (xs : List RawStmt) → stmt_uses s (While at k e xs) ≡ Looped at k ∷ (expr_uses s.known e ++ stmts_uses (loop_scope s) xs)
unfolding stmt_uses
stmt_uses-While s at k e xs = λ i. Looped at k ∷ (expr_uses s.known e ++ uses_row (loop_scope s) xs i)

pub stmt_uses-Do : (s : Scope) (at : ℕ) (k : Option RawBound) (xs : List RawStmt) (e : RawExpr) → stmt_uses s (Do at k xs e) ≡ Looped at k ∷ (stmts_uses (loop_scope s) xs ++ expr_uses s.known e)
unfolding stmt_uses
stmt_uses-Do s at k xs e = λ i. Looped at k ∷ (uses_row (loop_scope s) xs i ++ expr_uses s.known e)

pub stmt_uses-For : (s : Scope) (at : ℕ) (k : Option RawBound) (a : Option RawStmt) (e : RawExpr) (b : Option RawStmt) (xs : List RawStmt) → stmt_uses s (For at k a e b xs)
    ≡ Looped at k ∷ (option_uses (inner_scope s) a ++ (expr_uses (option_behind (inner_scope s) a).known e ++ (option_uses (option_behind (inner_scope s) a) b ++ stmts_uses (loop_scope (option_behind (option_behind (inner_scope s) a) b)) xs)))
unfolding stmt_uses
stmt_uses-For s at k a e b xs =
    (λ i. Looped at k ∷ (uses_held (inner_scope s) a i ++ (expr_uses (behind_held (inner_scope s) a i).known e ++ (held_uses (behind_held (inner_scope s) a i) (back-RawStmt-For-2 b) ++ uses_row (loop_scope (held_behind (behind_held (inner_scope s) a i) (back-RawStmt-For-2 b))) xs i))))
    ∙ (λ i. Looped at k ∷ (option_uses (inner_scope s) a ++ (expr_uses (option_behind (inner_scope s) a).known e ++ (uses_held (option_behind (inner_scope s) a) b i ++ stmts_uses (loop_scope (behind_held (option_behind (inner_scope s) a) b i)) xs))))

pub stmt_uses-Group : (s : Scope) (xs : List RawStmt) → stmt_uses s (Group xs) ≡ stmts_uses (inner_scope s) xs
unfolding stmt_uses
stmt_uses-Group s xs = uses_row (inner_scope s) xs

pub ruleset stmt_use_layers = (stmt_uses-Empty, stmt_uses-Declare, stmt_uses-Assign, stmt_uses-Call, stmt_uses-Break, stmt_uses-Continue, stmt_uses-Return, stmt_uses-If, stmt_uses-While, stmt_uses-Do, stmt_uses-For, stmt_uses-Group)

-- ---- what is behind them

past_none : (s : Scope) → scope_past_list s [] ≡ s
past_none s = ap (λ ls. let t : Scope = record s { locals = ls } in t) (append-nil s.locals)

pub scope_past_list-past : (s : Scope) (ls ms : List Local) → scope_past_list (scope_past_list s ls) ms ≡ scope_past_list s (ls ++ ms)
scope_past_list-past s ls ms = ap (λ ns. let t : Scope = record s { locals = ns } in t) (append_assoc s.locals ls ms)

pub scope_behind-Empty : (s : Scope) → scope_behind s Empty ≡ s
unfolding scope_behind stmt_locals
scope_behind-Empty s = past_none s

pub scope_behind-Declare : (s : Scope) (constant : Bool) (t : Ty) (x : Spot) (sh : RawShape) → scope_behind s (Declare constant t x sh) ≡ scope_with_local s constant t x.name (shape_length sh)
unfolding scope_behind
scope_behind-Declare s constant t x sh = refl

pub scope_behind-Assign : (s : Scope) (p : RawPlace) (op : Option BinOp) (e : RawExpr) → scope_behind s (Assign p op e) ≡ s
unfolding scope_behind stmt_locals
scope_behind-Assign s p op e = past_none s

pub scope_behind-Call : (s : Scope) (t : RawTarget) (f : Spot) (es : List RawExpr) → scope_behind s (Call t f es) ≡ scope_behind_target s t
unfolding scope_behind stmt_locals
scope_behind-Call s target.Nothing f es = past_none s
scope_behind-Call s (target.Assign x) f es = past_none s
scope_behind-Call s (target.Declare constant t x) f es = refl

pub scope_behind-Break : (s : Scope) (at : ℕ) → scope_behind s (Break at) ≡ s
unfolding scope_behind stmt_locals
scope_behind-Break s at = past_none s

pub scope_behind-Continue : (s : Scope) (at : ℕ) → scope_behind s (Continue at) ≡ s
unfolding scope_behind stmt_locals
scope_behind-Continue s at = past_none s

pub scope_behind-Return : (s : Scope) (at : ℕ) (e : Option RawExpr) → scope_behind s (Return at e) ≡ s
unfolding scope_behind stmt_locals
scope_behind-Return s at e = past_none s

pub scope_behind-If : (s : Scope) (e : RawExpr) (xs ys : List RawStmt) → scope_behind s (If e xs ys) ≡ scope_past_list (scope_past_list s (list_locals xs)) (list_locals ys)
unfolding scope_behind stmt_locals
scope_behind-If s e xs ys = (λ i. scope_past_list s (locals_row xs i ++ locals_row ys i)) ∙ sym (scope_past_list-past s (list_locals xs) (list_locals ys))

pub scope_behind-While : (s : Scope) (at : ℕ) (k : Option RawBound) (e : RawExpr) (xs : List RawStmt) → scope_behind s (While at k e xs) ≡ scope_past_list s (list_locals xs)
unfolding scope_behind stmt_locals
scope_behind-While s at k e xs = ap (scope_past_list s) (locals_row xs)

pub scope_behind-Do : (s : Scope) (at : ℕ) (k : Option RawBound) (xs : List RawStmt) (e : RawExpr) → scope_behind s (Do at k xs e) ≡ scope_past_list s (list_locals xs)
unfolding scope_behind stmt_locals
scope_behind-Do s at k xs e = ap (scope_past_list s) (locals_row xs)

pub scope_behind-For : (s : Scope) (at : ℕ) (k : Option RawBound) (a : Option RawStmt) (e : RawExpr) (b : Option RawStmt) (xs : List RawStmt) → scope_behind s (For at k a e b xs) ≡ scope_past_list s (option_locals a ++ (option_locals b ++ list_locals xs))
unfolding scope_behind stmt_locals
scope_behind-For s at k a e b xs = λ i. scope_past_list s (locals_held a i ++ (locals_held b i ++ locals_row xs i))

pub scope_behind-Group : (s : Scope) (xs : List RawStmt) → scope_behind s (Group xs) ≡ scope_past_list s (list_locals xs)
unfolding scope_behind stmt_locals
scope_behind-Group s xs = ap (scope_past_list s) (locals_row xs)

pub ruleset behind_layers = (scope_behind-Empty, scope_behind-Declare, scope_behind-Assign, scope_behind-Call, scope_behind-Break, scope_behind-Continue, scope_behind-Return, scope_behind-If, scope_behind-While, scope_behind-Do, scope_behind-For, scope_behind-Group)
