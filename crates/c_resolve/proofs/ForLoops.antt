-- A `for`: what its parts make, ask of and leave behind is what the whole does.
use Rattle.std.proofs.Common.{◌≡◌, ℕ, List, ◌++◌, Option, option_map, sym, ap, ◌∙◌}
use Rattle.c_tree.specs.declared.tree.Expr.{Expr}
use Rattle.c_tree.specs.declared.tree.Stmt.{Stmt}
use Rattle.c_tree.specs.declared.tree.Stmt.TheVariants as stmt
use Rattle.c_tree.specs.declared.unit.RawBound.{RawBound}
use Rattle.c_tree.specs.declared.unit.RawExpr.{RawExpr}
use Rattle.c_tree.specs.declared.unit.RawStmt.{RawStmt}
use Rattle.c_tree.specs.declared.unit.RawStmt.TheVariants.{For}
use Rattle.c_tree.specs.Checking.Constants.{expr_of}
use Rattle.c_tree.specs.Checking.Naming.{Scope, inner_scope, loop_scope, scope_past_list, list_locals, scope_behind, bound_number, stmt_of, stmts_of}
use Rattle.c_tree.specs.Checking.Uses.{Looped, expr_uses, stmt_uses, stmts_uses}
use Rattle.c_tree.specs.Checking.Refusals.{PlacedFault}
use Rattle.c_resolve.specs.declared.checker.Outer.{Outer}
use Rattle.c_faults.specs.Verdicts.{after_use, after_uses}
use Rattle.c_resolve.specs.Walks.{IsOuter, scope_at_end, option_behind, option_uses}
use Rattle.c_faults.proofs.AfterUses.{after_uses-cons, after_uses-append}
use Rattle.c_resolve.proofs.StmtLayers.{stmt_of-For, stmt_uses-For, scope_behind-For}
use Rattle.c_resolve.proofs.Growth.{ended_for}

-- the scopes inside its opening, behind its initialiser and behind its step
pub record Inside (s p t u : Scope) (a b : Option RawStmt) : Type 0 where
  pub opening : p ≡ inner_scope s
  pub first : t ≡ option_behind p a
  pub second : u ≡ option_behind t b

behind_first : {s p t u : Scope} {a b : Option RawStmt} → Inside s p t u a b → t ≡ option_behind (inner_scope s) a
behind_first {s} {p} {t} {u} {a} {b} h = h.first ∙ ap (λ v. option_behind v a) h.opening

behind_second : {s p t u : Scope} {a b : Option RawStmt} → Inside s p t u a b → u ≡ option_behind (option_behind (inner_scope s) a) b
behind_second {s} {p} {t} {u} {a} {b} h = h.second ∙ ap (λ v. option_behind v b) (behind_first h)

pub for_tree : (s p t u : Scope) (at : ℕ) (k : Option RawBound) (a : Option RawStmt) (e : RawExpr) (b : Option RawStmt) (xs : List RawStmt) (i j : Option Stmt) (c : Expr) (ys : List Stmt)
    → Inside s p t u a b → i ≡ option_map (stmt_of p) a → c ≡ expr_of t.known e → j ≡ option_map (stmt_of t) b → ys ≡ stmts_of (loop_scope u) xs
    → stmt.For (bound_number k) i c j ys ≡ stmt_of s (For at k a e b xs)
for_tree s p t u at k a e b xs i j c ys h first condition second body =
    let one = first ∙ ap (λ v. option_map (stmt_of v) a) h.opening in
    let two = condition ∙ ap (λ (v : Scope). expr_of v.known e) (behind_first h) in
    let three = second ∙ ap (λ v. option_map (stmt_of v) b) (behind_first h) in
    let four = body ∙ ap (λ v. stmts_of (loop_scope v) xs) (behind_second h) in
    (λ n. stmt.For (bound_number k) (one n) (two n) (three n) (four n)) ∙ sym (stmt_of-For s at k a e b xs)

pub for_scope : (s p t u v w : Scope) (at : ℕ) (k : Option RawBound) (a : Option RawStmt) (e : RawExpr) (b : Option RawStmt) (xs : List RawStmt) (o : Outer)
    → Inside s p t u a b → IsOuter s o → v ≡ scope_past_list u (list_locals xs) → w ≡ scope_at_end v o → w ≡ scope_behind s (For at k a e b xs)
for_scope s p t u v w at k a e b xs o h outer body end =
    end ∙ ap (λ x. scope_at_end x o) (body ∙ ap (λ x. scope_past_list x (list_locals xs)) (behind_second h)) ∙ ended_for s a b xs o outer ∙ sym (scope_behind-For s at k a e b xs)

pub for_first : (s p t u : Scope) (at : ℕ) (k : Option RawBound) (a : Option RawStmt) (e : RawExpr) (b : Option RawStmt) (xs : List RawStmt) (f f1 f2 f3 f4 f5 : Option PlacedFault)
    → Inside s p t u a b → f1 ≡ after_use f (Looped at k) → f2 ≡ after_uses f1 (option_uses p a) → f3 ≡ after_uses f2 (expr_uses t.known e) → f4 ≡ after_uses f3 (option_uses t b) → f5 ≡ after_uses f4 (stmts_uses (loop_scope u) xs)
    → f5 ≡ after_uses f (stmt_uses s (For at k a e b xs))
for_first s p t u at k a e b xs f f1 f2 f3 f4 f5 h word first condition second body =
    let us = option_uses (inner_scope s) a in
    let vs = expr_uses (option_behind (inner_scope s) a).known e in
    let ws = option_uses (option_behind (inner_scope s) a) b in
    let zs = stmts_uses (loop_scope (option_behind (option_behind (inner_scope s) a) b)) xs in
    let one = first ∙ (λ n. after_uses (word n) (option_uses (h.opening n) a)) in
    let two = condition ∙ (λ n. after_uses (one n) (expr_uses (behind_first h n).known e)) in
    let three = second ∙ (λ n. after_uses (two n) (option_uses (behind_first h n) b)) in
    let four = body ∙ (λ n. after_uses (three n) (stmts_uses (loop_scope (behind_second h n)) xs)) in
    let g = after_use f (Looped at k) in
    four ∙ sym (after_uses-append (after_uses (after_uses g us) vs) ws zs) ∙ sym (after_uses-append (after_uses g us) vs (ws ++ zs)) ∙ sym (after_uses-append g us (vs ++ (ws ++ zs)))
    ∙ sym (after_uses-cons f (Looped at k) (us ++ (vs ++ (ws ++ zs))))
    ∙ ap (after_uses f) (sym (stmt_uses-For s at k a e b xs))
