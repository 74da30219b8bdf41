-- A statement of a printed text around others is the same as that of the text, where its parts are.
use Rattle.std.proofs.Common.{◌≡◌, ℕ, Bool, true, false, [], ◌++◌, Option, Some, None, refl, sym, ap, ◌∙◌}
use Rattle.std.specs.Prelude.{not, if◌then◌else◌}
use mathlib.Core.Former.{Count}
use Rattle.c_tree.specs.declared.tree.Stmt.TheVariants as stmt
use Rattle.c_tree.specs.declared.unit.RawBound.{RawBound}
use Rattle.c_tree.specs.declared.unit.RawExpr.{RawExpr}
use Rattle.c_tree.specs.declared.unit.RawStmt.{Row_of-RawStmt, Held-RawStmt-For-2}
use Rattle.c_tree.specs.declared.unit.RawStmt.TheVariants.{If', While', Do', For', Group'}
use Rattle.c_tree.specs.Checking.Constants.{expr_of}
use Rattle.c_tree.specs.Checking.Naming.{Scope, is_bound, bound_number, inner_scope, loop_scope, scope_past_list, stmt_locals, row_locals, held_locals, scope_behind, stmt_of, row_stmts, held_stmt, held_behind}
use Rattle.c_tree.specs.Checking.Uses.{Looped, expr_uses, stmt_uses, row_stmt_uses, held_uses}
use Rattle.c_tree.specs.Checking.Refusals.{BoundRange, where_true, faults_of}
use Rattle.typed_laws.proofs.Faultless.{HasBound}
use Rattle.print_laws.specs.Shown.{ShowsBound}
use Rattle.print_laws.proofs.Again.Scoped.{Follows}
use Rattle.print_laws.proofs.Again.FaultlessUses.{AreFaultless, faultless_both, faultless_more}
use Rattle.print_laws.proofs.Again.ExpressionsAgain.{IsExprAgain}
use Rattle.print_laws.proofs.Again.ScopesAgain.{past_follows}
use Rattle.print_laws.proofs.Again.DeclaredAgain.{IsAgain}
use Rattle.plain_laws.proofs.Booleans.{if_chosen}

-- ---- rows of statements, and parts of a `for`

pub record IsRowAgain {m n : Count} (s t : Scope) (x : Row_of-RawStmt m) (z : Row_of-RawStmt n) : Type 0 where
  pub stmts : row_stmts t z ≡ row_stmts s x
  pub locals : row_locals z ≡ row_locals x
  pub faultless : AreFaultless (row_stmt_uses t z)

pub record IsHeldAgain (s t : Scope) (x z : Held-RawStmt-For-2) : Type 0 where
  pub stmt : held_stmt t z ≡ held_stmt s x
  pub locals : held_locals z ≡ held_locals x
  pub follows : Follows (held_behind s x) (held_behind t z)
  pub faultless : AreFaultless (held_uses t z)

-- ---- bounds

pub record IsBoundAgain (k l : Option RawBound) : Type 0 where
  pub number : bound_number l ≡ bound_number k
  pub faultless : (at : ℕ) → faults_of (Looped at l) ≡ []

within : (b : Bool) (at : ℕ) → b ≡ true → where_true (not b) BoundRange at ++ [] ≡ []
within true at h = refl
within false at h = absurd (cc)

bound_there : (n : ℕ) (l : Option RawBound) (at : ℕ) → is_bound n ≡ true → l ≡ Some (record { at = at; value = n }) → (bound_number l ≡ n) × ((from : ℕ) → faults_of (Looped from l) ≡ [])
bound_there n l at h is =
    (ap bound_number is ∙ if_chosen (is_bound n) n h, λ from. ap (λ k. faults_of (Looped from k)) is ∙ within (is_bound n) at h)

-- the bound of a loop that has one
pub bound_again : (k l : Option RawBound) → HasBound k → ShowsBound l (bound_number k) → IsBoundAgain k l
bound_again None l h shows = absurd h
bound_again (Some b) l h shows =
    let same = if_chosen (is_bound b.value) b.value h in
    let here = bound_there b.value l shows.at h (shows.is ∙ ap (λ n. Some (record { at = shows.at; value = n })) same) in
    record { number = here.0 ∙ sym same; faultless = here.1 }

-- ---- statements

module _ (s t : Scope) (follows : Follows s t) where
  pub if_again : (e c : RawExpr) (a b d g : _) (x : Row_of-RawStmt _) (y : Row_of-RawStmt _) (z : Row_of-RawStmt _) (w : Row_of-RawStmt _) → IsExprAgain t.known c (expr_of s.known e) → IsRowAgain (inner_scope s) (inner_scope t) x z
      → IsRowAgain (inner_scope (scope_past_list s (row_locals x))) (inner_scope (scope_past_list t (row_locals z))) y w → IsAgain s t (If' e a x b y) (If' c d z g w)
  unfolding stmt_of stmt_locals stmt_uses scope_behind
  if_again e c a b d g x y z w test one two =
      let locals : row_locals z ++ row_locals w ≡ row_locals x ++ row_locals y = λ i. one.locals i ++ two.locals i in
      let first = row_stmt_uses (inner_scope t) z in
      let second = row_stmt_uses (inner_scope (scope_past_list t (row_locals z))) w in
      record {
        stmt = λ i. stmt.If (test.expr i) (one.stmts i) (two.stmts i);
        locals = locals;
        follows = past_follows s t (row_locals x ++ row_locals y) (row_locals z ++ row_locals w) locals follows;
        faultless = faultless_both (expr_uses t.known c) (first ++ second) test.faultless (faultless_both first second one.faultless two.faultless);
      }

  pub while_again : (from to : ℕ) (k l : Option RawBound) (e c : RawExpr) (a d : _) (x : Row_of-RawStmt _) (z : Row_of-RawStmt _) → IsBoundAgain k l → IsExprAgain t.known c (expr_of s.known e) → IsRowAgain (loop_scope s) (loop_scope t) x z
      → IsAgain s t (While' from k e a x) (While' to l c d z)
  unfolding stmt_of stmt_locals stmt_uses scope_behind
  while_again from to k l e c a d x z bound test one =
      let body = row_stmt_uses (loop_scope t) z in
      record {
        stmt = λ i. stmt.While (bound.number i) (test.expr i) (one.stmts i);
        locals = one.locals;
        follows = past_follows s t (row_locals x) (row_locals z) one.locals follows;
        faultless = faultless_more (Looped to l) (expr_uses t.known c ++ body) (bound.faultless to) (faultless_both (expr_uses t.known c) body test.faultless one.faultless);
      }

  pub do_again : (from to : ℕ) (k l : Option RawBound) (a d : _) (x : Row_of-RawStmt _) (z : Row_of-RawStmt _) (e c : RawExpr) → IsBoundAgain k l → IsRowAgain (loop_scope s) (loop_scope t) x z → IsExprAgain t.known c (expr_of s.known e)
      → IsAgain s t (Do' from k a x e) (Do' to l d z c)
  unfolding stmt_of stmt_locals stmt_uses scope_behind
  do_again from to k l a d x z e c bound one test =
      let body = row_stmt_uses (loop_scope t) z in
      record {
        stmt = λ i. stmt.Do (bound.number i) (one.stmts i) (test.expr i);
        locals = one.locals;
        follows = past_follows s t (row_locals x) (row_locals z) one.locals follows;
        faultless = faultless_more (Looped to l) (body ++ expr_uses t.known c) (bound.faultless to) (faultless_both body (expr_uses t.known c) one.faultless test.faultless);
      }

  pub for_again : (from to : ℕ) (k l : Option RawBound) (i g : Held-RawStmt-For-2) (e c : RawExpr) (j h : Held-RawStmt-For-2) (a d : _) (x : Row_of-RawStmt _) (z : Row_of-RawStmt _) → IsBoundAgain k l
      → IsHeldAgain (inner_scope s) (inner_scope t) i g → IsExprAgain (held_behind (inner_scope t) g).known c (expr_of (held_behind (inner_scope s) i).known e) → IsHeldAgain (held_behind (inner_scope s) i) (held_behind (inner_scope t) g) j h
      → IsRowAgain (loop_scope (held_behind (held_behind (inner_scope s) i) j)) (loop_scope (held_behind (held_behind (inner_scope t) g) h)) x z → IsAgain s t (For' from k i e j a x) (For' to l g c h d z)
  unfolding stmt_of stmt_locals stmt_uses scope_behind
  for_again from to k l i g e c j h a d x z bound first test next one =
      let u = held_behind (inner_scope t) g in
      let v = held_behind u h in
      let locals : held_locals g ++ (held_locals h ++ row_locals z) ≡ held_locals i ++ (held_locals j ++ row_locals x) = λ n. first.locals n ++ (next.locals n ++ one.locals n) in
      let body = row_stmt_uses (loop_scope v) z in
      let rest = held_uses u h ++ body in
      let last = faultless_both (held_uses u h) body next.faultless one.faultless in
      record {
        stmt = λ n. stmt.For (bound.number n) (first.stmt n) (test.expr n) (next.stmt n) (one.stmts n);
        locals = locals;
        follows = past_follows s t (held_locals i ++ (held_locals j ++ row_locals x)) (held_locals g ++ (held_locals h ++ row_locals z)) locals follows;
        faultless = faultless_more (Looped to l) (held_uses (inner_scope t) g ++ (expr_uses u.known c ++ rest)) (bound.faultless to)
            (faultless_both (held_uses (inner_scope t) g) (expr_uses u.known c ++ rest) first.faultless (faultless_both (expr_uses u.known c) rest test.faultless last));
      }

  pub group_again : (a d : _) (x : Row_of-RawStmt _) (z : Row_of-RawStmt _) → IsRowAgain (inner_scope s) (inner_scope t) x z → IsAgain s t (Group' a x) (Group' d z)
  unfolding stmt_of stmt_locals stmt_uses scope_behind
  group_again a d x z one = record {
    stmt = ap stmt.Group one.stmts;
    locals = one.locals;
    follows = past_follows s t (row_locals x) (row_locals z) one.locals follows;
    faultless = one.faultless;
  }
