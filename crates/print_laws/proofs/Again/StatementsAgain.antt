-- What shows a statement of a text is named as that statement, and faultless.
use Rattle.std.proofs.Common.{List, ◌++◌, Option, sym, subst}
use denote.Hole.Carrier.{hidden}
use Rattle.c_tree.specs.declared.tree.Stmt.TheBlock.{hidden-the_row-Stmt-0, hidden-the_row-Stmt-1, back-Stmt-For-1}
use Rattle.c_tree.specs.declared.program.Func.{Func}
use Rattle.c_tree.specs.declared.program.Program.{Program}
use Rattle.c_tree.specs.declared.unit.RawExpr.{RawExpr}
use Rattle.c_tree.specs.declared.unit.RawStmt.{RawStmt, Row_of-RawStmt, end_of-RawStmt, more_of-RawStmt, Held-RawStmt-For-2, None', Some'}
use Rattle.c_tree.specs.declared.unit.RawStmt.TheVariants.{Empty, Declare, Assign, Call, Break, Continue, Return, If', While', Do', For', Group'}
use Rattle.c_tree.specs.declared.unit.RawStmt.TheBlock.{hidden-the_row-RawStmt-0, hidden-the_row-RawStmt-1, back-RawStmt-For-2}
use Rattle.c_tree.specs.Checking.Constants.{expr_of}
use Rattle.c_tree.specs.Checking.Naming.{Scope, inner_scope, loop_scope, scope_past_list, stmt_locals, row_locals, held_locals, scope_behind, stmt_of, row_stmts, held_stmt, sole_stmt, held_behind}
use Rattle.c_tree.specs.Checking.Uses.{Looped, expr_uses, stmt_uses, row_stmt_uses, held_uses}
use Rattle.typed_laws.proofs.Faultless.{use_clean, all_clean}
use Rattle.print_laws.specs.Shown.{Shows, ShowsStmt, ShowsRow, ShowsHeld}
use Rattle.print_laws.proofs.Again.Scoped.{Follows}
use Rattle.print_laws.proofs.Again.FaultlessUses.{AreFaultless, faultless_parts, faultless_first}
use Rattle.print_laws.proofs.Again.ExpressionsAgain.{IsExprAgain, expr_seen, shown_again}
use Rattle.print_laws.proofs.Again.ScopesAgain.{opened_follows, looping_follows, past_follows}
use Rattle.print_laws.proofs.Named.NamedScopes.{IsNamed, past_named, first_named, opened_named, looping_named, behind_named, held_named}
use Rattle.print_laws.proofs.Again.DeclaredAgain.{IsAgain, declaration_again}
use Rattle.print_laws.proofs.Again.AssignedAgain.{assign_again, return_again}
use Rattle.print_laws.proofs.Again.CalledAgain.{call_again}
use Rattle.print_laws.proofs.Again.BlocksAgain.{IsRowAgain, IsHeldAgain, bound_again, if_again, while_again, do_again, for_again, group_again}
use Rattle.print_laws.proofs.Again.RowsAgain.{none_again, more_again, IsSoleAgain, no_part_again, part_again, empty_again, break_again, continue_again}

module _ (p : Program) (f : Func) where
  -- a condition
  test_again : {ls : _} (s t : Scope) (e a : RawExpr) → Follows s t → IsNamed p f s ls → AreFaultless (expr_uses s.known e) → Shows p f a (expr_of s.known e) → IsExprAgain t.known a (expr_of s.known e)
  test_again s t e a follows h faultless shows =
      shown_again t.known shows (expr_seen p f s.known t.known h.names follows.sees e (all_clean (expr_uses s.known e) faultless))

  mutual
    unfolding ShowsStmt stmt_of stmt_uses stmt_locals hidden-the_row-Stmt-1 hidden-the_row-RawStmt-1 hidden

    pub stmt_again : (s t : Scope) (x y : RawStmt) → Follows s t → IsNamed p f s (stmt_locals x) → AreFaultless (stmt_uses s x) → ShowsStmt p f y (stmt_of s x) → IsAgain s t x y
    stmt_again s t Empty y follows h faultless shows = subst (IsAgain s t Empty) (sym shows) (empty_again s t follows)
    stmt_again s t (Declare constant u x sh) y follows h faultless shows = declaration_again p f s t constant u x sh y follows h faultless shows
    stmt_again s t (Assign v o b) y follows h faultless shows =
        subst (IsAgain s t (Assign v o b)) (sym shows.2) (assign_again p f s t v shows.0 o b shows.1 follows h faultless shows.3 shows.4)
    stmt_again s t (Call u x es) y follows h faultless shows =
        subst (IsAgain s t (Call u x es)) (sym shows.3) (call_again p f s t u shows.0 x shows.1 es shows.2 follows h faultless shows.4 shows.5 shows.6)
    stmt_again s t (Break at) y follows h faultless shows = subst (IsAgain s t (Break at)) (sym shows.1) (break_again s t at shows.0 follows faultless)
    stmt_again s t (Continue at) y follows h faultless shows = subst (IsAgain s t (Continue at)) (sym shows.1) (continue_again s t at shows.0 follows faultless)
    stmt_again s t (Return at b) y follows h faultless shows =
        subst (IsAgain s t (Return at b)) (sym shows.2) (return_again p f s t at shows.0 b shows.1 follows h faultless shows.3)
    stmt_again s t (If' e a x b z) y follows h faultless shows =
        let u = scope_past_list s (row_locals x) in
        let parts = faultless_parts (expr_uses s.known e) (row_stmt_uses (inner_scope s) x ++ row_stmt_uses (inner_scope u) z) faultless in
        let sides = faultless_parts (row_stmt_uses (inner_scope s) x) (row_stmt_uses (inner_scope u) z) parts.1 in
        let test = test_again s t e shows.0 follows h parts.0 shows.4 in
        let one = row_again (inner_scope s) (inner_scope t) x shows.1 (opened_follows s t follows) (opened_named p f s (row_locals x) (first_named p f s (row_locals x) (row_locals z) h)) sides.0 shows.5 in
        let v = scope_past_list t (row_locals (hidden-the_row-RawStmt-0 shows.1)) in
        let after = opened_follows u v (past_follows s t (row_locals x) (row_locals (hidden-the_row-RawStmt-0 shows.1)) one.locals follows) in
        let two = row_again (inner_scope u) (inner_scope v) z shows.2 after (opened_named p f u (row_locals z) (past_named p f s (row_locals x) (row_locals z) h)) sides.1 shows.6 in
        subst (IsAgain s t (If' e a x b z)) (sym shows.3) (if_again s t follows e shows.0 a b _ _ x z (hidden-the_row-RawStmt-0 shows.1) (hidden-the_row-RawStmt-0 shows.2) test one two)
    stmt_again s t (While' at k e a x) y follows h faultless shows =
        let body = row_stmt_uses (loop_scope s) x in
        let loop = faultless_first (Looped at k) (expr_uses s.known e ++ body) faultless in
        let parts = faultless_parts (expr_uses s.known e) body loop.1 in
        let bound = bound_again k shows.1 (use_clean (Looped at k) loop.0) shows.5 in
        let test = test_again s t e shows.2 follows h parts.0 shows.6 in
        let one = row_again (loop_scope s) (loop_scope t) x shows.3 (looping_follows s t follows) (looping_named p f s (row_locals x) h) parts.1 shows.7 in
        subst (IsAgain s t (While' at k e a x)) (sym shows.4) (while_again s t follows at shows.0 k shows.1 e shows.2 a _ x (hidden-the_row-RawStmt-0 shows.3) bound test one)
    stmt_again s t (Do' at k a x e) y follows h faultless shows =
        let body = row_stmt_uses (loop_scope s) x in
        let loop = faultless_first (Looped at k) (body ++ expr_uses s.known e) faultless in
        let parts = faultless_parts body (expr_uses s.known e) loop.1 in
        let bound = bound_again k shows.1 (use_clean (Looped at k) loop.0) shows.5 in
        let one = row_again (loop_scope s) (loop_scope t) x shows.2 (looping_follows s t follows) (looping_named p f s (row_locals x) h) parts.0 shows.6 in
        let test = test_again s t e shows.3 follows h parts.1 shows.7 in
        subst (IsAgain s t (Do' at k a x e)) (sym shows.4) (do_again s t follows at shows.0 k shows.1 a _ x (hidden-the_row-RawStmt-0 shows.2) e shows.3 bound one test)
    stmt_again s t (For' at k i e j a x) y follows h faultless shows =
        let u = held_behind (inner_scope s) i in
        let v = held_behind u j in
        let w = held_behind (inner_scope t) (back-RawStmt-For-2 shows.2) in
        let z = held_behind w (back-RawStmt-For-2 shows.4) in
        let body = row_stmt_uses (loop_scope v) x in
        let loop = faultless_first (Looped at k) (held_uses (inner_scope s) i ++ (expr_uses u.known e ++ (held_uses u j ++ body))) faultless in
        let head = faultless_parts (held_uses (inner_scope s) i) (expr_uses u.known e ++ (held_uses u j ++ body)) loop.1 in
        let middle = faultless_parts (expr_uses u.known e) (held_uses u j ++ body) head.1 in
        let tail = faultless_parts (held_uses u j) body middle.1 in
        let in_s = opened_named p f s (held_locals i ++ (held_locals j ++ row_locals x)) h in
        let in_u = held_named p f (inner_scope s) i (held_locals j ++ row_locals x) in_s in
        let in_v = held_named p f u j (row_locals x) in_u in
        let bound = bound_again k shows.1 (use_clean (Looped at k) loop.0) shows.7 in
        let first = held_again (inner_scope s) (inner_scope t) i shows.2 (opened_follows s t follows) (first_named p f (inner_scope s) (held_locals i) (held_locals j ++ row_locals x) in_s) head.0 shows.8 in
        let test = test_again u w e shows.3 first.follows in_u middle.0 shows.9 in
        let next = held_again u w j shows.4 first.follows (first_named p f u (held_locals j) (row_locals x) in_u) tail.0 shows.10 in
        let one = row_again (loop_scope v) (loop_scope z) x shows.5 (looping_follows v z next.follows) (looping_named p f v (row_locals x) in_v) tail.1 shows.11 in
        subst (IsAgain s t (For' at k i e j a x)) (sym shows.6) (for_again s t follows at shows.0 k shows.1 i (back-RawStmt-For-2 shows.2) e shows.3 j (back-RawStmt-For-2 shows.4) a _ x (hidden-the_row-RawStmt-0 shows.5) bound first test next one)
    stmt_again s t (Group' a x) y follows h faultless shows =
        subst (IsAgain s t (Group' a x)) (sym shows.1) (group_again s t follows a _ x (hidden-the_row-RawStmt-0 shows.0) (row_again (inner_scope s) (inner_scope t) x shows.0 (opened_follows s t follows) (opened_named p f s (row_locals x) h) faultless shows.2))

    row_again : {m : _} (s t : Scope) (x : Row_of-RawStmt m) (ys : List RawStmt) → Follows s t → IsNamed p f s (row_locals x) → AreFaultless (row_stmt_uses s x) → ShowsRow p f ys (hidden-the_row-Stmt-0 (row_stmts s x))
        → IsRowAgain s t x (hidden-the_row-RawStmt-0 ys)
    row_again s t end_of-RawStmt ys follows h faultless shows =
        subst (λ zs. IsRowAgain s t end_of-RawStmt (hidden-the_row-RawStmt-0 zs)) (sym shows) (none_again s t)
    row_again s t (more_of-RawStmt x rest) ys follows h faultless shows =
        let parts = faultless_parts (stmt_uses s x) (row_stmt_uses (scope_behind s x) rest) faultless in
        let one = stmt_again s t x shows.0 follows (first_named p f s (stmt_locals x) (row_locals rest) h) parts.0 shows.3 in
        let others = row_again (scope_behind s x) (scope_behind t shows.0) rest shows.1 one.follows (behind_named p f s x (row_locals rest) h) parts.1 shows.4 in
        subst (λ zs. IsRowAgain s t (more_of-RawStmt x rest) (hidden-the_row-RawStmt-0 zs)) (sym shows.2) (more_again s t x shows.0 rest (hidden-the_row-RawStmt-0 shows.1) one others)

    held_again : (s t : Scope) (x : Held-RawStmt-For-2) (o : Option RawStmt) → Follows s t → IsNamed p f s (held_locals x) → AreFaultless (held_uses s x) → ShowsHeld p f o (back-Stmt-For-1 (held_stmt s x)) → IsHeldAgain s t x (back-RawStmt-For-2 o)
    held_again s t None' o follows h faultless shows = subst (λ z. IsHeldAgain s t None' (back-RawStmt-For-2 z)) (sym shows) (no_part_again s t follows)
    held_again s t (Some' a x) o follows h faultless shows =
        subst (λ z. IsHeldAgain s t (Some' a x) (back-RawStmt-For-2 z)) (sym shows.1) (part_again s t a x shows.0 (sole_again s t x shows.0 follows h faultless shows.2))

    sole_again : {m : _} (s t : Scope) (x : Row_of-RawStmt m) (y : RawStmt) → Follows s t → IsNamed p f s (row_locals x) → AreFaultless (row_stmt_uses s x) → ShowsStmt p f y (sole_stmt s x) → IsSoleAgain s t x y
    sole_again s t end_of-RawStmt y follows h faultless shows = tt
    sole_again s t (more_of-RawStmt x rest) y follows h faultless shows =
        let parts = faultless_parts (stmt_uses s x) (row_stmt_uses (scope_behind s x) rest) faultless in
        stmt_again s t x y follows (first_named p f s (stmt_locals x) (row_locals rest) h) parts.0 shows
