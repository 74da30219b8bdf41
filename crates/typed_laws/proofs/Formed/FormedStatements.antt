-- A shaped statement, in a scope whose names stand for what is there, is well-formed.
use Rattle.std.proofs.Common.{◌≡◌, ℕ, Bool, false, List, [], ◌∷◌, ◌++◌, length, Option, Some, None, refl, sym, subst}
use Rattle.std.specs.Prelude.{IsTrue, is_some, slice_get}
use Rattle.c_tree.specs.declared.tree.Ty.{Ty}
use Rattle.c_tree.specs.declared.tree.Stmt.{Stmt}
use Rattle.c_tree.specs.declared.program.Func.{Func}
use Rattle.c_tree.specs.declared.program.Local.{Local}
use Rattle.c_tree.specs.declared.unit.Spot.{Spot}
use Rattle.c_tree.specs.declared.unit.RawExpr.{RawExpr}
use Rattle.c_tree.specs.declared.unit.RawTarget.{RawTarget}
use Rattle.c_tree.specs.declared.unit.RawTarget.TheVariants as target
use Rattle.c_tree.specs.declared.unit.RawStmt.{RawStmt, Row_of-RawStmt, end_of-RawStmt, more_of-RawStmt, Held-RawStmt-For-2, None', Some'}
use Rattle.c_tree.specs.declared.unit.RawStmt.TheVariants.{Empty, Declare, Assign, Call, Break, Continue, Return, If', While', Do', For', Group'}
use Rattle.c_tree.specs.Checking.Scopes.{entity_of, function_number}
use Rattle.c_tree.specs.Checking.Constants.{expr_of}
use Rattle.c_tree.specs.Checking.Naming.{Scope, inner_scope, loop_scope, scope_past_list, stmt_locals, row_locals, held_locals, list_locals, scope_behind, optional_expr, target_of, scope_behind_target, bound_number, stmt_of, row_stmts, held_stmt, sole_stmt, held_behind, stmts_of}
use Rattle.c_tree.specs.Keeping.WellFormed.{Context, WellFormedStmt, WellFormedList, WellFormedCallee, returns_for, is_initialiser, is_step}
use Rattle.c_tree.specs.Checking.Uses.{expr_uses, place_uses, target_uses, has_target, call_uses, optional_uses, stmt_uses, row_stmt_uses, held_uses, stmts_uses}
use Rattle.c_tree.proofs.Layers.FormedLayers.{WellFormedMaybe}
use Rattle.typed_laws.specs.Shaped.{ShapedStmt, ShapedRow, ShapedHeld, ShapedSole, ShapedList, ShapedExprs, ShapedOptional, is_first, is_next}
use Rattle.typed_laws.proofs.Faultless.{AllClean, clean_parts}
use Rattle.typed_laws.proofs.Standing.{name_stands}
use Rattle.typed_laws.proofs.Inside.{Inside, past_inside, first_inside, opened_inside, looping_inside, behind_inside, held_inside, looped_behind}
use Rattle.typed_laws.proofs.Formed.FormedExpressions.{expr_formed, exprs_formed, optional_formed, place_formed, length_exprs}
use Rattle.typed_laws.proofs.Formed.FormedDeclarations.{declaration_formed}
use Rattle.typed_laws.proofs.Formed.FormedCalls.{target_locals, target_formed, callee_formed, targeted_inside, targeted_func}
use Rattle.typed_laws.proofs.Formed.FormedLoops.{bound_formed, if_formed, while_formed, do_formed, for_formed, group_formed, first_any, next_any, first_is, next_is}

returns_it : (r q : Option Ty) (s : Scope) (e : Option RawExpr) → r ≡ q → is_some e ≡ is_some r → IsTrue (returns_for q (optional_expr s.known e))
returns_it None q s None same h = subst (λ p. IsTrue (returns_for p None)) same refl
returns_it None q s (Some e) same h = absurd (cc)
returns_it (Some t) q s None same h = absurd (cc)
returns_it (Some t) q s (Some e) same h = subst (λ p. IsTrue (returns_for p (Some (expr_of s.known e)))) same refl

module _ (c : Context) (fs : List Func) where
  -- a statement of this sort stands in a `for`
  abbrev Turns : (RawStmt → Bool) → (Stmt → Bool) → Type 0
  Turns sort to = (s : Scope) (x : RawStmt) → IsTrue (sort x) → WellFormedStmt c s.looped (stmt_of s x) → IsTrue (to (stmt_of s x)) × WellFormedStmt c false (stmt_of s x)

  turns_first : Turns is_first is_initialiser
  turns_first s x is h = let to = first_is s x is in (to, first_any c s.looped (stmt_of s x) to h)

  turns_next : Turns is_next is_step
  turns_next s x is h = let to = next_is s x is in (to, next_any c s.looped (stmt_of s x) to h)

  call_formed : (s : Scope) (looped : Bool) (t : RawTarget) (f : Spot) (es : List RawExpr) (ms : List Local) → Inside c fs s (target_locals t ++ ms) → ShapedExprs es → AllClean (target_uses s t ++ call_uses (scope_behind_target s t) (has_target t) f es) → WellFormedStmt c looped (stmt_of s (Call t f es))
  unfolding WellFormedStmt stmt_of
  call_formed s looped t f es ms h shaped clean =
      let parts = clean_parts (target_uses s t) (call_uses (scope_behind_target s t) (has_target t) f es) clean in
      let inner = targeted_inside c fs s t ms h in
      let known = (scope_behind_target s t).known in
      let stands = name_stands c.layout fs known f.name inner.stand in
      let callee = callee_formed c fs s t (target_locals t ++ ms) (entity_of known f.name) (length es) (scope_behind_target s t).func h (targeted_func s t) stands parts.1.0 in
      (target_formed c fs s t ms h parts.0, (subst (λ n. WellFormedCallee (slice_get c.above (function_number (entity_of known f.name))) n (target_of s t)) (sym (length_exprs known es)) callee, exprs_formed c.layout fs known inner.stand es shaped parts.1.1))

  return_formed : (s : Scope) (at : ℕ) (e : Option RawExpr) (ms : List Local) → Inside c fs s ms → ShapedOptional e → is_some e ≡ is_some s.result → AllClean (optional_uses s.known e) → WellFormedStmt c s.looped (stmt_of s (Return at e))
  unfolding WellFormedStmt stmt_of
  return_formed s at e ms h shaped value clean =
      (returns_it s.result c.result s e h.result value, optional_formed c.layout fs s.known h.stand e shaped clean)

  mutual
    unfolding WellFormedStmt ShapedStmt ShapedRow ShapedHeld ShapedSole stmt_of row_stmts held_stmt sole_stmt stmt_uses row_stmt_uses held_uses stmt_locals row_locals held_locals

    pub stmt_formed : (s : Scope) (x : RawStmt) → Inside c fs s (stmt_locals x) → ShapedStmt x → AllClean (stmt_uses s x) → WellFormedStmt c s.looped (stmt_of s x)
    stmt_formed s Empty h shaped clean = tt
    stmt_formed s (Declare constant t x sh) h shaped clean = declaration_formed c fs s s.looped constant t x sh [] h shaped clean
    stmt_formed s (Assign p op e) h shaped clean =
        let parts = clean_parts (place_uses s.known p) (expr_uses s.known e) clean in
        (place_formed c.layout fs s.known h.stand p shaped.0 parts.0, (shaped.1.0, expr_formed c.layout fs s.known h.stand e shaped.1.1 parts.1))
    stmt_formed s (Call target.Nothing f es) h shaped clean = call_formed s s.looped target.Nothing f es [] h shaped clean
    stmt_formed s (Call (target.Assign x) f es) h shaped clean = call_formed s s.looped (target.Assign x) f es [] h shaped clean
    stmt_formed s (Call (target.Declare constant t x) f es) h shaped clean = call_formed s s.looped (target.Declare constant t x) f es [] h shaped clean
    stmt_formed s (Break at) h shaped clean = clean.0
    stmt_formed s (Continue at) h shaped clean = clean.0
    stmt_formed s (Return at e) h shaped clean = return_formed s at e [] h shaped clean.0 clean.1
    stmt_formed s (If' e a x b y) h shaped clean =
        let t = scope_past_list s (row_locals x) in
        let parts = clean_parts (expr_uses s.known e) (row_stmt_uses (inner_scope s) x ++ row_stmt_uses (inner_scope t) y) clean in
        let sides = clean_parts (row_stmt_uses (inner_scope s) x) (row_stmt_uses (inner_scope t) y) parts.1 in
        let one = row_formed (inner_scope s) x (opened_inside c fs s (row_locals x) (first_inside c fs s (row_locals x) (row_locals y) h)) shaped.1.0 sides.0 in
        let two = row_formed (inner_scope t) y (opened_inside c fs t (row_locals y) (past_inside c fs s (row_locals x) (row_locals y) h)) shaped.1.1 sides.1 in
        if_formed c s.looped (expr_of s.known e) (row_stmts (inner_scope s) x) (row_stmts (inner_scope t) y) (expr_formed c.layout fs s.known h.stand e shaped.0 parts.0) one two
    stmt_formed s (While' at k e a x) h shaped clean =
        let parts = clean_parts (expr_uses s.known e) (row_stmt_uses (loop_scope s) x) clean.1 in
        let body = row_formed (loop_scope s) x (looping_inside c fs s (row_locals x) h) shaped.1 parts.1 in
        while_formed c s.looped (bound_number k) (expr_of s.known e) (row_stmts (loop_scope s) x) (bound_formed k clean.0) (expr_formed c.layout fs s.known h.stand e shaped.0 parts.0) body
    stmt_formed s (Do' at k a x e) h shaped clean =
        let parts = clean_parts (row_stmt_uses (loop_scope s) x) (expr_uses s.known e) clean.1 in
        let body = row_formed (loop_scope s) x (looping_inside c fs s (row_locals x) h) shaped.0 parts.0 in
        do_formed c s.looped (bound_number k) (row_stmts (loop_scope s) x) (expr_of s.known e) (bound_formed k clean.0) body (expr_formed c.layout fs s.known h.stand e shaped.1 parts.1)
    stmt_formed s (For' at k i e j a x) h shaped clean =
        let p = inner_scope s in
        let t = held_behind p i in
        let u = held_behind t j in
        let first = clean_parts (held_uses p i) (expr_uses t.known e ++ (held_uses t j ++ row_stmt_uses (loop_scope u) x)) clean.1 in
        let second = clean_parts (expr_uses t.known e) (held_uses t j ++ row_stmt_uses (loop_scope u) x) first.1 in
        let third = clean_parts (held_uses t j) (row_stmt_uses (loop_scope u) x) second.1 in
        let in_p = opened_inside c fs s (held_locals i ++ (held_locals j ++ row_locals x)) h in
        let in_t = held_inside c fs p i (held_locals j ++ row_locals x) in_p in
        let in_u = held_inside c fs t j (row_locals x) in_t in
        let one = held_formed p is_first is_initialiser turns_first i (first_inside c fs p (held_locals i) (held_locals j ++ row_locals x) in_p) shaped.0 first.0 in
        let two = expr_formed c.layout fs t.known in_t.stand e shaped.1.0 second.0 in
        let three = held_formed t is_next is_step turns_next j (first_inside c fs t (held_locals j) (row_locals x) in_t) shaped.1.1.0 third.0 in
        let four = row_formed (loop_scope u) x (looping_inside c fs u (row_locals x) in_u) shaped.1.1.1 third.1 in
        for_formed c s.looped (bound_number k) (held_stmt p i) (held_stmt t j) (expr_of t.known e) (row_stmts (loop_scope u) x) (bound_formed k clean.0) one two three four
    stmt_formed s (Group' a x) h shaped clean =
        group_formed c s.looped (row_stmts (inner_scope s) x) (row_formed (inner_scope s) x (opened_inside c fs s (row_locals x) h) shaped clean)

    row_formed : {m : _} (s : Scope) (x : Row_of-RawStmt m) → Inside c fs s (row_locals x) → ShapedRow x → AllClean (row_stmt_uses s x) → WellFormedList c s.looped (row_stmts s x)
    row_formed s end_of-RawStmt h shaped clean = tt
    row_formed s (more_of-RawStmt x rest) h shaped clean =
        let parts = clean_parts (stmt_uses s x) (row_stmt_uses (scope_behind s x) rest) clean in
        let others = row_formed (scope_behind s x) rest (behind_inside c fs s x (row_locals rest) h) shaped.1 parts.1 in
        (stmt_formed s x (first_inside c fs s (stmt_locals x) (row_locals rest) h) shaped.0 parts.0, subst (λ b. WellFormedList c b (row_stmts (scope_behind s x) rest)) (looped_behind s x) others)

    held_formed : (s : Scope) (sort : RawStmt → Bool) (to : Stmt → Bool) → Turns sort to → (x : Held-RawStmt-For-2) → Inside c fs s (held_locals x) → ShapedHeld sort x → AllClean (held_uses s x) → WellFormedMaybe c to (held_stmt s x)
    held_formed s sort to turns None' h shaped clean = tt
    held_formed s sort to turns (Some' a x) h shaped clean = sole_formed s sort to turns x h shaped clean

    sole_formed : {m : _} (s : Scope) (sort : RawStmt → Bool) (to : Stmt → Bool) → Turns sort to → (x : Row_of-RawStmt m) → Inside c fs s (row_locals x) → ShapedSole sort x → AllClean (row_stmt_uses s x) → WellFormedMaybe c to (Some (sole_stmt s x))
    sole_formed s sort to turns end_of-RawStmt h shaped clean = absurd shaped
    sole_formed s sort to turns (more_of-RawStmt x rest) h shaped clean =
        let parts = clean_parts (stmt_uses s x) (row_stmt_uses (scope_behind s x) rest) clean in
        let turned = turns s x shaped.0 (stmt_formed s x (first_inside c fs s (stmt_locals x) (row_locals rest) h) shaped.1.0 parts.0) in
        (turned.0, (turned.1, tt))

  -- the same of a list
  pub list_formed : (s : Scope) (xs : List RawStmt) → Inside c fs s (list_locals xs) → ShapedList xs → AllClean (stmts_uses s xs) → WellFormedList c s.looped (stmts_of s xs)
  list_formed s [] h shaped clean = tt
  list_formed s (x ∷ xs) h shaped clean =
      let parts = clean_parts (stmt_uses s x) (stmts_uses (scope_behind s x) xs) clean in
      let others = list_formed (scope_behind s x) xs (behind_inside c fs s x (list_locals xs) h) shaped.1 parts.1 in
      (stmt_formed s x (first_inside c fs s (stmt_locals x) (list_locals xs) h) shaped.0 parts.0, subst (λ b. WellFormedList c b (stmts_of (scope_behind s x) xs)) (looped_behind s x) others)
