-- A well-formed statement keeps the layout of the store, and ends in a way that its place allows.
use Rattle.std.proofs.Common.{◌≡◌, ℕ, zero, suc, ◌+◌, Bool, true, false, if◌then◌else◌, List, [], ◌∷◌, length, Option, Some, None}
use Rattle.std.specs.Prelude.{IsTrue, IfSome, slice_get}
use Rattle.c_tree.specs.declared.tree.Ty.{Ty}
use Rattle.c_tree.specs.declared.tree.Var.TheVariants.{Local}
use Rattle.c_tree.specs.declared.tree.Expr.{Expr}
use Rattle.c_tree.specs.declared.tree.Target.{Target}
use Rattle.c_tree.specs.declared.tree.Target.TheVariants.{Nothing, Assign as Into, Declare}
use Rattle.c_tree.specs.declared.tree.Stmt.{Stmt, Row_of-Stmt, end_of-Stmt, more_of-Stmt, Held-Stmt-For-1, None', Some'}
use Rattle.c_tree.specs.declared.tree.Stmt.TheVariants.{Empty, Scalar, Array, Assign, Call, Break, Continue, Return, If', While', Do', For', Group'}
use Rattle.c_tree.specs.declared.program.BlockName.{BlockName}
use Rattle.c_tree.specs.declared.program.Func.{Func}
use Rattle.c_tree.specs.declared.value.Value.{Value}
use Rattle.c_tree.specs.declared.value.Store.{Store}
use Rattle.c_tree.specs.declared.value.Way.{Way}
use Rattle.c_tree.specs.declared.value.Way.TheVariants as way
use Rattle.c_tree.specs.Meaning.Values.{is_nonzero}
use Rattle.c_tree.specs.Meaning.Stores.{with_globals}
use Rattle.c_tree.specs.Meaning.Expressions.{type_of, val, all_values}
use Rattle.c_tree.specs.Meaning.Blocks.{is_simple, blocks, row_blocks, held_blocks}
use Rattle.c_tree.specs.Meaning.Statements.{Callee, Back, Gives, CallUndefined, CallOverBound, Outcome, Ends, Undefined, OverBound, with_value, store_outcome, after, then_do, turn_do, block, entered_block, simple, while_turns, do_turns, unset_target, give, come_back, call, return_value, exec, row_exec, held_exec, list_exec}
use Rattle.c_tree.specs.Keeping.Layouts.{Layout, shape, is_scalar, IsValueOf, HasLayout}
use Rattle.c_tree.specs.Keeping.WellFormed.{Context, WellFormedOptional, WellFormedTarget, WellFormedCallee, WellFormedStmt, WellFormedRow, WellFormedHeld, WellFormedSole, WellFormedList, returns_for, is_initialiser, is_step}
use Rattle.c_tree.specs.Keeping.Kept.{IsWayOf, Keeps, AreValues, IsResultOf, GivesBack, AreCalleesOf}
use Rattle.c_tree.proofs.Keeping.Slots.{read_layout, unset_keeps, put_keeps}
use Rattle.c_tree.proofs.Keeping.Evaluated.{val_gives}
use Rattle.c_tree.proofs.Keeping.SimpleKept.{values_give, declared_keeps, list_keeps, assignment_keeps}

-- ---- combinators

module _ (l : Layout) (r : Option Ty) where
  after_keeps : (looped : Bool) (t : List BlockName) (o : Outcome) → Keeps l r looped o → Keeps l r looped (after t o)
  after_keeps looped t (Ends u s w) h = h
  after_keeps looped t Undefined h = tt
  after_keeps looped t OverBound h = tt

  stored_keeps : (looped : Bool) (o : Option Store) → IfSome o (HasLayout l) → Keeps l r looped (store_outcome o)
  stored_keeps looped None h = tt
  stored_keeps looped (Some s) h = (h, tt)

  value_keeps : (looped : Bool) (o : Option Value) (go : Value → Outcome) → ((v : Value) → Keeps l r looped (go v)) → Keeps l r looped (with_value o go)
  value_keeps looped None go h = tt
  value_keeps looped (Some v) go h = h v

  choice_keeps : (looped : Bool) (b : Bool) (x y : Outcome) → Keeps l r looped x → Keeps l r looped y → Keeps l r looped (if b then x else y)
  choice_keeps looped true x y hx hy = hx
  choice_keeps looped false x y hx hy = hy

  then_keeps : (looped : Bool) (o : Outcome) (go : Store → Outcome) → Keeps l r looped o → ((s : Store) → HasLayout l s → Keeps l r looped (go s)) → Keeps l r looped (then_do o go)
  then_keeps looped (Ends t s way.Next) go h on = after_keeps looped t (go s) (on s h.0)
  then_keeps looped (Ends t s way.Break) go h on = h
  then_keeps looped (Ends t s way.Continue) go h on = h
  then_keeps looped (Ends t s (way.Return v)) go h on = h
  then_keeps looped Undefined go h on = tt
  then_keeps looped OverBound go h on = tt

  returned_way : (looped : Bool) (r : Option Ty) (v : Option Value) → IsWayOf r true (way.Return v) → IsWayOf r looped (way.Return v)
  returned_way looped None None h = tt
  returned_way looped None (Some v) h = absurd h
  returned_way looped (Some t) None h = absurd h
  returned_way looped (Some t) (Some v) h = h

  turn_keeps : (looped : Bool) (o : Outcome) (go : Store → Outcome) → Keeps l r true o → ((s : Store) → HasLayout l s → Keeps l r looped (go s)) → Keeps l r looped (turn_do o go)
  turn_keeps looped (Ends t s way.Next) go h on = after_keeps looped t (go s) (on s h.0)
  turn_keeps looped (Ends t s way.Break) go h on = (h.0, tt)
  turn_keeps looped (Ends t s way.Continue) go h on = after_keeps looped t (go s) (on s h.0)
  turn_keeps looped (Ends t s (way.Return v)) go h on = (h.0, returned_way looped r v h.1)
  turn_keeps looped Undefined go h on = tt
  turn_keeps looped OverBound go h on = tt

  looser_way : (looped : Bool) (r : Option Ty) (w : Way) → IsWayOf r false w → IsWayOf r looped w
  looser_way looped r way.Next h = tt
  looser_way looped r way.Break h = absurd (cc)
  looser_way looped r way.Continue h = absurd (cc)
  looser_way looped None (way.Return None) h = tt
  looser_way looped None (way.Return (Some v)) h = absurd h
  looser_way looped (Some t) (way.Return None) h = absurd h
  looser_way looped (Some t) (way.Return (Some v)) h = h

  -- what stands in no loop may stand in one
  looser : (looped : Bool) (o : Outcome) → Keeps l r false o → Keeps l r looped o
  looser looped (Ends t s w) h = (h.0, looser_way looped r w h.1)
  looser looped Undefined h = tt
  looser looped OverBound h = tt

  -- ---- loops

  while_keeps : (looped : Bool) (n : ℕ) (c : BlockName) (e : Expr) (body step : Store → Outcome) → ((s : Store) → HasLayout l s → Keeps l r true (body s)) → ((s : Store) → HasLayout l s → Keeps l r false (step s)) → (s : Store) → HasLayout l s → Keeps l r looped (while_turns n c e body step s)
  while_keeps looped zero c e body step hb hs s h =
      after_keeps looped (c ∷ []) (with_value (val e s) (λ v. if is_nonzero v then OverBound else Ends [] s way.Next)) (value_keeps looped (val e s) (λ v. if is_nonzero v then OverBound else Ends [] s way.Next) (λ v. choice_keeps looped (is_nonzero v) OverBound (Ends [] s way.Next) tt (h, tt)))
  while_keeps looped (suc n) c e body step hb hs s h =
      let again = λ (s' : Store). then_do (step s') (while_turns n c e body step) in
      let go = λ (v : Value). if is_nonzero v then turn_do (body s) again else Ends [] s way.Next in
      after_keeps looped (c ∷ []) (with_value (val e s) go) (value_keeps looped (val e s) go (λ v. choice_keeps looped (is_nonzero v) (turn_do (body s) again) (Ends [] s way.Next) (turn_keeps looped (body s) again (hb s h) (λ s' h'. then_keeps looped (step s') (while_turns n c e body step) (looser looped (step s') (hs s' h')) (while_keeps looped n c e body step hb hs))) (h, tt)))

  do_keeps : (looped : Bool) (n : ℕ) (c : BlockName) (e : Expr) (body : Store → Outcome) → ((s : Store) → HasLayout l s → Keeps l r true (body s)) → (s : Store) → HasLayout l s → Keeps l r looped (do_turns n c e body s)
  do_keeps looped zero c e body hb s h = tt
  do_keeps looped (suc n) c e body hb s h =
      let test = λ (s' : Store) (v : Value). if is_nonzero v then do_turns n c e body s' else Ends [] s' way.Next in
      let again = λ (s' : Store). after (c ∷ []) (with_value (val e s') (test s')) in
      turn_keeps looped (body s) again (hb s h) (λ s' h'. after_keeps looped (c ∷ []) (with_value (val e s') (test s')) (value_keeps looped (val e s') (test s') (λ v. choice_keeps looped (is_nonzero v) (do_turns n c e body s') (Ends [] s' way.Next) (do_keeps looped n c e body hb s' h') (h', tt))))

  -- ---- calls

  give_keeps : (looped : Bool) (q : Option Ty) (t : Target) (v : Option Value) (s : Store) → WellFormedTarget l t → IsResultOf q v → HasLayout l s → Keeps l r looped (give t v s)
  give_keeps looped q Nothing v s w is h = (h, tt)
  give_keeps looped q (Into x) None s w is h = tt
  give_keeps looped None (Into x) (Some v) s w is h = absurd is
  give_keeps looped (Some t) (Into x) (Some v) s w is h = (put_keeps l s x v h w is.in_range, tt)
  give_keeps looped q (Declare n) None s w is h = tt
  give_keeps looped None (Declare n) (Some v) s w is h = absurd is
  give_keeps looped (Some t) (Declare n) (Some v) s w is h = (put_keeps l s (Local n) v h w is.in_range, tt)

  back_keeps : (looped : Bool) (q : Option Ty) (t : Target) (s : Store) (b : Back) → WellFormedTarget l t → HasLayout l s → GivesBack l.globals q b → Keeps l r looped (come_back t s b)
  back_keeps looped q t s (Gives u gs v) w h back =
      after_keeps looped u (give t v (with_globals s gs)) (give_keeps looped q t v (with_globals s gs) w back.1 (record { locals_of = h.locals_of; globals_of = back.0 }))
  back_keeps looped q t s CallUndefined w h back = tt
  back_keeps looped q t s CallOverBound w h back = tt

  target_keeps : (t : Target) (s : Store) → WellFormedTarget l t → HasLayout l s → HasLayout l (unset_target t s)
  target_keeps Nothing s w h = h
  target_keeps (Into x) s w h = h
  target_keeps (Declare n) s w h = unset_keeps l s n h w

  called_keeps : (looped : Bool) (fs : List Func) (cs : List Callee) → AreCalleesOf l.globals fs cs → (g n : ℕ) (t : Target) (o : Option (List Value)) (s : Store) → WellFormedTarget l t → WellFormedCallee (slice_get fs g) n t → IfSome o (λ vs. (length vs ≡ n) × AreValues vs) → HasLayout l s → Keeps l r looped (call (slice_get cs g) t o s)
  called_keeps looped [] [] are g n t o s wt wc ho h = absurd wc
  called_keeps looped [] (c ∷ cs) are g n t o s wt wc ho h = absurd are
  called_keeps looped (f ∷ fs) [] are g n t o s wt wc ho h = absurd are
  called_keeps looped (f ∷ fs) (c ∷ cs) are zero n t None s wt wc ho h = tt
  called_keeps looped (f ∷ fs) (c ∷ cs) are zero n t (Some vs) s wt wc ho h =
      back_keeps looped f.result t s (c vs s.globals) wt h (are.0.comes_back vs s.globals (cc) ho.1 h.globals_of)
  called_keeps looped (f ∷ fs) (c ∷ cs) are (suc g) n t o s wt wc ho h =
      called_keeps looped fs cs are.1 g n t o s wt wc ho h

return_keeps : (l : Layout) (r : Option Ty) (looped : Bool) (e : Option Expr) (s : Store) → IsTrue (returns_for r e) → WellFormedOptional l e → HasLayout l s → Keeps l r looped (return_value e s)
return_keeps l None looped None s is w h = (h, tt)
return_keeps l None looped (Some e) s is w h = absurd (cc)
return_keeps l (Some t) looped None s is w h = absurd (cc)
return_keeps l (Some t) looped (Some e) s is w h =
    by_value (type_of e s) (val e s) (val_gives l s (read_layout l s h) e w)
  where
    by_value : (u : Ty) (o : Option Value) → IfSome o (IsValueOf u) → Keeps l (Some t) looped (with_value o (λ v. Ends [] s (way.Return (Some v))))
    by_value u None ho = tt
    by_value u (Some v) ho = (h, ho.in_range)

-- ---- statements

simple_keeps : (l : Layout) (r : Option Ty) (looped : Bool) (t : List BlockName) (o : Option Store) → IfSome o (HasLayout l) → Keeps l r looped (after t (store_outcome o))
simple_keeps l r looped t o h = after_keeps l r looped t (store_outcome o) (stored_keeps l r looped o h)

scalar_keeps : (l : Layout) (s : Store) → HasLayout l s → (n : ℕ) (e : Option Expr) → IsTrue (is_scalar (shape l (Local n))) → WellFormedOptional l e → IfSome (simple (Scalar n e) s) (HasLayout l)
scalar_keeps l s h n None is w = unset_keeps l s n h is
scalar_keeps l s h n (Some e) is w = declared_keeps l s h n e is w

module _ (c : Context) (cs : List Callee) (are : AreCalleesOf c.layout.globals c.above cs) (f : ℕ) where
  mutual
    unfolding exec row_exec held_exec WellFormedStmt WellFormedRow WellFormedHeld WellFormedSole

    pub stmt_keeps : (looped : Bool) (st : Stmt) (n : ℕ) (run : Bool) (s : Store) → WellFormedStmt c looped st → HasLayout c.layout s → Keeps c.layout c.result looped (exec cs f st n run s)
    stmt_keeps looped Empty n run s w h =
        simple_keeps c.layout c.result looped (entered_block f n run) (simple Empty s) h
    stmt_keeps looped (Scalar l e) n run s w h =
        simple_keeps c.layout c.result looped (entered_block f n run) (simple (Scalar l e) s) (scalar_keeps c.layout s h l e w.0 w.1)
    stmt_keeps looped (Array l es) n run s w h =
        simple_keeps c.layout c.result looped (entered_block f n run) (simple (Array l es) s) (list_keeps c.layout s h l es w.0 w.1)
    stmt_keeps looped (Assign p op e) n run s w h =
        simple_keeps c.layout c.result looped (entered_block f n run) (simple (Assign p op e) s) (assignment_keeps c.layout s h p op e w.0 w.1.1)
    stmt_keeps looped (Call t g es) n run s w h =
        let s' = unset_target t s in
        let kept = target_keeps c.layout c.result t s w.0 h in
        after_keeps c.layout c.result looped (block f n ∷ []) (call (slice_get cs g) t (all_values es s') s') (called_keeps c.layout c.result looped c.above cs are g (length es) t (all_values es s') s' w.0 w.1.0 (values_give c.layout s' (read_layout c.layout s' kept) es w.1.1) kept)
    stmt_keeps looped Break n run s w h = (h, w)
    stmt_keeps looped Continue n run s w h = (h, w)
    stmt_keeps looped (Return e) n run s w h =
        after_keeps c.layout c.result looped (block f n ∷ []) (return_value e s) (return_keeps c.layout c.result looped e s w.0 w.1 h)
    stmt_keeps looped (If' e a x b y) n run s w h =
        let go = λ (v : Value). if is_nonzero v then row_exec cs f x (n + 1) false s else row_exec cs f y (n + 1 + row_blocks x false) false s in
        after_keeps c.layout c.result looped (block f n ∷ []) (with_value (val e s) go) (value_keeps c.layout c.result looped (val e s) go (λ v. choice_keeps c.layout c.result looped (is_nonzero v) (row_exec cs f x (n + 1) false s) (row_exec cs f y (n + 1 + row_blocks x false) false s) (row_keeps looped x (n + 1) false s w.1.0 h) (row_keeps looped y (n + 1 + row_blocks x false) false s w.1.1 h)))
    stmt_keeps looped (While' k e a x) n run s w h =
        while_keeps c.layout c.result looped k (block f n) e (row_exec cs f x (n + 1) false) (λ s'. Ends [] s' way.Next) (λ s' h'. row_keeps true x (n + 1) false s' w.1.1 h') (λ s' h'. (h', tt)) s h
    stmt_keeps looped (Do' k a x e) n run s w h =
        do_keeps c.layout c.result looped k (block f (n + row_blocks x false)) e (row_exec cs f x n false) (λ s' h'. row_keeps true x n false s' w.1.0 h') s h
    stmt_keeps looped (For' k i e j a x) n run s w h =
        let at = n + held_blocks i in
        let turns = while_turns k (block f at) e (row_exec cs f x (at + 1 + held_blocks j) false) (held_exec cs f j (at + 1)) in
        then_keeps c.layout c.result looped (held_exec cs f i n s) turns (looser c.layout c.result looped (held_exec cs f i n s) (held_keeps is_initialiser i n s w.1.0 h)) (λ s' h'. while_keeps c.layout c.result looped k (block f at) e (row_exec cs f x (at + 1 + held_blocks j) false) (held_exec cs f j (at + 1)) (λ s1 h1. row_keeps true x (at + 1 + held_blocks j) false s1 w.1.1.1.1 h1) (λ s1 h1. held_keeps is_step j (at + 1) s1 w.1.1.1.0 h1) s' h')
    stmt_keeps looped (Group' a x) n run s w h = row_keeps looped x n false s w h

    row_keeps : {m : _} (looped : Bool) (x : Row_of-Stmt m) (n : ℕ) (run : Bool) (s : Store) → WellFormedRow c looped x → HasLayout c.layout s → Keeps c.layout c.result looped (row_exec cs f x n run s)
    row_keeps looped end_of-Stmt n run s w h = (h, tt)
    row_keeps looped (more_of-Stmt st rest) n run s w h =
        then_keeps c.layout c.result looped (exec cs f st n run s) (row_exec cs f rest (n + blocks st run) (is_simple st)) (stmt_keeps looped st n run s w.0 h) (λ s' h'. row_keeps looped rest (n + blocks st run) (is_simple st) s' w.1 h')

    held_keeps : (sort : Stmt → Bool) (x : Held-Stmt-For-1) (n : ℕ) (s : Store) → WellFormedHeld c sort x → HasLayout c.layout s → Keeps c.layout c.result false (held_exec cs f x n s)
    held_keeps sort None' n s w h = (h, tt)
    held_keeps sort (Some' a x) n s w h = sole_keeps sort x n s w h

    sole_keeps : {m : _} (sort : Stmt → Bool) (x : Row_of-Stmt m) (n : ℕ) (s : Store) → WellFormedSole c sort x → HasLayout c.layout s → Keeps c.layout c.result false (row_exec cs f x n false s)
    sole_keeps sort end_of-Stmt n s w h = absurd w
    sole_keeps sort (more_of-Stmt st rest) n s w h =
        then_keeps c.layout c.result false (exec cs f st n false s) (row_exec cs f rest (n + blocks st false) (is_simple st)) (stmt_keeps false st n false s w.1.0 h) (λ s' h'. row_keeps false rest (n + blocks st false) (is_simple st) s' w.1.1 h')

  pub list_statements_keep : (looped : Bool) (xs : List Stmt) (n : ℕ) (run : Bool) (s : Store) → WellFormedList c looped xs → HasLayout c.layout s → Keeps c.layout c.result looped (list_exec cs f xs n run s)
  list_statements_keep looped [] n run s w h = (h, tt)
  list_statements_keep looped (st ∷ rest) n run s w h =
      then_keeps c.layout c.result looped (exec cs f st n run s) (list_exec cs f rest (n + blocks st run) (is_simple st)) (stmt_keeps looped st n run s w.0 h) (λ s' h'. list_statements_keep looped rest (n + blocks st run) (is_simple st) s' w.1 h')
