-- A trace has only blocks of the program.
use Rattle.std.proofs.Common.{◌≡◌, ◌<◌, ◌≤◌, ℕ, zero, suc, ◌+◌, Bool, true, false, if◌then◌else◌, List, [], ◌∷◌, ◌++◌, length, Option, Some, None, refl, subst, ap, ◌∙◌, arith, append_assoc, length-append}
use Rattle.std.specs.Prelude.{slice_get}
use Rattle.c_tree.specs.declared.tree.Ty.{Ty}
use Rattle.c_tree.specs.declared.tree.Expr.{Expr}
use Rattle.c_tree.specs.declared.tree.Target.{Target}
use Rattle.c_tree.specs.declared.tree.Target.TheVariants.{Nothing, Assign as Into, Declare}
use Rattle.c_tree.specs.declared.tree.Stmt.{Stmt, Row_of-Stmt, end_of-Stmt, more_of-Stmt, Held-Stmt-For-1, None', Some'}
use Rattle.c_tree.specs.declared.tree.Stmt.TheVariants.{Empty, Scalar, Array, Assign, Call, Break, Continue, Return, If', While', Do', For', Group'}
use Rattle.c_tree.specs.declared.program.BlockName.{BlockName}
use Rattle.c_tree.specs.declared.program.Func.{Func}
use Rattle.c_tree.specs.declared.program.Program.{Program}
use Rattle.c_tree.specs.declared.program.Input.{Input}
use Rattle.c_tree.specs.declared.value.Value.{Value}
use Rattle.c_tree.specs.declared.value.Slot.{Slot}
use Rattle.c_tree.specs.declared.value.Store.{Store}
use Rattle.c_tree.specs.declared.value.Way.TheVariants as way
use Rattle.c_tree.specs.Meaning.Values.{is_nonzero}
use Rattle.c_tree.specs.Meaning.Expressions.{val, all_values}
use Rattle.c_tree.specs.Meaning.Blocks.{is_simple, begun_blocks, blocks, row_blocks, held_blocks, list_blocks, block_count, IsBlockOf, AreBlocksOf}
use Rattle.c_tree.specs.Meaning.Statements.{Callee, Back, Gives, CallUndefined, CallOverBound, Outcome, Ends, Undefined, OverBound, with_value, store_outcome, after, then_do, turn_do, entered_block, simple, while_turns, do_turns, unset_target, give, come_back, call, return_value, exec, row_exec, held_exec, list_exec}
use Rattle.c_tree.specs.Meaning.Runs.{entry_slots, back, callee, callees, Run, Ended, IsUndefined, IsOverBound, run_of, entry_run, run}

-- ---- combinators, of functions fs

module _ (fs : List Func) where
  append_blocks : (t u : List BlockName) → AreBlocksOf fs t → AreBlocksOf fs u → AreBlocksOf fs (t ++ u)
  append_blocks [] u ht hu = hu
  append_blocks (b ∷ t) u ht hu = (ht.0, append_blocks t u ht.1 hu)

  abbrev Traced : Outcome → Type 0
  Traced (Ends t s w) = AreBlocksOf fs t
  Traced Undefined = Unit {0}
  Traced OverBound = Unit {0}

  after_traced : (t : List BlockName) (o : Outcome) → AreBlocksOf fs t → Traced o → Traced (after t o)
  after_traced t (Ends u s w) ht ho = append_blocks t u ht ho
  after_traced t Undefined ht ho = tt
  after_traced t OverBound ht ho = tt

  stored_traced : (o : Option Store) → Traced (store_outcome o)
  stored_traced None = tt
  stored_traced (Some s) = tt

  value_traced : (o : Option Value) (go : Value → Outcome) → ((v : Value) → Traced (go v)) → Traced (with_value o go)
  value_traced None go h = tt
  value_traced (Some v) go h = h v

  choice_traced : (b : Bool) (x y : Outcome) → Traced x → Traced y → Traced (if b then x else y)
  choice_traced true x y hx hy = hx
  choice_traced false x y hx hy = hy

  then_traced : (o : Outcome) (go : Store → Outcome) → Traced o → ((s : Store) → Traced (go s)) → Traced (then_do o go)
  then_traced (Ends t s way.Next) go h on = after_traced t (go s) h (on s)
  then_traced (Ends t s way.Break) go h on = h
  then_traced (Ends t s way.Continue) go h on = h
  then_traced (Ends t s (way.Return v)) go h on = h
  then_traced Undefined go h on = tt
  then_traced OverBound go h on = tt

  turn_traced : (o : Outcome) (go : Store → Outcome) → Traced o → ((s : Store) → Traced (go s)) → Traced (turn_do o go)
  turn_traced (Ends t s way.Next) go h on = after_traced t (go s) h (on s)
  turn_traced (Ends t s way.Break) go h on = h
  turn_traced (Ends t s way.Continue) go h on = after_traced t (go s) h (on s)
  turn_traced (Ends t s (way.Return v)) go h on = h
  turn_traced Undefined go h on = tt
  turn_traced OverBound go h on = tt

  -- ---- loops

  while_traced : (n : ℕ) (c : BlockName) (e : Expr) (body step : Store → Outcome) → IsBlockOf fs c → ((s : Store) → Traced (body s)) → ((s : Store) → Traced (step s)) → (s : Store) → Traced (while_turns n c e body step s)
  while_traced zero c e body step hc hb hs s =
      let go = λ (v : Value). if is_nonzero v then OverBound else Ends [] s way.Next in
      after_traced (c ∷ []) (with_value (val e s) go) (hc, tt) (value_traced (val e s) go (λ v. choice_traced (is_nonzero v) OverBound (Ends [] s way.Next) tt tt))
  while_traced (suc n) c e body step hc hb hs s =
      let again = λ (s' : Store). then_do (step s') (while_turns n c e body step) in
      let go = λ (v : Value). if is_nonzero v then turn_do (body s) again else Ends [] s way.Next in
      after_traced (c ∷ []) (with_value (val e s) go) (hc, tt) (value_traced (val e s) go (λ v. choice_traced (is_nonzero v) (turn_do (body s) again) (Ends [] s way.Next) (turn_traced (body s) again (hb s) (λ s'. then_traced (step s') (while_turns n c e body step) (hs s') (while_traced n c e body step hc hb hs))) tt))

  do_traced : (n : ℕ) (c : BlockName) (e : Expr) (body : Store → Outcome) → IsBlockOf fs c → ((s : Store) → Traced (body s)) → (s : Store) → Traced (do_turns n c e body s)
  do_traced zero c e body hc hb s = tt
  do_traced (suc n) c e body hc hb s =
      let test = λ (s' : Store) (v : Value). if is_nonzero v then do_turns n c e body s' else Ends [] s' way.Next in
      let again = λ (s' : Store). after (c ∷ []) (with_value (val e s') (test s')) in
      turn_traced (body s) again (hb s) (λ s'. after_traced (c ∷ []) (with_value (val e s') (test s')) (hc, tt) (value_traced (val e s') (test s') (λ v. choice_traced (is_nonzero v) (do_turns n c e body s') (Ends [] s' way.Next) (do_traced n c e body hc hb s') tt)))

  -- ---- calls

  abbrev BackTraced : Back → Type 0
  BackTraced (Gives t gs v) = AreBlocksOf fs t
  BackTraced CallUndefined = Traced Undefined
  BackTraced CallOverBound = Traced OverBound

  give_traced : (t : Target) (v : Option Value) (s : Store) → Traced (give t v s)
  give_traced Nothing v s = tt
  give_traced (Into x) None s = tt
  give_traced (Into x) (Some v) s = tt
  give_traced (Declare l) None s = tt
  give_traced (Declare l) (Some v) s = tt

  back_traced : (t : Target) (s : Store) (b : Back) → BackTraced b → Traced (come_back t s b)
  back_traced t s (Gives u gs v) h =
      after_traced u (give t v (record { locals = s.locals; globals = gs })) h (give_traced t v (record { locals = s.locals; globals = gs }))
  back_traced t s CallUndefined h = h
  back_traced t s CallOverBound h = h

  abbrev CalleeTraced : Callee → Type 0
  CalleeTraced c = (vs : List Value) (gs : List Slot) → BackTraced (c vs gs)

  abbrev AllTraced : List Callee → Type 0
  AllTraced [] = Unit {0}
  AllTraced (c ∷ cs) = CalleeTraced c × AllTraced cs

  call_traced : (cs : List Callee) → AllTraced cs → (g : ℕ) (t : Target) (o : Option (List Value)) (s : Store) → Traced (call (slice_get cs g) t o s)
  call_traced [] h g t o s = tt
  call_traced (c ∷ cs) h zero t None s = tt
  call_traced (c ∷ cs) h zero t (Some vs) s = back_traced t s (c vs s.globals) (h.0 vs s.globals)
  call_traced (c ∷ cs) h (suc g) t o s = call_traced cs h.1 g t o s

  return_traced : (e : Option Expr) (s : Store) → Traced (return_value e s)
  return_traced None s = tt
  return_traced (Some e) s =
      value_traced (val e s) (λ v. Ends [] s (way.Return (Some v))) (λ v. tt)

-- ---- statements of the function f, which has m blocks

module _ (fs : List Func) (cs : List Callee) (all : AllTraced fs cs) (f m : ℕ) (mine : (k : ℕ) → k < m → IsBlockOf fs (record { func = f; number = k })) where
  entered_blocks : (n : ℕ) (run : Bool) → n + begun_blocks run ≤ m → AreBlocksOf fs (entered_block f n run)
  entered_blocks n true h = tt
  entered_blocks n false h = (mine n (omega (arith, h)), tt)

  simple_traced : (n : ℕ) (run : Bool) (o : Option Store) → n + begun_blocks run ≤ m → Traced fs (after (entered_block f n run) (store_outcome o))
  simple_traced n run o h = after_traced fs (entered_block f n run) (store_outcome o) (entered_blocks n run h) (stored_traced fs o)

  one_block : (n : ℕ) → n + 1 ≤ m → AreBlocksOf fs (record { func = f; number = n } ∷ [])
  one_block n h = (mine n (omega (arith, h)), tt)

  mutual
    unfolding exec row_exec held_exec blocks row_blocks held_blocks

    stmt_traced : (st : Stmt) (n : ℕ) (run : Bool) (s : Store) → n + blocks st run ≤ m → Traced fs (exec cs f st n run s)
    stmt_traced Empty n run s h = simple_traced n run (simple Empty s) h
    stmt_traced (Scalar l e) n run s h = simple_traced n run (simple (Scalar l e) s) h
    stmt_traced (Array l es) n run s h = simple_traced n run (simple (Array l es) s) h
    stmt_traced (Assign p op e) n run s h = simple_traced n run (simple (Assign p op e) s) h
    stmt_traced (Call t g es) n run s h =
        let s' = unset_target t s in
        after_traced fs (record { func = f; number = n } ∷ []) (call (slice_get cs g) t (all_values es s') s') (one_block n h) (call_traced fs cs all g t (all_values es s') s')
    stmt_traced Break n run s h = one_block n h
    stmt_traced Continue n run s h = one_block n h
    stmt_traced (Return e) n run s h =
        after_traced fs (record { func = f; number = n } ∷ []) (return_value e s) (one_block n h) (return_traced fs e s)
    stmt_traced (If' e a x b y) n run s h =
        let go = λ (v : Value). if is_nonzero v then row_exec cs f x (n + 1) false s else row_exec cs f y (n + 1 + row_blocks x false) false s in
        after_traced fs (record { func = f; number = n } ∷ []) (with_value (val e s) go) (one_block n (omega (arith, h))) (value_traced fs (val e s) go (λ v. choice_traced fs (is_nonzero v) (row_exec cs f x (n + 1) false s) (row_exec cs f y (n + 1 + row_blocks x false) false s) (row_traced x (n + 1) false s (omega (arith, h))) (row_traced y (n + 1 + row_blocks x false) false s (omega (arith, h)))))
    stmt_traced (While' k e a x) n run s h =
        while_traced fs k (record { func = f; number = n }) e (row_exec cs f x (n + 1) false) (λ s'. Ends [] s' way.Next) (mine n (omega (arith, h))) (λ s'. row_traced x (n + 1) false s' (omega (arith, h))) (λ s'. tt) s
    stmt_traced (Do' k a x e) n run s h =
        do_traced fs k (record { func = f; number = n + row_blocks x false }) e (row_exec cs f x n false) (mine (n + row_blocks x false) (omega (arith, h))) (λ s'. row_traced x n false s' (omega (arith, h))) s
    stmt_traced (For' k i e j a x) n run s h =
        let at = n + held_blocks i in
        let turns = while_turns k (record { func = f; number = at }) e (row_exec cs f x (at + 1 + held_blocks j) false) (held_exec cs f j (at + 1)) in
        then_traced fs (held_exec cs f i n s) turns (held_traced i n s (omega (arith, h))) (while_traced fs k (record { func = f; number = at }) e (row_exec cs f x (at + 1 + held_blocks j) false) (held_exec cs f j (at + 1)) (mine at (omega (arith, h))) (λ s'. row_traced x (at + 1 + held_blocks j) false s' (omega (arith, h))) (λ s'. held_traced j (at + 1) s' (omega (arith, h))))
    stmt_traced (Group' a x) n run s h = row_traced x n false s h

    row_traced : {k : _} (x : Row_of-Stmt k) (n : ℕ) (run : Bool) (s : Store) → n + row_blocks x run ≤ m → Traced fs (row_exec cs f x n run s)
    row_traced end_of-Stmt n run s h = tt
    row_traced (more_of-Stmt st rest) n run s h =
        then_traced fs (exec cs f st n run s) (row_exec cs f rest (n + blocks st run) (is_simple st)) (stmt_traced st n run s (omega (arith, h))) (λ s'. row_traced rest (n + blocks st run) (is_simple st) s' (omega (arith, h)))

    held_traced : (x : Held-Stmt-For-1) (n : ℕ) (s : Store) → n + held_blocks x ≤ m → Traced fs (held_exec cs f x n s)
    held_traced None' n s h = tt
    held_traced (Some' a x) n s h = row_traced x n false s h

  list_traced : (xs : List Stmt) (n : ℕ) (run : Bool) (s : Store) → n + list_blocks xs run ≤ m → Traced fs (list_exec cs f xs n run s)
  list_traced [] n run s h = tt
  list_traced (st ∷ rest) n run s h =
      then_traced fs (exec cs f st n run s) (list_exec cs f rest (n + blocks st run) (is_simple st)) (stmt_traced st n run s (omega (arith, h))) (λ s'. list_traced rest (n + blocks st run) (is_simple st) s' (omega (arith, h)))

-- ---- functions

outcome_traced : (fs : List Func) (r : Option Ty) (o : Outcome) → Traced fs o → BackTraced fs (back r o)
outcome_traced fs r (Ends t s way.Next) h = h
outcome_traced fs r (Ends t s way.Break) h = h
outcome_traced fs r (Ends t s way.Continue) h = h
outcome_traced fs r (Ends t s (way.Return v)) h = h
outcome_traced fs r Undefined h = tt
outcome_traced fs r OverBound h = tt

callee_traced : (fs : List Func) (cs : List Callee) → AllTraced fs cs → (k : ℕ) (f : Func) → slice_get fs k ≡ Some f → CalleeTraced fs (callee k f cs)
callee_traced fs cs all k f e vs gs =
    let s : Store = record { locals = entry_slots f.locals vs; globals = gs } in
    let m = block_count (slice_get fs k) in
    let same : m ≡ list_blocks f.body false = ap block_count e in
    outcome_traced fs f.result (list_exec cs k f.body 0 false s) (list_traced fs cs all k m (λ j h. h) f.body 0 false s (omega (arith, same)))

more_traced : (fs : List Func) (cs : List Callee) (c : Callee) → AllTraced fs cs → CalleeTraced fs c → AllTraced fs (cs ++ c ∷ [])
more_traced fs [] c h is = (is, tt)
more_traced fs (d ∷ cs) c h is = (h.0, more_traced fs cs c h.1 is)

get_seam : (xs ys : List Func) (f : Func) → slice_get (xs ++ f ∷ ys) (length xs) ≡ Some f
get_seam [] ys f = refl
get_seam (x ∷ xs) ys f = get_seam xs ys f

callees_traced : (fs above rest : List Func) (cs : List Callee) → above ++ rest ≡ fs → length cs ≡ length above → AllTraced fs cs → AllTraced fs (callees cs rest)
callees_traced fs above [] cs e len all = all
callees_traced fs above (f ∷ rest) cs e len all =
    let at : slice_get fs (length cs) ≡ Some f = ap (slice_get fs) len ∙ subst (λ gs. slice_get gs (length above) ≡ Some f) e (get_seam above rest f) in
    let c = callee (length cs) f cs in
    let longer : length (cs ++ c ∷ []) ≡ length (above ++ f ∷ []) = omega (arith, len, length-append cs (c ∷ []), length-append above (f ∷ [])) in
    callees_traced fs (above ++ f ∷ []) rest (cs ++ c ∷ []) (append_assoc above (f ∷ []) rest ∙ e) longer (more_traced fs cs c all (callee_traced fs cs all (length cs) f at))

-- ---- runs

abbrev RunTraced : List Func → Run → Type 0
RunTraced fs (Ended t) = AreBlocksOf fs t
RunTraced fs IsUndefined = Unit {0}
RunTraced fs IsOverBound = Unit {0}

back_run : (fs : List Func) (b : Back) → BackTraced fs b → RunTraced fs (run_of b)
back_run fs (Gives t gs v) h = h
back_run fs CallUndefined h = tt
back_run fs CallOverBound h = tt

started_traced : (fs : List Func) (cs : List Callee) → AllTraced fs cs → (g : ℕ) (vs : List Value) (gs : List Slot) → RunTraced fs (entry_run (slice_get cs g) vs gs)
started_traced fs [] h g vs gs = tt
started_traced fs (c ∷ cs) h zero vs gs = back_run fs (c vs gs) (h.0 vs gs)
started_traced fs (c ∷ cs) h (suc g) vs gs = started_traced fs cs h.1 g vs gs

pub run_traced : (p : Program) (i : Input) (u : List BlockName) → run p i ≡ Ended u → AreBlocksOf p.funcs u
run_traced p i u e =
    subst (RunTraced p.funcs) e (started_traced p.funcs (callees [] p.funcs) (callees_traced p.funcs [] p.funcs [] refl refl tt) p.entry _ _)
