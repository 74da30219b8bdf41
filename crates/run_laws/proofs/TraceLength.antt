-- The trace of a statement is at most as long as its span, and that of a run as the span of its function.
use Rattle.std.proofs.Common.{◌≡◌, ◌≤◌, ℕ, zero, suc, ◌+◌, ◌*◌, Bool, true, false, if◌then◌else◌, List, [], ◌∷◌, ◌++◌, length, Option, Some, None, subst, sym, ap, ◌∙◌, arith, length-append}
use Rattle.std.specs.Prelude.{slice_get}
use Rattle.c_tree.specs.declared.tree.Ty.{Ty}
use Rattle.c_tree.specs.declared.tree.Expr.{Expr}
use Rattle.c_tree.specs.declared.tree.Target.{Target}
use Rattle.c_tree.specs.declared.tree.Target.TheVariants.{Nothing, Assign as Into, Declare}
use Rattle.c_tree.specs.declared.tree.Stmt.{Stmt, Row_of-Stmt, end_of-Stmt, more_of-Stmt, Held-Stmt-For-1, None', Some'}
use Rattle.c_tree.specs.declared.tree.Stmt.TheVariants.{Empty, Scalar, Array, Assign, Call, Break, Continue, Return, If', While', Do', For', Group'}
use Rattle.c_tree.specs.declared.program.BlockName.{BlockName}
use Rattle.c_tree.specs.declared.program.Func.{Func}
use Rattle.c_tree.specs.declared.program.Program.{Program}
use Rattle.c_tree.specs.declared.program.Input.{Input}
use Rattle.c_tree.specs.declared.value.Value.{Value}
use Rattle.c_tree.specs.declared.value.Slot.{Slot}
use Rattle.c_tree.specs.declared.value.Store.{Store}
use Rattle.c_tree.specs.declared.value.Way.TheVariants as way
use Rattle.c_tree.specs.Meaning.Values.{is_nonzero}
use Rattle.c_tree.specs.Meaning.Expressions.{val, all_values}
use Rattle.c_tree.specs.Meaning.Blocks.{is_simple, blocks, row_blocks, held_blocks}
use Rattle.c_tree.specs.Meaning.Statements.{Callee, Back, Gives, CallUndefined, CallOverBound, Outcome, Ends, Undefined, OverBound, with_value, store_outcome, after, then_do, turn_do, block, entered_block, simple, while_turns, do_turns, unset_target, give, come_back, call, return_value, exec, row_exec, held_exec, list_exec}
use Rattle.c_tree.specs.Meaning.Runs.{entry_slots, back, callee, callees, Run, Ended, IsUndefined, IsOverBound, run_of, entry_run, run}
use Rattle.c_tree.specs.Meaning.Spans.{begun_span, span_at, span, row_span, held_span, list_span, func_span, spans}

-- ---- a span is its scale times that of the scale 1

begun_times : (k : ℕ) (run : Bool) → begun_span k run ≡ k * begun_span 1 run
begun_times k true = omega arith
begun_times k false = omega arith

call_times : (k n : ℕ) → k + k * n ≡ k * (1 + 1 * n)
call_times k n = omega arith

one_times : (k : ℕ) → k ≡ k * 1
one_times k = omega arith

zero_times : (k : ℕ) → 0 ≡ k * 0
zero_times k = omega arith

sum_times : (k p q r s : ℕ) → p ≡ k * r → q ≡ k * s → p + q ≡ k * (r + s)
sum_times k p q r s e d = omega (arith, e, d)

if_times : (k p q r s : ℕ) → p ≡ k * r → q ≡ k * s → k + p + q ≡ k * (1 + r + s)
if_times k p q r s e d = omega (arith, e, d)

while_times : (k b p q : ℕ) → p ≡ (k * b) * q → k * (b + 1) + p ≡ k * (1 * (b + 1) + (1 * b) * q)
while_times k b p q e = omega (arith, e)

do_times : (k b p q : ℕ) → p ≡ (k * b) * q → p + k * b ≡ k * ((1 * b) * q + 1 * b)
do_times k b p q e = omega (arith, e)

for_times : (k b i p q r s : ℕ) → p ≡ (k * b) * q → r ≡ (k * b) * s → k * i + k * (b + 1) + p + r ≡ k * (i + 1 * (b + 1) + (1 * b) * q + (1 * b) * s)
for_times k b i p q r s e d = omega (arith, e, d)

for_back : (k b i q s p r : ℕ) → p ≡ (1 * b) * q → r ≡ (1 * b) * s → k * (i + 1 * (b + 1) + (1 * b) * q + (1 * b) * s) ≡ k * (i + 1 * (b + 1) + p + r)
for_back k b i q s p r e d = ap (λ p. k * (i + 1 * (b + 1) + p + (1 * b) * s)) (sym e) ∙ ap (λ r. k * (i + 1 * (b + 1) + p + r)) (sym d)

mutual
  unfolding span row_span held_span

  span_times : (ss : List ℕ) (k : ℕ) (st : Stmt) (run : Bool) → span ss k st run ≡ k * span ss 1 st run
  span_times ss k Empty run = begun_times k run
  span_times ss k (Scalar l e) run = begun_times k run
  span_times ss k (Array l es) run = begun_times k run
  span_times ss k (Assign p op e) run = begun_times k run
  span_times ss k (Call t g es) run = call_times k (span_at ss g)
  span_times ss k Break run = one_times k
  span_times ss k Continue run = one_times k
  span_times ss k (Return e) run = one_times k
  span_times ss k (If' e a x c y) run = if_times k (row_span ss k x false) (row_span ss k y false) (row_span ss 1 x false) (row_span ss 1 y false) (row_times ss k x false) (row_times ss k y false)
  span_times ss k (While' b e a x) run =
      while_times k b (row_span ss (k * b) x false) (row_span ss 1 x false) (row_times ss (k * b) x false) ∙ ap (λ n. k * (1 * (b + 1) + n)) (sym (row_times ss (1 * b) x false))
  span_times ss k (Do' b a x e) run =
      do_times k b (row_span ss (k * b) x false) (row_span ss 1 x false) (row_times ss (k * b) x false) ∙ ap (λ n. k * (n + 1 * b)) (sym (row_times ss (1 * b) x false))
  span_times ss k (For' b i e j a x) run =
      ap (λ n. n + k * (b + 1) + held_span ss (k * b) j + row_span ss (k * b) x false) (held_times ss k i) ∙ for_times k b (held_span ss 1 i) (held_span ss (k * b) j) (held_span ss 1 j) (row_span ss (k * b) x false) (row_span ss 1 x false) (held_times ss (k * b) j) (row_times ss (k * b) x false) ∙ for_back k b (held_span ss 1 i) (held_span ss 1 j) (row_span ss 1 x false) (held_span ss (1 * b) j) (row_span ss (1 * b) x false) (held_times ss (1 * b) j) (row_times ss (1 * b) x false)
  span_times ss k (Group' a x) run = row_times ss k x false

  row_times : {m : _} (ss : List ℕ) (k : ℕ) (x : Row_of-Stmt m) (run : Bool) → row_span ss k x run ≡ k * row_span ss 1 x run
  row_times ss k end_of-Stmt run = zero_times k
  row_times ss k (more_of-Stmt s rest) run = sum_times k (span ss k s run) (row_span ss k rest (is_simple s)) (span ss 1 s run) (row_span ss 1 rest (is_simple s)) (span_times ss k s run) (row_times ss k rest (is_simple s))

  held_times : (ss : List ℕ) (k : ℕ) (x : Held-Stmt-For-1) → held_span ss k x ≡ k * held_span ss 1 x
  held_times ss k None' = zero_times k
  held_times ss k (Some' a x) = row_times ss k x false

-- ---- combinators

abbrev Within : ℕ → Outcome → Type 0
Within n (Ends t s w) = length t ≤ n
Within n Undefined = Unit {0}
Within n OverBound = Unit {0}

weaker : (a b : ℕ) (o : Outcome) → a ≤ b → Within a o → Within b o
weaker a b (Ends t s w) le h = omega (arith, le, h)
weaker a b Undefined le h = tt
weaker a b OverBound le h = tt

after_within : (a b : ℕ) (t : List BlockName) (o : Outcome) → length t ≤ a → Within b o → Within (a + b) (after t o)
after_within a b t (Ends u s w) ht ho = omega (arith, length-append t u, ht, ho)
after_within a b t Undefined ht ho = tt
after_within a b t OverBound ht ho = tt

value_within : (n : ℕ) (o : Option Value) (go : Value → Outcome) → ((v : Value) → Within n (go v)) → Within n (with_value o go)
value_within n None go h = tt
value_within n (Some v) go h = h v

choice_within : (n : ℕ) (b : Bool) (x y : Outcome) → Within n x → Within n y → Within n (if b then x else y)
choice_within n true x y hx hy = hx
choice_within n false x y hx hy = hy

then_within : (a b : ℕ) (o : Outcome) (go : Store → Outcome) → Within a o → ((s : Store) → Within b (go s)) → Within (a + b) (then_do o go)
then_within a b (Ends t s way.Next) go h on = after_within a b t (go s) h (on s)
then_within a b (Ends t s way.Break) go h on = omega (arith, h)
then_within a b (Ends t s way.Continue) go h on = omega (arith, h)
then_within a b (Ends t s (way.Return v)) go h on = omega (arith, h)
then_within a b Undefined go h on = tt
then_within a b OverBound go h on = tt

turn_within : (a b : ℕ) (o : Outcome) (go : Store → Outcome) → Within a o → ((s : Store) → Within b (go s)) → Within (a + b) (turn_do o go)
turn_within a b (Ends t s way.Next) go h on = after_within a b t (go s) h (on s)
turn_within a b (Ends t s way.Break) go h on = omega (arith, h)
turn_within a b (Ends t s way.Continue) go h on = after_within a b t (go s) h (on s)
turn_within a b (Ends t s (way.Return v)) go h on = omega (arith, h)
turn_within a b Undefined go h on = tt
turn_within a b OverBound go h on = tt

stored_within : (n : ℕ) (o : Option Store) → Within n (store_outcome o)
stored_within n None = tt
stored_within n (Some s) = omega arith

-- ---- loops

one_long : (c : BlockName) → length (c ∷ []) ≤ 1
one_long c = omega arith

while_within : (a b n : ℕ) (c : BlockName) (e : Expr) (body step : Store → Outcome) → ((s : Store) → Within a (body s)) → ((s : Store) → Within b (step s)) → (s : Store) → Within ((n + 1) + n * (a + b)) (while_turns n c e body step s)
while_within a b zero c e body step hb hs s =
    let go = λ (v : Value). if is_nonzero v then OverBound else Ends [] s way.Next in
    weaker (1 + 0) _ (after (c ∷ []) (with_value (val e s) go)) (omega arith) (after_within 1 0 (c ∷ []) (with_value (val e s) go) (one_long c) (value_within 0 (val e s) go (λ v. choice_within 0 (is_nonzero v) OverBound (Ends [] s way.Next) tt (omega arith))))
while_within a b (suc n) c e body step hb hs s =
    let rest = (n + 1) + n * (a + b) in
    let again = λ (s' : Store). then_do (step s') (while_turns n c e body step) in
    let go = λ (v : Value). if is_nonzero v then turn_do (body s) again else Ends [] s way.Next in
    let turn = turn_within a (b + rest) (body s) again (hb s) (λ s'. then_within b rest (step s') (while_turns n c e body step) (hs s') (while_within a b n c e body step hb hs)) in
    weaker (1 + (a + (b + rest))) _ (after (c ∷ []) (with_value (val e s) go)) (omega arith) (after_within 1 (a + (b + rest)) (c ∷ []) (with_value (val e s) go) (one_long c) (value_within (a + (b + rest)) (val e s) go (λ v. choice_within (a + (b + rest)) (is_nonzero v) (turn_do (body s) again) (Ends [] s way.Next) turn (omega arith))))

do_within : (a n : ℕ) (c : BlockName) (e : Expr) (body : Store → Outcome) → ((s : Store) → Within a (body s)) → (s : Store) → Within (n * a + n) (do_turns n c e body s)
do_within a zero c e body hb s = tt
do_within a (suc n) c e body hb s =
    let rest = n * a + n in
    let test = λ (s' : Store) (v : Value). if is_nonzero v then do_turns n c e body s' else Ends [] s' way.Next in
    let again = λ (s' : Store). after (c ∷ []) (with_value (val e s') (test s')) in
    weaker (a + (1 + rest)) _ (turn_do (body s) again) (omega arith) (turn_within a (1 + rest) (body s) again (hb s) (λ s'. after_within 1 rest (c ∷ []) (with_value (val e s') (test s')) (one_long c) (value_within rest (val e s') (test s') (λ v. choice_within rest (is_nonzero v) (do_turns n c e body s') (Ends [] s' way.Next) (do_within a n c e body hb s') (omega arith)))))

-- ---- calls

abbrev BackWithin : ℕ → Back → Type 0
BackWithin n (Gives t gs v) = length t ≤ n
BackWithin n CallUndefined = Within n Undefined
BackWithin n CallOverBound = Within n OverBound

abbrev CalleeWithin : ℕ → Callee → Type 0
CalleeWithin n c = (vs : List Value) (gs : List Slot) → BackWithin n (c vs gs)

abbrev AllWithin : List ℕ → List Callee → Type 0
AllWithin [] [] = Unit {0}
AllWithin [] (c ∷ cs) = ⊥
AllWithin (n ∷ ns) [] = ⊥
AllWithin (n ∷ ns) (c ∷ cs) = CalleeWithin n c × AllWithin ns cs

give_within : (t : Target) (v : Option Value) (s : Store) → Within 0 (give t v s)
give_within Nothing v s = omega arith
give_within (Into x) None s = tt
give_within (Into x) (Some v) s = omega arith
give_within (Declare l) None s = tt
give_within (Declare l) (Some v) s = omega arith

back_within : (n : ℕ) (t : Target) (s : Store) (b : Back) → BackWithin n b → Within n (come_back t s b)
back_within n t s (Gives u gs v) h =
    let s' : Store = record { locals = s.locals; globals = gs } in
    weaker (n + 0) n (after u (give t v s')) (omega arith) (after_within n 0 u (give t v s') h (give_within t v s'))
back_within n t s CallUndefined h = h
back_within n t s CallOverBound h = h

call_within : (ss : List ℕ) (cs : List Callee) → AllWithin ss cs → (g : ℕ) (t : Target) (o : Option (List Value)) (s : Store) → Within (span_at ss g) (call (slice_get cs g) t o s)
call_within [] [] h g t o s = tt
call_within [] (c ∷ cs) h g t o s = absurd h
call_within (n ∷ ns) [] h g t o s = absurd h
call_within (n ∷ ns) (c ∷ cs) h zero t None s = tt
call_within (n ∷ ns) (c ∷ cs) h zero t (Some vs) s = back_within n t s (c vs s.globals) (h.0 vs s.globals)
call_within (n ∷ ns) (c ∷ cs) h (suc g) t o s = call_within ns cs h.1 g t o s

return_within : (e : Option Expr) (s : Store) → Within 0 (return_value e s)
return_within None s = omega arith
return_within (Some e) s = value_within 0 (val e s) (λ v. Ends [] s (way.Return (Some v))) (λ v. omega arith)

-- ---- statements

entered_long : (f n : ℕ) (run : Bool) → length (entered_block f n run) ≤ begun_span 1 run
entered_long f n true = omega arith
entered_long f n false = omega arith

simple_within : (f n : ℕ) (run : Bool) (o : Option Store) → Within (begun_span 1 run) (after (entered_block f n run) (store_outcome o))
simple_within f n run o =
    weaker (begun_span 1 run + 0) (begun_span 1 run) (after (entered_block f n run) (store_outcome o)) (omega arith) (after_within (begun_span 1 run) 0 (entered_block f n run) (store_outcome o) (entered_long f n run) (stored_within 0 o))

while_sum : (k p q : ℕ) → q ≡ (1 * k) * p → (k + 1) + k * (p + 0) ≤ 1 * (k + 1) + q
while_sum k p q e = omega (arith, e)

do_sum : (k p q : ℕ) → q ≡ (1 * k) * p → k * p + k ≤ q + 1 * k
do_sum k p q e = omega (arith, e)

for_sum : (k i p q r s : ℕ) → r ≡ (1 * k) * q → s ≡ (1 * k) * p → i + ((k + 1) + k * (p + q)) ≤ i + 1 * (k + 1) + r + s
for_sum k i p q r s e d = omega (arith, e, d)

module _ (ss : List ℕ) (cs : List Callee) (all : AllWithin ss cs) (f : ℕ) where
  mutual
    unfolding exec row_exec held_exec span row_span held_span

    stmt_within : (st : Stmt) (n : ℕ) (run : Bool) (s : Store) → Within (span ss 1 st run) (exec cs f st n run s)
    stmt_within Empty n run s = simple_within f n run (simple Empty s)
    stmt_within (Scalar l e) n run s = simple_within f n run (simple (Scalar l e) s)
    stmt_within (Array l es) n run s = simple_within f n run (simple (Array l es) s)
    stmt_within (Assign p op e) n run s = simple_within f n run (simple (Assign p op e) s)
    stmt_within (Call t g es) n run s =
        let s' = unset_target t s in
        let o = call (slice_get cs g) t (all_values es s') s' in
        weaker (1 + span_at ss g) (1 + 1 * span_at ss g) (after (block f n ∷ []) o) (omega arith) (after_within 1 (span_at ss g) (block f n ∷ []) o (one_long (block f n)) (call_within ss cs all g t (all_values es s') s'))
    stmt_within Break n run s = omega arith
    stmt_within Continue n run s = omega arith
    stmt_within (Return e) n run s = after_within 1 0 (block f n ∷ []) (return_value e s) (one_long (block f n)) (return_within e s)
    stmt_within (If' e a x b y) n run s =
        let p = row_span ss 1 x false in
        let q = row_span ss 1 y false in
        let first = row_exec cs f x (n + 1) false s in
        let second = row_exec cs f y (n + 1 + row_blocks x false) false s in
        let go = λ (v : Value). if is_nonzero v then first else second in
        weaker (1 + (p + q)) (1 + p + q) (after (block f n ∷ []) (with_value (val e s) go)) (omega arith) (after_within 1 (p + q) (block f n ∷ []) (with_value (val e s) go) (one_long (block f n)) (value_within (p + q) (val e s) go (λ v. choice_within (p + q) (is_nonzero v) first second (weaker p (p + q) first (omega arith) (row_within x (n + 1) false s)) (weaker q (p + q) second (omega arith) (row_within y (n + 1 + row_blocks x false) false s)))))
    stmt_within (While' k e a x) n run s =
        let p = row_span ss 1 x false in
        let body = row_exec cs f x (n + 1) false in
        let step = λ (s' : Store). Ends [] s' way.Next in
        weaker ((k + 1) + k * (p + 0)) _ (while_turns k (block f n) e body step s) (while_sum k p (row_span ss (1 * k) x false) (row_times ss (1 * k) x false)) (while_within p 0 k (block f n) e body step (row_within x (n + 1) false) (λ s'. omega arith) s)
    stmt_within (Do' k a x e) n run s =
        let p = row_span ss 1 x false in
        let body = row_exec cs f x n false in
        let c = block f (n + row_blocks x false) in
        weaker (k * p + k) _ (do_turns k c e body s) (do_sum k p (row_span ss (1 * k) x false) (row_times ss (1 * k) x false)) (do_within p k c e body (row_within x n false) s)
    stmt_within (For' k i e j a x) n run s =
        let at = n + held_blocks i in
        let p = row_span ss 1 x false in
        let q = held_span ss 1 j in
        let first = held_span ss 1 i in
        let body = row_exec cs f x (at + 1 + held_blocks j) false in
        let step = held_exec cs f j (at + 1) in
        let go = while_turns k (block f at) e body step in
        weaker (first + ((k + 1) + k * (p + q))) _ (then_do (held_exec cs f i n s) go) (for_sum k first p q (held_span ss (1 * k) j) (row_span ss (1 * k) x false) (held_times ss (1 * k) j) (row_times ss (1 * k) x false)) (then_within first ((k + 1) + k * (p + q)) (held_exec cs f i n s) go (held_within i n s) (while_within p q k (block f at) e body step (row_within x (at + 1 + held_blocks j) false) (held_within j (at + 1))))
    stmt_within (Group' a x) n run s = row_within x n false s

    row_within : {m : _} (x : Row_of-Stmt m) (n : ℕ) (run : Bool) (s : Store) → Within (row_span ss 1 x run) (row_exec cs f x n run s)
    row_within end_of-Stmt n run s = omega arith
    row_within (more_of-Stmt st rest) n run s =
        then_within (span ss 1 st run) (row_span ss 1 rest (is_simple st)) (exec cs f st n run s) (row_exec cs f rest (n + blocks st run) (is_simple st)) (stmt_within st n run s) (row_within rest (n + blocks st run) (is_simple st))

    held_within : (x : Held-Stmt-For-1) (n : ℕ) (s : Store) → Within (held_span ss 1 x) (held_exec cs f x n s)
    held_within None' n s = omega arith
    held_within (Some' a x) n s = row_within x n false s

  list_within : (xs : List Stmt) (n : ℕ) (run : Bool) (s : Store) → Within (list_span ss 1 xs run) (list_exec cs f xs n run s)
  list_within [] n run s = omega arith
  list_within (st ∷ rest) n run s =
      then_within (span ss 1 st run) (list_span ss 1 rest (is_simple st)) (exec cs f st n run s) (list_exec cs f rest (n + blocks st run) (is_simple st)) (stmt_within st n run s) (list_within rest (n + blocks st run) (is_simple st))

-- ---- functions

outcome_within : (n : ℕ) (r : Option Ty) (o : Outcome) → Within n o → BackWithin n (back r o)
outcome_within n r (Ends t s way.Next) h = h
outcome_within n r (Ends t s way.Break) h = h
outcome_within n r (Ends t s way.Continue) h = h
outcome_within n r (Ends t s (way.Return v)) h = h
outcome_within n r Undefined h = tt
outcome_within n r OverBound h = tt

callee_within : (ss : List ℕ) (cs : List Callee) → AllWithin ss cs → (k : ℕ) (f : Func) → CalleeWithin (func_span ss f) (callee k f cs)
callee_within ss cs all k f vs gs =
    let s : Store = record { locals = entry_slots f.locals vs; globals = gs } in
    outcome_within (func_span ss f) f.result (list_exec cs k f.body 0 false s) (list_within ss cs all k f.body 0 false s)

more_within : (ss : List ℕ) (cs : List Callee) (n : ℕ) (c : Callee) → AllWithin ss cs → CalleeWithin n c → AllWithin (ss ++ n ∷ []) (cs ++ c ∷ [])
more_within [] [] n c h is = (is, tt)
more_within [] (d ∷ cs) n c h is = absurd h
more_within (m ∷ ss) [] n c h is = absurd h
more_within (m ∷ ss) (d ∷ cs) n c h is = (h.0, more_within ss cs n c h.1 is)

callees_within : (fs : List Func) (ss : List ℕ) (cs : List Callee) → AllWithin ss cs → AllWithin (spans ss fs) (callees cs fs)
callees_within [] ss cs all = all
callees_within (f ∷ fs) ss cs all =
    let c = callee (length cs) f cs in
    callees_within fs (ss ++ func_span ss f ∷ []) (cs ++ c ∷ []) (more_within ss cs (func_span ss f) c all (callee_within ss cs all (length cs) f))

-- ---- runs

abbrev RunWithin : ℕ → Run → Type 0
RunWithin n (Ended t) = length t ≤ n
RunWithin n IsUndefined = Unit {0}
RunWithin n IsOverBound = Unit {0}

back_run : (n : ℕ) (b : Back) → BackWithin n b → RunWithin n (run_of b)
back_run n (Gives t gs v) h = h
back_run n CallUndefined h = tt
back_run n CallOverBound h = tt

started_within : (ss : List ℕ) (cs : List Callee) → AllWithin ss cs → (g : ℕ) (vs : List Value) (gs : List Slot) → RunWithin (span_at ss g) (entry_run (slice_get cs g) vs gs)
started_within [] [] h g vs gs = tt
started_within [] (c ∷ cs) h g vs gs = absurd h
started_within (n ∷ ns) [] h g vs gs = absurd h
started_within (n ∷ ns) (c ∷ cs) h zero vs gs = back_run n (c vs gs) (h.0 vs gs)
started_within (n ∷ ns) (c ∷ cs) h (suc g) vs gs = started_within ns cs h.1 g vs gs

-- the trace of a run is at most as long as the entry function's span
pub run_within : (p : Program) (i : Input) (u : List BlockName) → run p i ≡ Ended u → length u ≤ span_at (spans [] p.funcs) p.entry
run_within p i u e =
    let n = span_at (spans [] p.funcs) p.entry in
    subst (RunWithin n) e (started_within (spans [] p.funcs) (callees [] p.funcs) (callees_within p.funcs [] [] tt) p.entry _ _)
