-- One step of the machine: a block is entered, or one more waits.
use Rattle.std.proofs.Common.{◌≡◌, ℕ, zero, suc, ◌+◌, ◌*◌, ◌%◌, ◌^◌, ◌<◌, ◌≤◌, Bool, true, false, List, [], ◌∷◌, ◌++◌, Option, refl, sym, ap, ◌∙◌, arith, append-nil}
use Rattle.c_tree.specs.declared.tree.Ty.{Ty}
use Rattle.std.specs.Prelude.{option_copied}
use Rattle.c_tree.specs.declared.tree.Expr.{Expr}
use Rattle.c_tree.specs.declared.tree.Stmt.{Stmt}
use Rattle.c_tree.specs.declared.tree.Target.{Target}
use Rattle.c_tree.specs.declared.tree.Stmt.TheVariants.{Empty, Scalar, Array, Assign, Call, Break, Continue, Return, If', While', Do', For', Group'}
use Rattle.c_tree.specs.declared.program.Func.{Func}
use Rattle.c_tree.specs.declared.value.Slot.{Slot}
use Rattle.c_tree.specs.declared.value.Store.{Store}
use Rattle.c_tree.specs.declared.value.Way.{Way}
use Rattle.c_tree.specs.declared.value.Way.TheVariants as way
use Rattle.c_tree.specs.Meaning.Blocks.{list_blocks, is_simple}
use Rattle.c_tree.specs.Meaning.Statements.{Callee, Back, Gives, CallUndefined, CallOverBound, Outcome, Ends, Undefined, OverBound, after, then_do, turn_do, block, while_turns, entered_block, store_outcome, simple, come_back, list_exec, exec, held_stmts}
use Rattle.c_tree.specs.Meaning.Runs.{back}
use Rattle.c_tree.specs.Meaning.Claims.{block_cost}
use Rattle.c_ways.specs.declared.loops.Loop.{Loop}
use Rattle.c_run.specs.declared.machine.Task.{Task}
use Rattle.c_run.specs.declared.machine.Pending.{Pending}
use Rattle.c_run.specs.declared.machine.Machine.{Machine}
use Rattle.c_run.specs.declared.machine.Given.{Given}
use Rattle.c_ways.specs.Ways.{has_next_turn, way_past_loop, way_result}
use Rattle.c_run.specs.Machine.{Waits, limited_turns, loop_turns, task_outcome, pending_outcome, task_behind, machine_end, ends_as, remains}
use Rattle.c_run.specs.Work.{list_work, while_work, do_work, turn_work, task_work, pending_work, waiting_work, machine_work, work_left}
use Rattle.c_run.proofs.Remains.{state_entered, state_pushed}
use Rattle.c_tree.proofs.Outcomes.{after_nothing}

-- ---- a block is entered

pub entered_as : (g : Given) (m : Machine) (c at : ℕ) (o : Outcome) → c ≡ (m.cost + block_cost g.costs.now (block m.func at)) % 2 ^ 128 → machine_end g.costs.now g.program.now.funcs c m.pending.items o ≡ ends_as g m (after (block m.func at ∷ []) o)
entered_as g m c at o e =
    state_entered g.costs.now g.program.now.funcs m.cost c (block m.func at) m.pending.items o e

pub run_entered : (g : Given) (m : Machine) (c at : ℕ) (run : Bool) (o : Outcome) → (run ≡ true → c ≡ m.cost) → (run ≡ false → c ≡ (m.cost + block_cost g.costs.now (block m.func at)) % 2 ^ 128) → machine_end g.costs.now g.program.now.funcs c m.pending.items o ≡ ends_as g m (after (entered_block m.func at run) o)
run_entered g m c at true o on begun =
    ap (λ c. machine_end g.costs.now g.program.now.funcs c m.pending.items o) (on refl) ∙ ap (ends_as g m) (sym (after_nothing o))
run_entered g m c at false o on begun = entered_as g m c at o (begun refl)

-- ---- one more waits

pub pushed_as : (g : Given) (m m' : Machine) (p : Pending) (o : Outcome) → Waits m m' p → ends_as g m' o ≡ ends_as g m (pending_outcome g.program.now.funcs p o)
pushed_as g m m' p o w =
    let t = g.costs.now in
    let fs = g.program.now.funcs in
    ap (λ c. machine_end t fs c m'.pending.items o) w.cost ∙ state_pushed t fs m.cost m.pending.items m'.pending.items p o w.pending

pub pushed : (g : Given) (m m' : Machine) (p : Pending) (t : Task) → Waits m m' p → remains g m' t ≡ ends_as g m (pending_outcome g.program.now.funcs p (task_outcome g.program.now.funcs m.func t m.memory))
pushed g m m' p t w =
    let fs = g.program.now.funcs in
    ap (λ f. ends_as g m' (task_outcome fs f t m'.memory)) w.func ∙ ap (λ s. ends_as g m' (task_outcome fs m.func t s)) w.memory ∙ pushed_as g m m' p (task_outcome fs m.func t m.memory) w

pub waiting_more : (fs : List Func) (ps : List Pending) (p : Pending) → waiting_work fs (ps ++ p ∷ []) ≡ waiting_work fs ps + pending_work fs p
unfolding waiting_work
waiting_more fs [] p = omega arith
waiting_more fs (q ∷ ps) p = omega (arith, waiting_more fs ps p)

pub pushed_waiting : (g : Given) (m m' : Machine) (p : Pending) → Waits m m' p → machine_work g m' ≡ machine_work g m + pending_work g.program.now.funcs p
pushed_waiting g m m' p w =
    let fs = g.program.now.funcs in
    ap (waiting_work fs) w.pending ∙ waiting_more fs m.pending.items p

pub pushed_left : (g : Given) (m m' : Machine) (p : Pending) (t : Task) → Waits m m' p → work_left g m' t ≡ task_work g.program.now.funcs m.func t + (machine_work g m + pending_work g.program.now.funcs p)
pushed_left g m m' p t w =
    let fs = g.program.now.funcs in
    ap (λ f. task_work fs f t + machine_work g m') w.func ∙ ap (λ n. task_work fs m.func t + n) (pushed_waiting g m m' p w)

-- ---- sums

pub while_less : (b s w k n : ℕ) → suc n ≡ k → b + (w + (2 + s + while_work n b s)) < while_work k b s + w
while_less b s w zero n e = absurd cc
while_less b s w (suc k) n e = omega (arith, ap (λ n. n * (3 + b + s)) (same n k e))
  where
    same : (n k : ℕ) → suc n ≡ suc k → n ≡ k
    same n k e = omega (arith, e)

pub do_less : (b w k n : ℕ) → suc n ≡ k → b + (w + (1 + do_work n b)) < do_work k b + w
do_less b w zero n e = absurd cc
do_less b w (suc k) n e = omega (arith, ap (λ n. n * (2 + b)) (same n k e))
  where
    same : (n k : ℕ) → suc n ≡ suc k → n ≡ k
    same n k e = omega (arith, e)

-- ---- ways

pub then_onward : (fs : List Func) (f : ℕ) (w : Way) (t : Task) (s : Store) → then_do (Ends [] s w) (task_outcome fs f t) ≡ task_outcome fs f (task_behind w t) s
unfolding task_outcome
then_onward fs f way.Next t s = after_nothing (task_outcome fs f t s)
then_onward fs f way.Break t s = refl
then_onward fs f way.Continue t s = refl
then_onward fs f (way.Return v) t s = refl

pub turn_on : (w : Way) (s : Store) (go : Store → Outcome) → has_next_turn w ≡ true → turn_do (Ends [] s w) go ≡ go s
turn_on way.Next s go e = after_nothing (go s)
turn_on way.Continue s go e = after_nothing (go s)
turn_on way.Break s go e = absurd cc
turn_on (way.Return v) s go e = absurd cc

pub turn_past : (w : Way) (s : Store) (go : Store → Outcome) → has_next_turn w ≡ false → turn_do (Ends [] s w) go ≡ Ends [] s (way_past_loop w)
turn_past way.Next s go e = absurd cc
turn_past way.Continue s go e = absurd cc
turn_past way.Break s go e = refl
turn_past (way.Return v) s go e = refl

pub then_nothing : (o : Outcome) → then_do o (λ s. Ends [] s way.Next) ≡ o
then_nothing (Ends t s way.Next) = ap (λ t. Ends t s way.Next) (append-nil t)
then_nothing (Ends t s way.Break) = refl
then_nothing (Ends t s way.Continue) = refl
then_nothing (Ends t s (way.Return v)) = refl
then_nothing Undefined = refl
then_nothing OverBound = refl

pub come_back_is : (t : Target) (r : Option Ty) (ls : List Slot) (s : Store) (w : Way) → come_back t (record { locals = ls; globals = [] }) (back r (Ends [] s w)) ≡ come_back t (record { locals = ls; globals = s.globals }) (Gives [] s.globals (way_result r w))
come_back_is t r ls s way.Next = refl
come_back_is t r ls s way.Break = refl
come_back_is t r ls s way.Continue = refl
come_back_is t r ls s (way.Return v) = refl

pub come_from : (t : Target) (s : Store) (b : Back) → come_back t (record { locals = s.locals; globals = [] }) b ≡ come_back t s b
come_from t s (Gives u gs v) = refl
come_from t s CallUndefined = refl
come_from t s CallOverBound = refl

-- ---- statements

pub exec_plain : (cs : List Callee) (f : ℕ) (st : Stmt) (n : ℕ) (run : Bool) (s : Store) → is_simple st ≡ true → after (entered_block f n run) (store_outcome (simple st s)) ≡ exec cs f st n run s
unfolding exec
exec_plain cs f Empty n run s e = refl
exec_plain cs f (Scalar l e) n run s h = refl
exec_plain cs f (Array l es) n run s h = refl
exec_plain cs f (Assign p op e) n run s h = refl
exec_plain cs f (Call t g es) n run s h = absurd cc
exec_plain cs f Break n run s h = absurd cc
exec_plain cs f Continue n run s h = absurd cc
exec_plain cs f (Return e) n run s h = absurd cc
exec_plain cs f (If' e a x b y) n run s h = absurd cc
exec_plain cs f (While' k e a x) n run s h = absurd cc
exec_plain cs f (Do' k a x e) n run s h = absurd cc
exec_plain cs f (For' k i e j a x) n run s h = absurd cc
exec_plain cs f (Group' a x) n run s h = absurd cc

pub onward_work : (fs : List Func) (f : ℕ) (w : Way) (t : Task) → task_work fs f (task_behind w t) ≤ task_work fs f t
unfolding task_work
onward_work fs f way.Next t = omega arith
onward_work fs f way.Break t = omega arith
onward_work fs f way.Continue t = omega arith
onward_work fs f (way.Return v) t = omega arith

-- ---- a `for`

pub for_turns : (cs : List Callee) (f : ℕ) (l : Loop) (k n : ℕ) (e : Expr) (xs : List Stmt) (j : Option Stmt) → l.left ≡ k → l.condition.now ≡ e → l.body.now ≡ xs → l.at ≡ n → l.body_at ≡ n + 1 + list_blocks (held_stmts j) false → option_copied l.step ≡ j → loop_turns cs f l ≡ while_turns k (block f n) e (list_exec cs f xs (n + 1 + list_blocks (held_stmts j) false) false) (list_exec cs f (held_stmts j) (n + 1) false)
unfolding limited_turns
for_turns cs f l k n e xs j work_left condition body at body_at step =
    λ i. while_turns (work_left i) (block f (at i)) (condition i) (list_exec cs f (body i) (body_at i) false) (list_exec cs f (held_stmts (step i)) (at i + 1) false)

pub for_work : (ws : List ℕ) (l : Loop) (k : ℕ) (xs : List Stmt) (j : Option Stmt) → l.left ≡ k → l.body.now ≡ xs → option_copied l.step ≡ j → turn_work ws l l.left ≡ while_work k (list_work ws xs) (list_work ws (held_stmts j))
unfolding turn_work
for_work ws l k xs j work_left body step = λ i. while_work (work_left i) (list_work ws (body i)) (list_work ws (held_stmts (step i)))
