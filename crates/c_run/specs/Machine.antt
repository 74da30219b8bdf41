-- What is left of a run: what the task at work and the statements that wait for it come to.
use Rattle.std.specs.Prelude.{
  ◌≡◌,
  ℕ,
  zero,
  suc,
  ◌+◌,
  ◌%◌,
  ◌^◌,
  Bool,
  true,
  false,
  if◌then◌else◌,
  List,
  [],
  ◌∷◌,
  ◌++◌,
  take,
  slice_get,
}
use Rattle.std.specs.Option.{option_copied}
use Rattle.c_tree.specs.declared.tree.Stmt.{Stmt}
use Rattle.c_tree.specs.declared.program.Func.{Func}
use Rattle.c_tree.specs.declared.program.Costs.{Costs}
use Rattle.c_tree.specs.declared.value.Store.{Store}
use Rattle.c_tree.specs.declared.value.Way.{Way}
use Rattle.c_tree.specs.declared.value.Way.TheVariants as way
use Rattle.c_tree.specs.declared.value.Value.{Value}
use Rattle.c_tree.specs.declared.value.Slot.{Slot}
use Rattle.c_tree.specs.declared.tree.Expr.{Expr}
use Rattle.c_tree.specs.declared.tree.Target.{Target}
use Rattle.c_tree.specs.Meaning.Values.{is_nonzero}
use Rattle.c_tree.specs.Meaning.Expressions.{val, all_values}
use Rattle.c_tree.specs.Meaning.Blocks.{list_blocks}
use Rattle.c_tree.specs.Meaning.Statements as statements
use Rattle.c_tree.specs.Meaning.Statements.{
  Callee,
  Outcome,
  Ends,
  Undefined,
  OverBound,
  with_value,
  after,
  then_do,
  turn_do,
  block,
  while_turns,
  do_turns,
  come_back,
  unset_target,
  call,
  simple,
  store_outcome,
  exec,
  list_exec,
  held_stmts,
}
use Rattle.c_tree.specs.Meaning.Runs.{entry_slots, back, callee, callees}
use Rattle.c_tree.specs.Meaning.Claims.{trace_cost}
use Rattle.c_run.specs.declared.run_end.RunEnd.{RunEnd}
use Rattle.c_run.specs.declared.run_end.RunEnd.TheVariants as end
use Rattle.c_ways.specs.declared.loops.Loop.{Loop}
use Rattle.c_ways.specs.declared.loops.DoLoop.{DoLoop}
use Rattle.c_run.specs.declared.machine.Task.{Task}
use Rattle.c_run.specs.declared.machine.Task.TheVariants as task
use Rattle.c_run.specs.declared.machine.Pending.{Pending}
use Rattle.c_run.specs.declared.machine.Pending.TheVariants as pending
use Rattle.c_run.specs.declared.machine.Machine.{Machine}
use Rattle.c_run.specs.declared.machine.Given.{Given}

-- ---- ends, with the cost modulo 2^128

unfoldable pub costed_end : Costs → Outcome → RunEnd
costed_end t (Ends u s w) = end.Ends (trace_cost t u % 2 ^ 128)
costed_end t Undefined = end.Undefined
costed_end t OverBound = end.OverBound

unfoldable pub end_past_cost : ℕ → RunEnd → RunEnd
end_past_cost c (end.Ends d) = end.Ends ((c + d) % 2 ^ 128)
end_past_cost c end.Undefined = end.Undefined
end_past_cost c end.OverBound = end.OverBound

-- ---- tasks

-- the functions above the function f
abbrev pub over : List Func → ℕ → List Callee
over fs f = callees [] (take f fs)

-- the initialiser or step of a loop, as the list of it
abbrev pub step_of : Loop → List Stmt
step_of l = held_stmts (option_copied l.step)

-- from the condition on, where the body may be entered n more times
unfoldable pub limited_turns : List Callee → ℕ → Loop → ℕ → Store → Outcome
limited_turns cs f l n = while_turns n (block f l.at) l.condition.now (list_exec cs f l.body.now l.body_at false)
    (list_exec cs f (step_of l) (l.at + 1) false)

abbrev pub loop_turns : List Callee → ℕ → Loop → Store → Outcome
loop_turns cs f l = limited_turns cs f l l.left

-- from the body on
unfoldable pub body_turns : List Callee → ℕ → Loop → ℕ → Store → Outcome
body_turns cs f l zero s = OverBound
body_turns cs f l (suc n) s =
    turn_do (list_exec cs f l.body.now l.body_at false s)
    (λ s'. then_do (list_exec cs f (step_of l) (l.at + 1) false s') (limited_turns cs f l n))

unfoldable pub again_of : List Callee → ℕ → DoLoop → ℕ → Store → Outcome
again_of cs f l n = do_turns n (block f l.at) l.condition.now (list_exec cs f l.body.now l.body_at false)

abbrev pub again : List Callee → ℕ → DoLoop → Store → Outcome
again cs f l = again_of cs f l l.left

-- what a task comes to in the function f
unfoldable pub task_outcome : List Func → ℕ → Task → Store → Outcome
task_outcome fs f (task.List xs n run) s = list_exec (over fs f) f xs.now n run s
task_outcome fs f (task.One st n run) s = exec (over fs f) f st.now n run s
task_outcome fs f (task.Turn l) s = loop_turns (over fs f) f l s
task_outcome fs f (task.Again l) s = again (over fs f) f l s
task_outcome fs f (task.Ended w) s = Ends [] s w
task_outcome fs f task.Undefined s = Undefined
task_outcome fs f task.OverBound s = OverBound

-- ---- what waits

-- behind the body of a `do`, its condition
abbrev pub do_test : List Callee → ℕ → DoLoop → Store → Outcome
do_test cs f l s =
    after (block f l.at ∷ []) (with_value (val l.condition.now s) (λ v. if is_nonzero v then again cs f l s
    else Ends [] s way.Next))

-- what one that waits makes of what it waited for
unfoldable pub pending_outcome : List Func → Pending → Outcome → Outcome
pending_outcome fs (pending.Rest f xs n run) o = then_do o (list_exec (over fs f) f xs.now n run)
pending_outcome fs (pending.Turn f l) o = then_do o (loop_turns (over fs f) f l)
pending_outcome fs (pending.Step f l) o =
    turn_do o (λ s. then_do (list_exec (over fs f) f (step_of l) (l.at + 1) false s) (loop_turns (over fs f) f l))
pending_outcome fs (pending.DoTest f l) o = turn_do o (do_test (over fs f) f l)
pending_outcome fs (pending.Caller f target locals result) o =
    come_back target (record { locals = locals.items; globals = [] }) (back result o)

-- a task that waits for what ended so
abbrev pub task_behind : Way → Task → Task
task_behind way.Next t = t
task_behind way.Break t = task.Ended way.Break
task_behind way.Continue t = task.Ended way.Continue
task_behind (way.Return v) t = task.Ended (way.Return v)

-- the last waits for what is done, and each other for the one behind it
unfoldable pub finished_outcome : List Func → List Pending → Outcome → Outcome
finished_outcome fs [] o = o
finished_outcome fs (p ∷ ps) o = pending_outcome fs p (finished_outcome fs ps o)

-- ---- the machine

-- the end of a run that has this cost so far
abbrev pub machine_end : Costs → List Func → ℕ → List Pending → Outcome → RunEnd
machine_end t fs c ps o = end_past_cost c (costed_end t (finished_outcome fs ps o))

abbrev pub ends_as : Given → Machine → Outcome → RunEnd
ends_as g m o = machine_end g.costs.now g.program.now.funcs m.cost m.pending.items o

-- the functions above the one at work
abbrev pub functions : Given → Machine → List Callee
functions g m = over g.program.now.funcs m.func

-- the same, with this task at work
abbrev pub remains : Given → Machine → Task → RunEnd
remains g m t = ends_as g m (task_outcome g.program.now.funcs m.func t m.memory)

-- the machine `later` with this task comes to the end that `m` comes to if what is at work in it comes to o
abbrev pub ComesTo : Given → Machine → Machine → Task → Outcome → Type 0
ComesTo g m later t o = remains g later t ≡ ends_as g m o

-- ---- what is at work in the machine's function and store

-- a simple statement
abbrev pub simple_from : Machine → Stmt → ℕ → Bool → Outcome
simple_from m st n run = after (statements.entered_block m.func n run) (store_outcome (simple st m.memory))

-- a list whose first block is n
abbrev pub list_from : Given → Machine → List Stmt → ℕ → Outcome
list_from g m xs n = list_exec (functions g m) m.func xs n false m.memory

-- the list of an `if` that its condition e, the block n, chooses
abbrev pub chosen_list : Given → Machine → Expr → List Stmt → List Stmt → ℕ → Outcome
chosen_list g m e xs ys n =
    after (block m.func n ∷ [])
    (with_value (val e m.memory) (λ v. if is_nonzero v then list_from g m xs (n + 1)
    else list_from g m ys (n + 1 + list_blocks xs false)))

-- the body of a loop, if it may be entered once more, and what follows it
abbrev pub entering_loop : Given → Machine → Loop → Outcome
entering_loop g m l = body_turns (functions g m) m.func l l.left m.memory

-- the initialiser of a `for`, and then its turns
abbrev pub begun_for : Given → Machine → List Stmt → ℕ → Loop → Outcome
begun_for g m xs n l = then_do (list_from g m xs n) (loop_turns (functions g m) m.func l)

-- a call of the function f with these arguments, whose block is n
abbrev pub call_stmt_outcome : Given → Machine → Target → ℕ → List Expr → ℕ → Outcome
call_stmt_outcome g m target f es n =
    after (block m.func n ∷ []) (call (slice_get (functions g m) f) target
    (all_values es (unset_target target m.memory)) (unset_target target m.memory))

-- what a call of the function h, number f, with these values comes to
abbrev pub call_outcome : Given → Machine → Target → ℕ → Func → List Value → Outcome
call_outcome g m target f h vs = come_back target m.memory (callee f h (over g.program.now.funcs f) vs m.memory.globals)

-- what one that waited makes of an end in this way
abbrev pub resumed_outcome : Given → Machine → Pending → Way → Outcome
resumed_outcome g m p w = pending_outcome g.program.now.funcs p (Ends [] m.memory w)

-- ---- steps

-- one more waits, and all else is the same
pub record Waits (before after : Machine) (p : Pending) : Type 0 where
  pub func : after.func ≡ before.func
  pub memory : after.memory ≡ before.memory
  pub cost : after.cost ≡ before.cost
  pub pending : after.pending.items ≡ before.pending.items ++ p ∷ []

-- no end
abbrev pub is_work : Task → Bool
is_work (task.List xs n run) = true
is_work (task.One st n run) = true
is_work (task.Turn l) = true
is_work (task.Again l) = true
is_work (task.Ended w) = false
is_work task.Undefined = false
is_work task.OverBound = false

-- the run of the entry function on these arguments and globals, with the cost modulo 2^128
abbrev pub entry_run_end : Given → Func → List Value → List Slot → RunEnd
entry_run_end g h vs gs =
    let p = g.program.now in
    let s : Store = record { locals = entry_slots h.locals vs; globals = gs } in
    costed_end g.costs.now (list_exec (over p.funcs p.entry) p.entry h.body 0 false s)
