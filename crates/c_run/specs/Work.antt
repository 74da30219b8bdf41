-- How many tasks a run may still take up, at most: a number that falls at each.
use Rattle.std.specs.Prelude.{ℕ, ◌+◌, ◌*◌, List, [], ◌∷◌, ◌++◌, take, slice_get, unwrap_or}
use Rattle.c_tree.specs.declared.tree.Stmt.{Stmt, Row_of-Stmt, end_of-Stmt, more_of-Stmt, Held-Stmt-For-1, None', Some'}
use Rattle.c_tree.specs.declared.tree.Stmt.TheVariants.{
  Empty,
  Scalar,
  Array,
  Assign,
  Call,
  Break,
  Continue,
  Return,
  If',
  While',
  Do',
  For',
  Group',
}
use Rattle.c_tree.specs.declared.program.Func.{Func}
use Rattle.c_ways.specs.declared.loops.Loop.{Loop}
use Rattle.c_ways.specs.declared.loops.DoLoop.{DoLoop}
use Rattle.c_run.specs.declared.machine.Task.{Task}
use Rattle.c_run.specs.declared.machine.Task.TheVariants as task
use Rattle.c_run.specs.declared.machine.Pending.{Pending}
use Rattle.c_run.specs.declared.machine.Pending.TheVariants as pending
use Rattle.c_run.specs.declared.machine.Machine.{Machine}
use Rattle.c_run.specs.declared.machine.Given.{Given}
use Rattle.c_run.specs.Machine.{step_of}

-- the number of a function above, by those of the functions above
abbrev pub work_at : List ℕ → ℕ → ℕ
work_at ws g = unwrap_or (slice_get ws g) 0

-- of a `while` or a `for` whose body and step take x and y, n more times
abbrev pub while_work : ℕ → ℕ → ℕ → ℕ
while_work n x y = 1 + n * (3 + x + y)

-- of a `do` whose body takes x, n more times
abbrev pub do_work : ℕ → ℕ → ℕ
do_work n x = 1 + n * (2 + x)

unfoldable mutual
  pub work : List ℕ → Stmt → ℕ
  work ws Empty = 1
  work ws (Scalar l e) = 1
  work ws (Array l es) = 1
  work ws (Assign p op e) = 1
  work ws (Call t g es) = 2 + work_at ws g
  work ws Break = 1
  work ws Continue = 1
  work ws (Return e) = 1
  work ws (If' e a x b y) = 1 + row_work ws x + row_work ws y
  work ws (While' k e a x) = 1 + while_work k (row_work ws x) 1
  work ws (Do' k a x e) = 1 + do_work k (row_work ws x)
  work ws (For' k i e j a x) = 3 + held_work ws i + while_work k (row_work ws x) (held_work ws j)
  work ws (Group' a x) = 1 + row_work ws x

  pub row_work : {m : _} → List ℕ → Row_of-Stmt m → ℕ
  row_work ws end_of-Stmt = 1
  row_work ws (more_of-Stmt s rest) = 2 + work ws s + row_work ws rest

  pub held_work : List ℕ → Held-Stmt-For-1 → ℕ
  held_work ws None' = 1
  held_work ws (Some' a x) = row_work ws x

abbrev pub list_work : List ℕ → List Stmt → ℕ
list_work ws [] = 1
list_work ws (s ∷ rest) = 2 + work ws s + list_work ws rest

-- of each function, over those above it
abbrev pub works : List ℕ → List Func → List ℕ
works ws [] = ws
works ws (f ∷ fs) = works (ws ++ list_work ws f.body ∷ []) fs

-- of those above the function f
abbrev pub works_over : List Func → ℕ → List ℕ
works_over fs f = works [] (take f fs)

unfoldable pub turn_work : List ℕ → Loop → ℕ → ℕ
turn_work ws l n = while_work n (list_work ws l.body.now) (list_work ws (step_of l))

unfoldable pub again_work : List ℕ → DoLoop → ℕ → ℕ
again_work ws l n = do_work n (list_work ws l.body.now)

unfoldable pub task_work : List Func → ℕ → Task → ℕ
task_work fs f (task.List xs n run) = list_work (works_over fs f) xs.now
task_work fs f (task.One st n run) = work (works_over fs f) st.now
task_work fs f (task.Turn l) = turn_work (works_over fs f) l l.left
task_work fs f (task.Again l) = again_work (works_over fs f) l l.left
task_work fs f (task.Ended w) = 0
task_work fs f task.Undefined = 0
task_work fs f task.OverBound = 0

unfoldable pub pending_work : List Func → Pending → ℕ
pending_work fs (pending.Rest f xs n run) = 1 + list_work (works_over fs f) xs.now
pending_work fs (pending.Turn f l) = 1 + turn_work (works_over fs f) l l.left
pending_work fs (pending.Step f l) =
    2 + list_work (works_over fs f) (step_of l) + turn_work (works_over fs f) l l.left
pending_work fs (pending.DoTest f l) = 1 + again_work (works_over fs f) l l.left
pending_work fs (pending.Caller f target locals result) = 1

unfoldable pub waiting_work : List Func → List Pending → ℕ
waiting_work fs [] = 0
waiting_work fs (p ∷ ps) = pending_work fs p + waiting_work fs ps

-- of what waits in the machine
abbrev pub machine_work : Given → Machine → ℕ
machine_work g m = waiting_work g.program.now.funcs m.pending.items

abbrev pub efforts : Given → Machine → List ℕ
efforts g m = works_over g.program.now.funcs m.func

abbrev pub work_left : Given → Machine → Task → ℕ
work_left g m t = task_work g.program.now.funcs m.func t + machine_work g m

-- ---- what parts of a step take

-- one that waits
abbrev pub work_behind : Given → Pending → ℕ
work_behind g p = pending_work g.program.now.funcs p

-- the lists of an `if`
abbrev pub choice_work : Given → Machine → List Stmt → List Stmt → ℕ
choice_work g m xs ys = 1 + list_work (efforts g m) xs + list_work (efforts g m) ys

-- a `for` with this initialiser
abbrev pub begun_work : Given → Machine → List Stmt → Loop → ℕ
begun_work g m xs l = 2 + list_work (efforts g m) xs + turn_work (efforts g m) l l.left

-- a call of the function h, number f
abbrev pub callee_work : Given → ℕ → Func → ℕ
callee_work g f h = 2 + list_work (works_over g.program.now.funcs f) h.body
