use Rattle.std.proofs.Common.{◌≡◌, ◌<◌, ◌≤◌, ◌+◌, ℕ, false, if◌then◌else◌, List, [], ◌∷◌, sym, ap, ◌∙◌, arith, IfOk, subst}
use Rattle.std.specs.Prelude.{slice_get}
use Rattle.c_tree.specs.declared.tree.Stmt.{Stmt}
use Rattle.c_tree.specs.declared.value.Way.TheVariants as way
use Rattle.c_tree.specs.Meaning.Values.{is_nonzero}
use Rattle.c_tree.specs.Meaning.Expressions.{val, all_values}
use Rattle.c_tree.specs.Meaning.Blocks.{list_blocks, is_simple}
use Rattle.c_tree.specs.Meaning.Statements.{Ends, with_value, after, then_do, block, unset_target, call, exec, list_exec, held_stmts}
use Rattle.c_tree.proofs.Layers.ExecLayers.{exec-Call, exec-Break, exec-Continue, exec-Return, exec-If, exec-While, exec-Do, exec-For, exec-Group}
use Rattle.c_run.specs.declared.machine.Task.{Task}
use Rattle.c_run.specs.Machine.{functions, limited_turns, loop_turns, again_of, again, task_outcome, ends_as, remains}
use Rattle.c_run.specs.Work.{work, list_work, while_work, do_work, turn_work, again_work, task_work, efforts, machine_work, work_left}
use Rattle.c_run.proofs.WorkLayers.{work-Empty, work-Scalar, work-Array, work-Assign, work-Call, work-Break, work-Continue, work-Return, work-If, work-While, work-Do, work-For, work-Group}
use Rattle.std.proofs.Common.{Result, Ok, Err}
use Rattle.c_tree.specs.Meaning.Statements.{while_turns, do_turns}
use Rattle.c_run.proofs.Steps.{exec_plain, for_turns, for_work}
use Rattle.c_run.proofs.machine.Machine.statement.Goals as goal

less_more : {E : Type 0} (r : Result Task E) (h : Task → ℕ) (a b : ℕ) → a ≤ b → IfOk r (λ t. h t < a) → IfOk r (λ t. h t < b)
less_more (Ok t) h a b le lt = omega (arith, lt)
less_more (Err e) h a b le lt = tt

pub returns-in-Empty-clause-same : goal.returns-in-Empty-clause-same
unfolding task_outcome
returns-in-Empty-clause-same c =
    let g = c.args.given in let m = c.args.self.now in let fs = g.program.now.funcs in let cs = functions g m in let ws = efforts g m in let f = m.func in let s = m.memory in let at = c.args.at in let run = c.args.run in let b = block f at in let w = machine_work g m in subst (λ e. IfOk c.plain.result (λ t. remains g c.plain.new.self t ≡ e)) (ap (ends_as g m) (exec_plain cs f c.args.stmt.now at run s (ap is_simple c.in-Empty.is))) c.plain.ensures.same

pub returns-in-Empty-clause-less : goal.returns-in-Empty-clause-less
unfolding task_work
returns-in-Empty-clause-less c =
    let g = c.args.given in let m = c.args.self.now in let fs = g.program.now.funcs in let cs = functions g m in let ws = efforts g m in let f = m.func in let s = m.memory in let at = c.args.at in let run = c.args.run in let b = block f at in let w = machine_work g m in subst (λ n. IfOk c.plain.result (λ t. work_left g c.plain.new.self t < n)) (ap (λ n. n + w) (sym (ap (work ws) c.in-Empty.is ∙ work-Empty ws))) c.plain.ensures.less

pub returns-in-Scalar-clause-same : goal.returns-in-Scalar-clause-same
unfolding task_outcome
returns-in-Scalar-clause-same c =
    let g = c.args.given in let m = c.args.self.now in let fs = g.program.now.funcs in let cs = functions g m in let ws = efforts g m in let f = m.func in let s = m.memory in let at = c.args.at in let run = c.args.run in let b = block f at in let w = machine_work g m in subst (λ e. IfOk c.plain-in-Scalar.result (λ t. remains g c.plain-in-Scalar.new.self t ≡ e)) (ap (ends_as g m) (exec_plain cs f c.args.stmt.now at run s (ap is_simple c.in-Scalar.is))) c.plain-in-Scalar.ensures.same

pub returns-in-Scalar-clause-less : goal.returns-in-Scalar-clause-less
unfolding task_work
returns-in-Scalar-clause-less c =
    let g = c.args.given in let m = c.args.self.now in let fs = g.program.now.funcs in let cs = functions g m in let ws = efforts g m in let f = m.func in let s = m.memory in let at = c.args.at in let run = c.args.run in let b = block f at in let w = machine_work g m in subst (λ n. IfOk c.plain-in-Scalar.result (λ t. work_left g c.plain-in-Scalar.new.self t < n)) (ap (λ n. n + w) (sym (ap (work ws) c.in-Scalar.is ∙ work-Scalar ws c.in-Scalar.field-0 c.in-Scalar.field-1))) c.plain-in-Scalar.ensures.less

pub returns-in-Array-clause-same : goal.returns-in-Array-clause-same
unfolding task_outcome
returns-in-Array-clause-same c =
    let g = c.args.given in let m = c.args.self.now in let fs = g.program.now.funcs in let cs = functions g m in let ws = efforts g m in let f = m.func in let s = m.memory in let at = c.args.at in let run = c.args.run in let b = block f at in let w = machine_work g m in subst (λ e. IfOk c.plain-in-Array.result (λ t. remains g c.plain-in-Array.new.self t ≡ e)) (ap (ends_as g m) (exec_plain cs f c.args.stmt.now at run s (ap is_simple c.in-Array.is))) c.plain-in-Array.ensures.same

pub returns-in-Array-clause-less : goal.returns-in-Array-clause-less
unfolding task_work
returns-in-Array-clause-less c =
    let g = c.args.given in let m = c.args.self.now in let fs = g.program.now.funcs in let cs = functions g m in let ws = efforts g m in let f = m.func in let s = m.memory in let at = c.args.at in let run = c.args.run in let b = block f at in let w = machine_work g m in subst (λ n. IfOk c.plain-in-Array.result (λ t. work_left g c.plain-in-Array.new.self t < n)) (ap (λ n. n + w) (sym (ap (work ws) c.in-Array.is ∙ work-Array ws c.in-Array.field-0 c.in-Array.field-1))) c.plain-in-Array.ensures.less

pub returns-in-Assign-clause-same : goal.returns-in-Assign-clause-same
unfolding task_outcome
returns-in-Assign-clause-same c =
    let g = c.args.given in let m = c.args.self.now in let fs = g.program.now.funcs in let cs = functions g m in let ws = efforts g m in let f = m.func in let s = m.memory in let at = c.args.at in let run = c.args.run in let b = block f at in let w = machine_work g m in subst (λ e. IfOk c.plain-in-Assign.result (λ t. remains g c.plain-in-Assign.new.self t ≡ e)) (ap (ends_as g m) (exec_plain cs f c.args.stmt.now at run s (ap is_simple c.in-Assign.is))) c.plain-in-Assign.ensures.same

pub returns-in-Assign-clause-less : goal.returns-in-Assign-clause-less
unfolding task_work
returns-in-Assign-clause-less c =
    let g = c.args.given in let m = c.args.self.now in let fs = g.program.now.funcs in let cs = functions g m in let ws = efforts g m in let f = m.func in let s = m.memory in let at = c.args.at in let run = c.args.run in let b = block f at in let w = machine_work g m in subst (λ n. IfOk c.plain-in-Assign.result (λ t. work_left g c.plain-in-Assign.new.self t < n)) (ap (λ n. n + w) (sym (ap (work ws) c.in-Assign.is ∙ work-Assign ws c.in-Assign.field-0 c.in-Assign.field-1 c.in-Assign.field-2))) c.plain-in-Assign.ensures.less

pub returns-in-Call-clause-same : goal.returns-in-Call-clause-same
unfolding task_outcome
returns-in-Call-clause-same c =
    let g = c.args.given in let m = c.args.self.now in let fs = g.program.now.funcs in let cs = functions g m in let ws = efforts g m in let f = m.func in let s = m.memory in let at = c.args.at in let run = c.args.run in let b = block f at in let w = machine_work g m in subst (λ e. IfOk c.call.result (λ t. remains g c.call.new.self t ≡ e)) (ap (ends_as g m) (ap (λ es. after (b ∷ []) (call (slice_get cs c.in-Call.func) c.in-Call.target (all_values es (unset_target c.in-Call.target s)) (unset_target c.in-Call.target s))) c.as_slice.ensures ∙ sym (exec-Call cs f c.in-Call.target c.in-Call.func c.in-Call.arguments at run s) ∙ ap (λ st. exec cs f st at run s) (sym c.in-Call.is))) c.call.ensures.same

pub returns-in-Call-clause-less : goal.returns-in-Call-clause-less
unfolding task_work
returns-in-Call-clause-less c =
    let g = c.args.given in let m = c.args.self.now in let fs = g.program.now.funcs in let cs = functions g m in let ws = efforts g m in let f = m.func in let s = m.memory in let at = c.args.at in let run = c.args.run in let b = block f at in let w = machine_work g m in subst (λ n. IfOk c.call.result (λ t. work_left g c.call.new.self t < n)) (ap (λ n. n + w) (sym (ap (work ws) c.in-Call.is ∙ work-Call ws c.in-Call.target c.in-Call.func c.in-Call.arguments))) c.call.ensures.less

pub returns-in-Break-clause-same : goal.returns-in-Break-clause-same
unfolding task_outcome
returns-in-Break-clause-same c =
    let g = c.args.given in let m = c.args.self.now in let fs = g.program.now.funcs in let cs = functions g m in let ws = efforts g m in let f = m.func in let s = m.memory in let at = c.args.at in let run = c.args.run in let b = block f at in let w = machine_work g m in c.jump.ensures.same ∙ ap (ends_as g m) (sym (exec-Break cs f at run s) ∙ ap (λ st. exec cs f st at run s) (sym c.in-Break.is))

pub returns-in-Break-clause-less : goal.returns-in-Break-clause-less
unfolding task_work
returns-in-Break-clause-less c =
    let g = c.args.given in let m = c.args.self.now in let fs = g.program.now.funcs in let cs = functions g m in let ws = efforts g m in let f = m.func in let s = m.memory in let at = c.args.at in let run = c.args.run in let b = block f at in let w = machine_work g m in subst (λ n. work_left g c.jump.new.self c.jump.result < n + w) (sym (ap (work ws) c.in-Break.is ∙ work-Break ws)) c.jump.ensures.less

pub returns-in-Continue-clause-same : goal.returns-in-Continue-clause-same
unfolding task_outcome
returns-in-Continue-clause-same c =
    let g = c.args.given in let m = c.args.self.now in let fs = g.program.now.funcs in let cs = functions g m in let ws = efforts g m in let f = m.func in let s = m.memory in let at = c.args.at in let run = c.args.run in let b = block f at in let w = machine_work g m in c.jump-in-Continue.ensures.same ∙ ap (ends_as g m) (sym (exec-Continue cs f at run s) ∙ ap (λ st. exec cs f st at run s) (sym c.in-Continue.is))

pub returns-in-Continue-clause-less : goal.returns-in-Continue-clause-less
unfolding task_work
returns-in-Continue-clause-less c =
    let g = c.args.given in let m = c.args.self.now in let fs = g.program.now.funcs in let cs = functions g m in let ws = efforts g m in let f = m.func in let s = m.memory in let at = c.args.at in let run = c.args.run in let b = block f at in let w = machine_work g m in subst (λ n. work_left g c.jump-in-Continue.new.self c.jump-in-Continue.result < n + w) (sym (ap (work ws) c.in-Continue.is ∙ work-Continue ws)) c.jump-in-Continue.ensures.less

pub returns-in-Return-clause-same : goal.returns-in-Return-clause-same
unfolding task_outcome
returns-in-Return-clause-same c =
    let g = c.args.given in let m = c.args.self.now in let fs = g.program.now.funcs in let cs = functions g m in let ws = efforts g m in let f = m.func in let s = m.memory in let at = c.args.at in let run = c.args.run in let b = block f at in let w = machine_work g m in c.leave.ensures.same ∙ ap (ends_as g m) (sym (exec-Return cs f c.in-Return.e at run s) ∙ ap (λ st. exec cs f st at run s) (sym c.in-Return.is))

pub returns-in-Return-clause-less : goal.returns-in-Return-clause-less
unfolding task_work
returns-in-Return-clause-less c =
    let g = c.args.given in let m = c.args.self.now in let fs = g.program.now.funcs in let cs = functions g m in let ws = efforts g m in let f = m.func in let s = m.memory in let at = c.args.at in let run = c.args.run in let b = block f at in let w = machine_work g m in subst (λ n. work_left g c.leave.new.self c.leave.result < n + w) (sym (ap (work ws) c.in-Return.is ∙ work-Return ws c.in-Return.e)) c.leave.ensures.less

pub returns-in-If-clause-same : goal.returns-in-If-clause-same
unfolding task_outcome
returns-in-If-clause-same c =
    let g = c.args.given in let m = c.args.self.now in let fs = g.program.now.funcs in let cs = functions g m in let ws = efforts g m in let f = m.func in let s = m.memory in let at = c.args.at in let run = c.args.run in let b = block f at in let w = machine_work g m in let ch = λ (xs ys : List Stmt). after (b ∷ []) (with_value (val c.in-If.e s) (λ v. if is_nonzero v then list_exec cs f xs (at + 1) false s else list_exec cs f ys (at + 1 + list_blocks xs false) false s)) in subst (λ e. IfOk c.choose.result (λ t. remains g c.choose.new.self t ≡ e)) (ap (ends_as g m) (ap (λ xs. ch xs c.as_slice-in-If-2.result.now) c.as_slice-in-If.ensures ∙ ap (λ ys. ch c.in-If.xs ys) c.as_slice-in-If-2.ensures ∙ sym (exec-If cs f c.in-If.e c.in-If.xs c.in-If.ys at run s) ∙ ap (λ st. exec cs f st at run s) (sym c.in-If.is))) c.choose.ensures.same

pub returns-in-If-clause-less : goal.returns-in-If-clause-less
unfolding task_work
returns-in-If-clause-less c =
    let g = c.args.given in let m = c.args.self.now in let fs = g.program.now.funcs in let cs = functions g m in let ws = efforts g m in let f = m.func in let s = m.memory in let at = c.args.at in let run = c.args.run in let b = block f at in let w = machine_work g m in let sum = λ (xs ys : List Stmt). 1 + list_work ws xs + list_work ws ys in subst (λ n. IfOk c.choose.result (λ t. work_left g c.choose.new.self t < n)) (ap (λ n. n + w) (ap (λ xs. sum xs c.as_slice-in-If-2.result.now) c.as_slice-in-If.ensures ∙ ap (λ ys. sum c.in-If.xs ys) c.as_slice-in-If-2.ensures ∙ sym (work-If ws c.in-If.e c.in-If.xs c.in-If.ys) ∙ ap (work ws) (sym c.in-If.is))) c.choose.ensures.less

pub returns-in_ok-turns-in-While-clause-same : goal.returns-in_ok-turns-in-While-clause-same
unfolding task_outcome limited_turns
returns-in_ok-turns-in-While-clause-same c =
    let g = c.args.given in let m = c.args.self.now in let fs = g.program.now.funcs in let cs = functions g m in let ws = efforts g m in let f = m.func in let s = m.memory in let at = c.args.at in let run = c.args.run in let b = block f at in let w = machine_work g m in let i = c.in-While in let go = λ (xs : List Stmt). while_turns i.bound b i.e (list_exec cs f xs (at + 1) false) (λ s'. Ends [] s' way.Next) s in ap (ends_as g m) (ap (λ l. loop_turns cs f l s) c.in_ok-turns-in-While.ensures ∙ ap go c.as_slice-in-While.ensures ∙ sym (exec-While cs f i.bound i.e i.xs at run s) ∙ ap (λ st. exec cs f st at run s) (sym c.in-While.is))

pub returns-in_ok-turns-in-While-clause-less : goal.returns-in_ok-turns-in-While-clause-less
unfolding task_work turn_work
returns-in_ok-turns-in-While-clause-less c =
    let g = c.args.given in let m = c.args.self.now in let fs = g.program.now.funcs in let cs = functions g m in let ws = efforts g m in let f = m.func in let s = m.memory in let at = c.args.at in let run = c.args.run in let b = block f at in let w = machine_work g m in let i = c.in-While in let l = c.in_ok-turns-in-While.turns in let takes : turn_work ws l l.left ≡ while_work i.bound (list_work ws i.xs) 1 = ap (λ l. turn_work ws l l.left) c.in_ok-turns-in-While.ensures ∙ ap (λ xs. while_work i.bound (list_work ws xs) 1) c.as_slice-in-While.ensures in let all = ap (work ws) c.in-While.is ∙ work-While ws i.bound i.e i.xs in omega (arith, takes, all)

pub returns-in_ok-turns-in-Do-clause-same : goal.returns-in_ok-turns-in-Do-clause-same
unfolding task_outcome again_of
returns-in_ok-turns-in-Do-clause-same c =
    let g = c.args.given in let m = c.args.self.now in let fs = g.program.now.funcs in let cs = functions g m in let ws = efforts g m in let f = m.func in let s = m.memory in let at = c.args.at in let run = c.args.run in let b = block f at in let w = machine_work g m in let i = c.in-Do in let go = λ (xs : List Stmt). do_turns i.bound (block f (at + list_blocks xs false)) i.e (list_exec cs f xs at false) s in ap (ends_as g m) (ap (λ l. again cs f l s) c.in_ok-turns-in-Do.ensures ∙ ap go c.as_slice-in-Do.ensures ∙ sym (exec-Do cs f i.bound i.xs i.e at run s) ∙ ap (λ st. exec cs f st at run s) (sym c.in-Do.is))

pub returns-in_ok-turns-in-Do-clause-less : goal.returns-in_ok-turns-in-Do-clause-less
unfolding task_work again_work
returns-in_ok-turns-in-Do-clause-less c =
    let g = c.args.given in let m = c.args.self.now in let fs = g.program.now.funcs in let cs = functions g m in let ws = efforts g m in let f = m.func in let s = m.memory in let at = c.args.at in let run = c.args.run in let b = block f at in let w = machine_work g m in let i = c.in-Do in let l = c.in_ok-turns-in-Do.turns in let takes : again_work ws l l.left ≡ do_work i.bound (list_work ws i.xs) = ap (λ l. again_work ws l l.left) c.in_ok-turns-in-Do.ensures ∙ ap (λ xs. do_work i.bound (list_work ws xs)) c.as_slice-in-Do.ensures in let all = ap (work ws) c.in-Do.is ∙ work-Do ws i.bound i.xs i.e in omega (arith, takes, all)

pub returns-in_ok-turns-in-For-clause-same : goal.returns-in_ok-turns-in-For-clause-same
unfolding task_outcome
returns-in_ok-turns-in-For-clause-same c =
    let g = c.args.given in let m = c.args.self.now in let fs = g.program.now.funcs in let cs = functions g m in let ws = efforts g m in let f = m.func in let s = m.memory in let at = c.args.at in let run = c.args.run in let b = block f at in let w = machine_work g m in let i = c.in-For in let l = c.in_ok-turns-in-For.turns in let e = c.in_ok-turns-in-For.ensures in let n = at + list_blocks (held_stmts i.i) false in let here = e.at ∙ c.in_ok-condition-in-For.ensures ∙ ap (λ k. at + k) c.in_ok-held_blocks-in-For.ensures in let body = ap (λ r. r.now) e.body ∙ c.as_slice-in-For.ensures in let body_at = e.body_at ∙ ap (λ n. n + 1 + list_blocks (held_stmts i.j) false) (c.in_ok-condition-in-For.ensures ∙ ap (λ k. at + k) c.in_ok-held_blocks-in-For.ensures) in let is = for_turns cs f l i.bound n i.e i.xs i.j e.left (ap (λ r. r.now) e.condition) body here body_at e.step in subst (λ e. IfOk c.begin.result (λ t. remains g c.begin.new.self t ≡ e)) (ap (ends_as g m) (ap (λ go. then_do (list_exec cs f (held_stmts i.i) at false s) go) is ∙ sym (exec-For cs f i.bound i.i i.j i.e i.xs at run s) ∙ ap (λ st. exec cs f st at run s) (sym c.in-For.is))) (c.begin.ensures.same g)

pub returns-in_ok-turns-in-For-clause-less : goal.returns-in_ok-turns-in-For-clause-less
unfolding task_work
returns-in_ok-turns-in-For-clause-less c =
    let g = c.args.given in let m = c.args.self.now in let fs = g.program.now.funcs in let cs = functions g m in let ws = efforts g m in let f = m.func in let s = m.memory in let at = c.args.at in let run = c.args.run in let b = block f at in let w = machine_work g m in let i = c.in-For in let l = c.in_ok-turns-in-For.turns in let e = c.in_ok-turns-in-For.ensures in let n = at + list_blocks (held_stmts i.i) false in let here = e.at ∙ c.in_ok-condition-in-For.ensures ∙ ap (λ k. at + k) c.in_ok-held_blocks-in-For.ensures in let body = ap (λ r. r.now) e.body ∙ c.as_slice-in-For.ensures in let takes = for_work ws l i.bound i.xs i.j e.left body e.step in let all = ap (work ws) c.in-For.is ∙ work-For ws i.bound i.i i.j i.e i.xs in less_more c.begin.result (work_left g c.begin.new.self) (2 + list_work ws (held_stmts i.i) + turn_work ws l l.left + w) (work ws c.args.stmt.now + w) (omega (arith, takes, all)) (c.begin.ensures.less g)

pub returns-in-Group-clause-same : goal.returns-in-Group-clause-same
unfolding task_outcome
returns-in-Group-clause-same c =
    let g = c.args.given in let m = c.args.self.now in let fs = g.program.now.funcs in let cs = functions g m in let ws = efforts g m in let f = m.func in let s = m.memory in let at = c.args.at in let run = c.args.run in let b = block f at in let w = machine_work g m in ap (ends_as g m) (ap (λ xs. list_exec cs f xs at false s) c.as_slice-in-Group.ensures ∙ sym (exec-Group cs f c.in-Group.xs at run s) ∙ ap (λ st. exec cs f st at run s) (sym c.in-Group.is))

pub returns-in-Group-clause-less : goal.returns-in-Group-clause-less
unfolding task_work
returns-in-Group-clause-less c =
    let g = c.args.given in let m = c.args.self.now in let fs = g.program.now.funcs in let cs = functions g m in let ws = efforts g m in let f = m.func in let s = m.memory in let at = c.args.at in let run = c.args.run in let b = block f at in let w = machine_work g m in let takes = ap (list_work ws) c.as_slice-in-Group.ensures in let all = ap (work ws) c.in-Group.is ∙ work-Group ws c.in-Group.xs in omega (arith, takes, all)
