use Rattle.std.proofs.Common.{◌+◌, false, [], sym, ap, ◌∙◌, arith}
use Rattle.std.specs.Prelude.{option_copied}
use Rattle.c_tree.specs.declared.value.Store.{Store}
use Rattle.c_tree.specs.Meaning.Statements.{Ends, then_do, exec, list_exec, held_stmts}
use Rattle.c_run.specs.declared.machine.Task.TheVariants as task
use Rattle.c_run.specs.declared.machine.Pending.TheVariants as pending
use Rattle.c_run.specs.Machine.{functions, step_of, loop_turns, task_outcome, pending_outcome, ends_as}
use Rattle.c_run.specs.Work.{list_work, task_work, pending_work, efforts}
use Rattle.c_run.proofs.Steps.{pushed, pushed_left, turn_on, turn_past, then_nothing}
use Rattle.c_run.proofs.machine.Machine.step.Goals as goal
use Rattle.c_tree.proofs.Outcomes.{after_nothing}

pub returns-then-not-goes_on-clause-same : goal.returns-then-not-goes_on-clause-same
unfolding task_outcome pending_outcome
returns-then-not-goes_on-clause-same c =
    λ g. let m = c.args.self.now in let l = c.args.turns in let go = λ (s : Store). then_do (list_exec (functions g m) m.func (step_of l) (l.at + 1) false s) (loop_turns (functions g m) m.func l) in ap (λ w. ends_as g m (Ends [] m.memory w)) c.past.ensures ∙ ap (ends_as g m) (sym (turn_past c.args.way m.memory go (sym c.goes_on.ensures ∙ c.if-not-goes_on.true)))

pub returns-then-not-goes_on-clause-less : goal.returns-then-not-goes_on-clause-less
unfolding task_work pending_work
returns-then-not-goes_on-clause-less c =
    λ g. omega arith

pub returns-in-None-clause-same : goal.returns-in-None-clause-same
unfolding task_outcome pending_outcome
returns-in-None-clause-same c =
    λ g. let m = c.args.self.now in let l = c.args.turns in let go = λ (s : Store). then_do (list_exec (functions g m) m.func (step_of l) (l.at + 1) false s) (loop_turns (functions g m) m.func l) in let on = sym c.goes_on.ensures ∙ c.if-not-goes_on.false in ap (ends_as g m) (sym (after_nothing (loop_turns (functions g m) m.func l m.memory)) ∙ ap (λ o. then_do (list_exec (functions g m) m.func (held_stmts (option_copied o)) (l.at + 1) false m.memory) (loop_turns (functions g m) m.func l)) (sym c.in-None.is) ∙ sym (turn_on c.args.way m.memory go on))

pub returns-in-None-clause-less : goal.returns-in-None-clause-less
unfolding task_work pending_work
returns-in-None-clause-less c =
    λ g. omega arith

pub returns-in_ok-plus-in-Some-clause-same : goal.returns-in_ok-plus-in-Some-clause-same
unfolding task_outcome pending_outcome
returns-in_ok-plus-in-Some-clause-same c =
    λ g. let m = c.args.self.now in let l = c.args.turns in let st = c.in-Some.stmt.now in let go = λ (s : Store). then_do (list_exec (functions g m) m.func (step_of l) (l.at + 1) false s) (loop_turns (functions g m) m.func l) in let on = sym c.goes_on.ensures ∙ c.if-not-goes_on.false in let p = pending.Turn m.func l in pushed g m c.wait.new.self p (task.One c.in-Some.stmt c.in_ok-plus-in-Some.field-0 false) c.in_ok-wait-in-Some.ensures ∙ ap (λ n. ends_as g m (then_do (exec (functions g m) m.func st n false m.memory) (loop_turns (functions g m) m.func l))) c.in_ok-plus-in-Some.ensures ∙ ap (λ o. ends_as g m (then_do o (loop_turns (functions g m) m.func l))) (sym (then_nothing (exec (functions g m) m.func st (l.at + 1) false m.memory))) ∙ ap (ends_as g m) (ap (λ o. then_do (list_exec (functions g m) m.func (held_stmts (option_copied o)) (l.at + 1) false m.memory) (loop_turns (functions g m) m.func l)) (sym c.in-Some.is) ∙ sym (turn_on c.args.way m.memory go on))

pub returns-in_ok-plus-in-Some-clause-less : goal.returns-in_ok-plus-in-Some-clause-less
unfolding task_work pending_work
returns-in_ok-plus-in-Some-clause-less c =
    λ g. let m = c.args.self.now in let l = c.args.turns in let p = pending.Turn m.func l in let more = pushed_left g m c.wait.new.self p (task.One c.in-Some.stmt c.in_ok-plus-in-Some.field-0 false) c.in_ok-wait-in-Some.ensures in let is = ap (λ o. list_work (efforts g m) (held_stmts (option_copied o))) c.in-Some.is in omega (arith, more, is)
