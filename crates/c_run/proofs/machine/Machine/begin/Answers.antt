use Rattle.std.proofs.Common.{false, sym, ap, ◌∙◌, arith}
use Rattle.c_tree.specs.Meaning.Statements.{then_do, exec, list_exec, held_stmts}
use Rattle.c_run.specs.declared.machine.Task.TheVariants as task
use Rattle.c_run.specs.declared.machine.Pending.TheVariants as pending
use Rattle.c_run.specs.Machine.{functions, loop_turns, task_outcome, pending_outcome, ends_as}
use Rattle.c_run.specs.Work.{work, list_work, task_work, pending_work, efforts}
use Rattle.c_run.proofs.Steps.{pushed, pushed_left, then_nothing}
use Rattle.c_run.proofs.machine.Machine.begin.Goals as goal
use Rattle.c_tree.proofs.Outcomes.{after_nothing}

pub returns-in-None-clause-same : goal.returns-in-None-clause-same
unfolding task_outcome
returns-in-None-clause-same c =
    λ g. let m = c.args.self.now in let l = c.args.ahead in ap (ends_as g m) (sym (after_nothing (loop_turns (functions g m) m.func l m.memory)) ∙ ap (λ o. then_do (list_exec (functions g m) m.func (held_stmts o) c.args.at false m.memory) (loop_turns (functions g m) m.func l)) (sym c.in-None.is))

pub returns-in-None-clause-less : goal.returns-in-None-clause-less
unfolding task_work
returns-in-None-clause-less c =
    λ g. omega arith

pub returns-in_ok-wait-in-Some-clause-same : goal.returns-in_ok-wait-in-Some-clause-same
unfolding task_outcome pending_outcome
returns-in_ok-wait-in-Some-clause-same c =
    λ g. let m = c.args.self.now in let l = c.args.ahead in let go = loop_turns (functions g m) m.func l in let p = pending.Turn m.func l in pushed g m c.wait.new.self p (task.One c.get.result c.args.at false) c.in_ok-wait-in-Some.ensures ∙ ap (λ st. ends_as g m (then_do (exec (functions g m) m.func st c.args.at false m.memory) go)) c.get.ensures ∙ ap (λ o. ends_as g m (then_do o go)) (sym (then_nothing (exec (functions g m) m.func c.in-Some.stmt c.args.at false m.memory))) ∙ ap (λ o. ends_as g m (then_do (list_exec (functions g m) m.func (held_stmts o) c.args.at false m.memory) go)) (sym c.in-Some.is)

pub returns-in_ok-wait-in-Some-clause-less : goal.returns-in_ok-wait-in-Some-clause-less
unfolding task_work pending_work
returns-in_ok-wait-in-Some-clause-less c =
    λ g. let m = c.args.self.now in let l = c.args.ahead in let p = pending.Turn m.func l in let more = pushed_left g m c.wait.new.self p (task.One c.get.result c.args.at false) c.in_ok-wait-in-Some.ensures in let st = ap (work (efforts g m)) c.get.ensures in let is = ap (λ o. list_work (efforts g m) (held_stmts o)) c.in-Some.is in omega (arith, more, st, is)
