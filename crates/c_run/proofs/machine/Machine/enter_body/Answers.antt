use Rattle.std.proofs.Common.{◌≡◌, ◌<◌, ◌+◌, ◌-◌, suc, false, sym, ap, ◌∙◌, arith, subst}
use Rattle.c_run.specs.declared.machine.Task.TheVariants as task
use Rattle.c_run.specs.declared.machine.Pending.TheVariants as pending
use Rattle.c_run.specs.Machine.{functions, step_of, limited_turns, body_turns, task_outcome, pending_outcome, ends_as}
use Rattle.c_run.specs.Work.{list_work, while_work, turn_work, task_work, pending_work, efforts, machine_work}
use Rattle.c_run.proofs.Steps.{pushed, pushed_left, while_less}
use Rattle.c_run.proofs.machine.Machine.enter_body.Goals as goal

pub returns-then-turns-eq0-clause-same : goal.returns-then-turns-eq0-clause-same
unfolding task_outcome body_turns
returns-then-turns-eq0-clause-same c =
    λ g. let m = c.args.self.now in sym (ap (λ n. ends_as g m (body_turns (functions g m) m.func c.args.turns n m.memory)) c.if-turns-eq0.true)

pub returns-then-turns-eq0-clause-less : goal.returns-then-turns-eq0-clause-less
unfolding task_work turn_work
returns-then-turns-eq0-clause-less c =
    λ g. let m = c.args.self.now in omega arith

pub returns-clause-same : goal.returns-clause-same
unfolding task_outcome pending_outcome body_turns limited_turns
returns-clause-same c =
    λ g. let m = c.args.self.now in let l = c.args.turns in let n = l.left - 1 in let more : suc n ≡ l.left = omega (arith, c.if-turns-eq0.false) in let p = pending.Step m.func (record l { left = n }) in pushed g m c.wait.new.self p (task.List l.body l.body_at false) c.in_ok-wait.ensures ∙ ap (λ n. ends_as g m (body_turns (functions g m) m.func l n m.memory)) more

pub returns-clause-less : goal.returns-clause-less
unfolding task_work pending_work turn_work
returns-clause-less c =
    λ g. let m = c.args.self.now in let l = c.args.turns in let n = l.left - 1 in let more : suc n ≡ l.left = omega (arith, c.if-turns-eq0.false) in let p = pending.Step m.func (record l { left = n }) in let b = list_work (efforts g m) l.body.now in let s = list_work (efforts g m) (step_of l) in subst (λ w. w < while_work l.left b s + machine_work g m) (sym (pushed_left g m c.wait.new.self p (task.List l.body l.body_at false) c.in_ok-wait.ensures)) (while_less b s (machine_work g m) l.left n more)
