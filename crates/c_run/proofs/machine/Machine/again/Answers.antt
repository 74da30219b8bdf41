use Rattle.std.proofs.Common.{◌≡◌, ◌<◌, ◌+◌, ◌-◌, suc, false, sym, ap, ◌∙◌, arith, subst}
use Rattle.c_run.specs.declared.machine.Task.TheVariants as task
use Rattle.c_run.specs.declared.machine.Pending.TheVariants as pending
use Rattle.c_run.specs.Machine.{functions, again_of, task_outcome, pending_outcome, ends_as}
use Rattle.c_run.specs.Work.{list_work, do_work, again_work, task_work, pending_work, efforts, machine_work}
use Rattle.c_run.proofs.Steps.{pushed, pushed_left, do_less}
use Rattle.c_run.proofs.machine.Machine.again.Goals as goal

pub returns-then-turns-eq0-clause-same : goal.returns-then-turns-eq0-clause-same
unfolding task_outcome again_of
returns-then-turns-eq0-clause-same c =
    λ g. let m = c.args.self.now in sym (ap (λ n. ends_as g m (again_of (functions g m) m.func c.args.turns n m.memory)) c.if-turns-eq0.true)

pub returns-then-turns-eq0-clause-less : goal.returns-then-turns-eq0-clause-less
unfolding task_work again_work
returns-then-turns-eq0-clause-less c =
    λ g. let m = c.args.self.now in omega arith

pub returns-clause-same : goal.returns-clause-same
unfolding task_outcome pending_outcome again_of
returns-clause-same c =
    λ g. let m = c.args.self.now in let l = c.args.turns in let n = l.left - 1 in let more : suc n ≡ l.left = omega (arith, c.if-turns-eq0.false) in let p = pending.DoTest m.func (record l { left = n }) in pushed g m c.wait.new.self p (task.List l.body l.body_at false) c.in_ok-wait.ensures ∙ ap (λ n. ends_as g m (again_of (functions g m) m.func l n m.memory)) more

pub returns-clause-less : goal.returns-clause-less
unfolding task_work pending_work again_work
returns-clause-less c =
    λ g. let m = c.args.self.now in let l = c.args.turns in let n = l.left - 1 in let more : suc n ≡ l.left = omega (arith, c.if-turns-eq0.false) in let p = pending.DoTest m.func (record l { left = n }) in let b = list_work (efforts g m) l.body.now in subst (λ w. w < do_work l.left b + machine_work g m) (sym (pushed_left g m c.wait.new.self p (task.List l.body l.body_at false) c.in_ok-wait.ensures)) (do_less b (machine_work g m) l.left n more)
