use Rattle.std.proofs.Common.{[], sym, ap, ◌∙◌, arith}
use Rattle.c_tree.specs.Meaning.Statements.{Ends, give}
use Rattle.c_run.specs.declared.machine.Task.TheVariants as task
use Rattle.c_run.specs.Machine.{task_outcome, pending_outcome, ends_as}
use Rattle.c_ways.specs.Ways.{way_result}
use Rattle.c_run.specs.Work.{task_work, pending_work}
use Rattle.c_run.proofs.Steps.{then_onward, come_back_is}
use Rattle.c_tree.specs.Meaning.Stores.{with_locals}
use Rattle.c_run.proofs.Steps.{onward_work}
use Rattle.c_run.proofs.machine.Machine.resume.Goals as goal
use Rattle.c_tree.proofs.Outcomes.{after_nothing}

pub returns-in-Rest-clause-same : goal.returns-in-Rest-clause-same
unfolding task_outcome pending_outcome
returns-in-Rest-clause-same c =
    let g = c.args.given in let m = c.args.self.now in let fs = g.program.now.funcs in let s = m.memory in let w = c.args.way in let t = task.List c.in-Rest.stmts c.in-Rest.at c.in-Rest.run' in ap (λ t. ends_as g m (task_outcome fs c.in-Rest.func t s)) c.onward.ensures ∙ ap (ends_as g m) (sym (then_onward fs c.in-Rest.func w t s)) ∙ ap (λ p. ends_as g m (pending_outcome fs p (Ends [] s w))) (sym c.in-Rest.is)

pub returns-in-Rest-clause-less : goal.returns-in-Rest-clause-less
unfolding task_work pending_work
returns-in-Rest-clause-less c =
    let g = c.args.given in let m = c.args.self.now in let fs = g.program.now.funcs in let s = m.memory in let w = c.args.way in let t = task.List c.in-Rest.stmts c.in-Rest.at c.in-Rest.run' in let most = onward_work fs c.in-Rest.func w t in let is = ap (task_work fs c.in-Rest.func) c.onward.ensures in let all = ap (pending_work fs) c.in-Rest.is in omega (arith, most, is, all)

pub returns-in-Turn-clause-same : goal.returns-in-Turn-clause-same
unfolding task_outcome pending_outcome
returns-in-Turn-clause-same c =
    let g = c.args.given in let m = c.args.self.now in let fs = g.program.now.funcs in let s = m.memory in let w = c.args.way in let t = task.Turn c.in-Turn.turns in ap (λ t. ends_as g m (task_outcome fs c.in-Turn.func t s)) c.onward-in-Turn.ensures ∙ ap (ends_as g m) (sym (then_onward fs c.in-Turn.func w t s)) ∙ ap (λ p. ends_as g m (pending_outcome fs p (Ends [] s w))) (sym c.in-Turn.is)

pub returns-in-Turn-clause-less : goal.returns-in-Turn-clause-less
unfolding task_work pending_work
returns-in-Turn-clause-less c =
    let g = c.args.given in let m = c.args.self.now in let fs = g.program.now.funcs in let s = m.memory in let w = c.args.way in let t = task.Turn c.in-Turn.turns in let most = onward_work fs c.in-Turn.func w t in let is = ap (task_work fs c.in-Turn.func) c.onward-in-Turn.ensures in let all = ap (pending_work fs) c.in-Turn.is in omega (arith, most, is, all)

pub returns-in-Caller-clause-same : goal.returns-in-Caller-clause-same
unfolding pending_outcome
returns-in-Caller-clause-same c =
    let g = c.args.given in let m = c.args.self.now in let fs = g.program.now.funcs in let s = m.memory in let w = c.args.way in let i = c.in-Caller in let ls = i.locals.items in c.take_result.ensures.same g ∙ ap (λ s. ends_as g m (give i.target c.returned.result s)) c.replace_locals.ensures.new ∙ ap (λ v. ends_as g m (give i.target v (with_locals s ls))) c.returned.ensures ∙ ap (ends_as g m) (sym (after_nothing (give i.target (way_result i.result w) (with_locals s ls))) ∙ sym (come_back_is i.target i.result ls s w)) ∙ ap (λ p. ends_as g m (pending_outcome fs p (Ends [] s w))) (sym i.is)

pub returns-in-Caller-clause-less : goal.returns-in-Caller-clause-less
unfolding pending_work
returns-in-Caller-clause-less c =
    let g = c.args.given in let m = c.args.self.now in let fs = g.program.now.funcs in let s = m.memory in let w = c.args.way in let all = ap (pending_work fs) c.in-Caller.is in omega (arith, all, c.take_result.ensures.less g)
