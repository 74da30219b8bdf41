use Rattle.std.proofs.Common.{false, [], ap, ◌∙◌, arith}
use Rattle.c_tree.specs.declared.value.Store.{Store}
use Rattle.c_tree.specs.Meaning.Statements.{come_back, list_exec}
use Rattle.c_tree.specs.Meaning.Runs.{back}
use Rattle.c_run.specs.declared.machine.Pending.TheVariants as pending
use Rattle.c_run.specs.Machine.{over, task_outcome, pending_outcome, ends_as}
use Rattle.c_run.specs.Work.{list_work, works_over, task_work, pending_work}
use Rattle.c_run.proofs.Steps.{pushed_as, pushed_waiting, come_from}
use Rattle.c_tree.specs.Meaning.Stores.{with_locals}
use Rattle.c_tree.specs.Meaning.Runs.{entry_slots}
use Rattle.c_run.proofs.machine.Machine.enter.Goals as goal

pub returns-clause-same : goal.returns-clause-same
unfolding task_outcome pending_outcome
returns-clause-same c =
    let g = c.args.given in let m = c.args.self.now in let fs = g.program.now.funcs in let f = c.args.func in let h = c.args.callee.now in let before = record m { memory = c.replace_locals-locals.new.self } in let p = pending.Caller m.func c.args.target c.replace_locals-locals.result h.result in let waits = c.in_ok-wait.ensures in let s = c.wait.new.self.memory in let t = c.args.target in let start = waits.memory ∙ c.replace_locals-locals.ensures.new ∙ ap (with_locals m.memory) (c.in_ok-locals.ensures ∙ ap (λ ls. entry_slots ls c.args.values.now) c.as_slice.ensures) in let first : Store = record { locals = entry_slots h.locals c.args.values.now; globals = m.memory.globals } in let kept : Store = record { locals = c.replace_locals-locals.result.items; globals = [] } in let done = back h.result (list_exec (over fs f) f h.body 0 false first) in pushed_as g before c.wait.new.self p (list_exec (over fs f) f c.as_slice-2.result.now 0 false s) waits ∙ ap (λ xs. ends_as g m (come_back t kept (back h.result (list_exec (over fs f) f xs 0 false s)))) c.as_slice-2.ensures ∙ ap (λ s. ends_as g m (come_back t kept (back h.result (list_exec (over fs f) f h.body 0 false s)))) start ∙ ap (λ ls. ends_as g m (come_back t (record { locals = ls; globals = [] }) done)) c.replace_locals-locals.ensures.old ∙ ap (ends_as g m) (come_from t m.memory done)

pub returns-clause-less : goal.returns-clause-less
unfolding task_work pending_work
returns-clause-less c =
    let g = c.args.given in let m = c.args.self.now in let fs = g.program.now.funcs in let f = c.args.func in let h = c.args.callee.now in let before = record m { memory = c.replace_locals-locals.new.self } in let p = pending.Caller m.func c.args.target c.replace_locals-locals.result h.result in let waits = c.in_ok-wait.ensures in let more = pushed_waiting g before c.wait.new.self p waits in let body = ap (list_work (works_over fs f)) c.as_slice-2.ensures in omega (arith, more, body)
