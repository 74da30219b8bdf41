use Rattle.std.proofs.Common.{◌≡◌, ◌<◌, ◌-◌, ◌^◌, [], ◌++◌, sym, ap, ◌∙◌, arith}
use Rattle.std.specs.Prelude.{take}
use Rattle.c_tree.specs.Meaning.Statements.{Ends}
use Rattle.c_run.specs.Machine.{task_outcome, machine_end, remains}
use Rattle.c_run.specs.Work.{task_work, waiting_work}
use Rattle.c_run.proofs.Remains.{state_undefined, state_over, state_ended, state_pushed}
use Rattle.c_run.specs.declared.run_end.RunEnd.TheVariants as RunEnd
use Rattle.c_run.proofs.Steps.{waiting_more}
use Rattle.c_run.proofs.machine.Machine.finish.Goals as goal

pub returns-in-Undefined : goal.returns-in-Undefined
unfolding task_outcome
returns-in-Undefined c =
    let g = c.args.given in let m = c.loop-task.self in let t = g.costs.now in let fs = g.program.now.funcs in sym (state_undefined t fs m.cost m.pending.items) ∙ ap (remains g m) (sym c.in-Undefined.is) ∙ c.loop-task.invariant

pub returns-in-OverBound : goal.returns-in-OverBound
unfolding task_outcome
returns-in-OverBound c =
    let g = c.args.given in let m = c.loop-task.self in let t = g.costs.now in let fs = g.program.now.funcs in sym (state_over t fs m.cost m.pending.items) ∙ ap (remains g m) (sym c.in-OverBound.is) ∙ c.loop-task.invariant

pub returns-in-None : goal.returns-in-None
unfolding task_outcome
returns-in-None c =
    let g = c.args.given in let m = c.loop-task.self in let t = g.costs.now in let fs = g.program.now.funcs in let way = c.in-Ended.way in let none : m.pending.items ≡ [] = c.in-None.ensures.items ∙ ap (λ xs. xs ++ []) (c.in-None.ensures.rest ∙ ap (λ n. take (n - 1) m.pending.items) c.in-None.ensures.cases.0) in let lt : m.cost < 2 ^ 128 = omega (arith, c.total.ensures, c.total.type_inv) in ap RunEnd.Ends c.total.ensures ∙ sym (state_ended t fs m.cost m.memory way lt) ∙ sym (ap (λ ps. machine_end t fs m.cost ps (Ends [] m.memory way)) none) ∙ ap (remains g m) (sym c.in-Ended.is) ∙ c.loop-task.invariant

pub loop-task-smaller-in-Some : goal.loop-task-smaller-in-Some
unfolding task_work
loop-task-smaller-in-Some c =
    let g = c.args.given in let m = c.loop-task.self in let t = g.costs.now in let fs = g.program.now.funcs in let is = ap (task_work fs m.func) c.in-Ended.is in let more = ap (waiting_work fs) c.in-Some.ensures.items ∙ waiting_more fs c.pop.new.self.items c.in-Some.pending in omega (arith, is, more, c.in_ok-task-in-Some.ensures.less)

pub loop-task-preserved-in-Some : goal.loop-task-preserved-in-Some
unfolding task_outcome
loop-task-preserved-in-Some c =
    let g = c.args.given in let m = c.loop-task.self in let t = g.costs.now in let fs = g.program.now.funcs in let o = Ends [] m.memory c.in-Ended.way in c.in_ok-task-in-Some.ensures.same ∙ sym (state_pushed t fs m.cost c.pop.new.self.items m.pending.items c.in-Some.pending o c.in-Some.ensures.items) ∙ ap (remains g m) (sym c.in-Ended.is) ∙ c.loop-task.invariant
