use Rattle.std.proofs.Common.{◌+◌, true, false, [], ◌∷◌, Some, sym, ap, ◌∙◌, arith}
use Rattle.c_tree.specs.Meaning.Expressions.{val}
use Rattle.c_tree.specs.Meaning.Blocks.{list_blocks}
use Rattle.c_tree.specs.Meaning.Statements.{Undefined, after, block, list_exec}
use Rattle.c_run.specs.Machine.{functions, task_outcome, machine_end, ends_as}
use Rattle.c_run.specs.Work.{task_work}
use Rattle.c_run.proofs.Remains.{tested_none, tested_some}
use Rattle.c_run.proofs.Steps.{entered_as}
use Rattle.c_run.proofs.machine.Machine.choose.Goals as goal

pub returns-in-None-clause-same : goal.returns-in-None-clause-same
unfolding task_outcome
returns-in-None-clause-same c =
    let g = c.args.given in let m = c.args.self.now in let b = block m.func c.args.at in let x = list_exec (functions g m) m.func c.args.first.now (c.args.at + 1) false m.memory in let y = list_exec (functions g m) m.func c.args.second.now (c.args.at + 1 + list_blocks c.args.first.now false) false m.memory in let v = val c.args.e.now m.memory in entered_as g m c.with_block-self.result c.args.at Undefined c.with_block-self.ensures ∙ ap (λ o. ends_as g m (after (b ∷ []) o)) (sym (tested_none v x y c.in-None.ensures))

pub returns-in-None-clause-less : goal.returns-in-None-clause-less
unfolding task_work
returns-in-None-clause-less c =
    omega arith

pub returns-in_ok-plus-in-Some-true-clause-same : goal.returns-in_ok-plus-in-Some-true-clause-same
unfolding task_outcome
returns-in_ok-plus-in-Some-true-clause-same c =
    let g = c.args.given in let m = c.args.self.now in let b = block m.func c.args.at in let x = list_exec (functions g m) m.func c.args.first.now (c.args.at + 1) false m.memory in let y = list_exec (functions g m) m.func c.args.second.now (c.args.at + 1 + list_blocks c.args.first.now false) false m.memory in let v = val c.args.e.now m.memory in let some = ap Some (sym c.in-Some-true.field-0-test) ∙ c.in-Some-true.ensures in ap (λ n. machine_end g.costs.now g.program.now.funcs c.with_block-self.result m.pending.items (list_exec (functions g m) m.func c.args.first.now n false m.memory)) c.in_ok-plus-in-Some-true.ensures ∙ entered_as g m c.with_block-self.result c.args.at x c.with_block-self.ensures ∙ ap (λ o. ends_as g m (after (b ∷ []) o)) (sym (tested_some v true x y some))

pub returns-in_ok-plus-in-Some-true-clause-less : goal.returns-in_ok-plus-in-Some-true-clause-less
unfolding task_work
returns-in_ok-plus-in-Some-true-clause-less c =
    omega arith

pub returns-in_ok-plus-in-Some-false-2-clause-same : goal.returns-in_ok-plus-in-Some-false-2-clause-same
unfolding task_outcome
returns-in_ok-plus-in-Some-false-2-clause-same c =
    let g = c.args.given in let m = c.args.self.now in let b = block m.func c.args.at in let x = list_exec (functions g m) m.func c.args.first.now (c.args.at + 1) false m.memory in let y = list_exec (functions g m) m.func c.args.second.now (c.args.at + 1 + list_blocks c.args.first.now false) false m.memory in let v = val c.args.e.now m.memory in let some = ap Some (sym c.in-Some-false.field-0-test) ∙ c.in-Some-false.ensures in let n = c.in_ok-plus-in-Some-false-2.ensures ∙ ap (λ n. n + c.in_ok-list_blocks-in-Some-false.field-0) c.in_ok-plus-in-Some-false.ensures ∙ ap (λ k. c.args.at + 1 + k) c.in_ok-list_blocks-in-Some-false.ensures in ap (λ n. machine_end g.costs.now g.program.now.funcs c.with_block-self.result m.pending.items (list_exec (functions g m) m.func c.args.second.now n false m.memory)) n ∙ entered_as g m c.with_block-self.result c.args.at y c.with_block-self.ensures ∙ ap (λ o. ends_as g m (after (b ∷ []) o)) (sym (tested_some v false x y some))

pub returns-in_ok-plus-in-Some-false-2-clause-less : goal.returns-in_ok-plus-in-Some-false-2-clause-less
unfolding task_work
returns-in_ok-plus-in-Some-false-2-clause-less c =
    omega arith
