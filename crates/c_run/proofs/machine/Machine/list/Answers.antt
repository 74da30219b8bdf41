use Rattle.std.proofs.Common.{◌≡◌, ◌+◌, List, [], ◌∷◌, length, refl, sym, ap, ◌∙◌, arith}
use Rattle.c_tree.specs.declared.tree.Stmt.{Stmt}
use Rattle.c_tree.specs.Meaning.Blocks.{blocks}
use Rattle.c_tree.specs.Meaning.Statements.{then_do, exec, list_exec}
use Rattle.c_run.specs.declared.machine.Task.TheVariants as task
use Rattle.c_run.specs.declared.machine.Pending.TheVariants as pending
use Rattle.c_run.specs.Machine.{functions, task_outcome, pending_outcome, ends_as}
use Rattle.c_run.specs.Work.{list_work, task_work, pending_work, efforts}
use Rattle.c_run.proofs.Steps.{pushed, pushed_left}
use Rattle.c_run.proofs.machine.Machine.list.Goals as goal

no_items : (xs : List Stmt) → length xs ≡ 0 → xs ≡ []
no_items [] e = refl
no_items (x ∷ xs) e = absurd (omega (arith, e))

pub returns-in_default-clause-same : goal.returns-in_default-clause-same
unfolding task_outcome
returns-in_default-clause-same c =
    λ g. let m = c.args.self.now in sym (ap (λ xs. ends_as g m (list_exec (functions g m) m.func xs c.args.at c.args.run m.memory)) (no_items c.args.stmts.now c.in_default.ensures.cases))

pub returns-in_default-clause-less : goal.returns-in_default-clause-less
unfolding task_work
returns-in_default-clause-less c =
    λ g. let m = c.args.self.now in let none = ap (list_work (efforts g m)) (no_items c.args.stmts.now c.in_default.ensures.cases) in omega (arith, none)

pub returns-clause-same : goal.returns-clause-same
unfolding task_outcome pending_outcome
returns-clause-same c =
    λ g. let m = c.args.self.now in let st = c.in-Some.stmt.now in let xs = c.in-Some.rest.now in let first = exec (functions g m) m.func st c.args.at c.args.run m.memory in let at = c.in_ok-plus.ensures ∙ ap (λ n. c.args.at + n) c.in_ok-stmt_blocks.ensures in let p = pending.Rest m.func c.in-Some.rest c.in_ok-plus.field-0 c.is_simple.result in pushed g m c.wait.new.self p (task.One c.in-Some.stmt c.args.at c.args.run) c.in_ok-wait.ensures ∙ ap (λ n. ends_as g m (then_do first (list_exec (functions g m) m.func xs n c.is_simple.result))) at ∙ ap (λ r. ends_as g m (then_do first (list_exec (functions g m) m.func xs (c.args.at + blocks st c.args.run) r))) c.is_simple.ensures ∙ ap (λ xs. ends_as g m (list_exec (functions g m) m.func xs c.args.at c.args.run m.memory)) (sym c.in-Some.ensures.cases.0)

pub returns-clause-less : goal.returns-clause-less
unfolding task_work pending_work
returns-clause-less c =
    λ g. let m = c.args.self.now in let p = pending.Rest m.func c.in-Some.rest c.in_ok-plus.field-0 c.is_simple.result in let more = pushed_left g m c.wait.new.self p (task.One c.in-Some.stmt c.args.at c.args.run) c.in_ok-wait.ensures in let xs = ap (list_work (efforts g m)) c.in-Some.ensures.cases.0 in omega (arith, more, xs)
