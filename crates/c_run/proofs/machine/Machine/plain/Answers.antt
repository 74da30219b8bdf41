use Rattle.std.proofs.Common.{[], sym, ap, ◌∙◌, arith}
use Rattle.c_tree.specs.declared.value.Way.TheVariants as way
use Rattle.c_tree.specs.Meaning.Statements.{Ends, Undefined, after, entered_block, store_outcome}
use Rattle.c_run.specs.Machine.{task_outcome, ends_as}
use Rattle.c_run.specs.Work.{task_work}
use Rattle.c_ways.specs.Changed.{store_if_changed}
use Rattle.c_run.proofs.Steps.{run_entered}
use Rattle.c_run.proofs.machine.Machine.plain.Goals as goal

pub returns-then-branch-clause-same : goal.returns-then-branch-clause-same
unfolding task_outcome
returns-then-branch-clause-same c =
    let g = c.args.given in let m = c.args.self.now in let st = c.args.stmt.now in let is = ap (λ d. store_if_changed d c.simple.new.memory) (sym c.if-branch.true) ∙ c.in_ok-simple.ensures in run_entered g m c.with_run-self.result c.args.at c.args.run (Ends [] c.simple.new.memory way.Next) c.with_run-self.ensures.on c.with_run-self.ensures.begun ∙ ap (λ o. ends_as g m (after (entered_block m.func c.args.at c.args.run) (store_outcome o))) is

pub returns-then-branch-clause-less : goal.returns-then-branch-clause-less
unfolding task_work
returns-then-branch-clause-less c =
    omega arith

pub returns-else-branch-clause-same : goal.returns-else-branch-clause-same
unfolding task_outcome
returns-else-branch-clause-same c =
    let g = c.args.given in let m = c.args.self.now in let st = c.args.stmt.now in let is = ap (λ d. store_if_changed d c.simple.new.memory) (sym c.if-branch.false) ∙ c.in_ok-simple.ensures in run_entered g m c.with_run-self.result c.args.at c.args.run Undefined c.with_run-self.ensures.on c.with_run-self.ensures.begun ∙ ap (λ o. ends_as g m (after (entered_block m.func c.args.at c.args.run) (store_outcome o))) is

pub returns-else-branch-clause-less : goal.returns-else-branch-clause-less
unfolding task_work
returns-else-branch-clause-less c =
    omega arith
