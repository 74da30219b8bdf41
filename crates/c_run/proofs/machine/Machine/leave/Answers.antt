use Rattle.std.proofs.Common.{[], ◌∷◌, Some, None, sym, ap, ◌∙◌, arith}
use Rattle.c_tree.specs.declared.value.Way.TheVariants as way
use Rattle.c_tree.specs.Meaning.Statements.{Ends, Undefined, with_value, after, return_value, block}
use Rattle.c_run.specs.Machine.{task_outcome, ends_as}
use Rattle.c_run.specs.Work.{task_work}
use Rattle.c_run.proofs.Steps.{entered_as}
use Rattle.c_run.proofs.machine.Machine.leave.Goals as goal

pub returns-in-None-clause-same : goal.returns-in-None-clause-same
unfolding task_outcome
returns-in-None-clause-same c =
    let g = c.args.given in let m = c.args.self.now in let b = block m.func c.args.at in entered_as g m c.with_block-self.result c.args.at (return_value None m.memory) c.with_block-self.ensures ∙ ap (λ o. ends_as g m (after (b ∷ []) o)) (ap (λ e. return_value e m.memory) (sym c.in-None.is))

pub returns-in-None-clause-less : goal.returns-in-None-clause-less
unfolding task_work
returns-in-None-clause-less c =
    omega arith

pub returns-in-None-value-clause-same : goal.returns-in-None-value-clause-same
unfolding task_outcome
returns-in-None-value-clause-same c =
    let g = c.args.given in let m = c.args.self.now in let b = block m.func c.args.at in entered_as g m c.with_block-self.result c.args.at Undefined c.with_block-self.ensures ∙ ap (λ o. ends_as g m (after (b ∷ []) o)) (ap (λ v. with_value v (λ v. Ends [] m.memory (way.Return (Some v)))) (c.in-None-value.ensures) ∙ ap (λ e. return_value e m.memory) (sym c.in-Some.is))

pub returns-in-None-value-clause-less : goal.returns-in-None-value-clause-less
unfolding task_work
returns-in-None-value-clause-less c =
    omega arith

pub returns-in-Some-value-clause-same : goal.returns-in-Some-value-clause-same
unfolding task_outcome
returns-in-Some-value-clause-same c =
    let g = c.args.given in let m = c.args.self.now in let b = block m.func c.args.at in entered_as g m c.with_block-self.result c.args.at (Ends [] m.memory (way.Return (Some c.in-Some-value.v))) c.with_block-self.ensures ∙ ap (λ o. ends_as g m (after (b ∷ []) o)) (ap (λ v. with_value v (λ v. Ends [] m.memory (way.Return (Some v)))) (c.in-Some-value.ensures) ∙ ap (λ e. return_value e m.memory) (sym c.in-Some.is))

pub returns-in-Some-value-clause-less : goal.returns-in-Some-value-clause-less
unfolding task_work
returns-in-Some-value-clause-less c =
    omega arith
