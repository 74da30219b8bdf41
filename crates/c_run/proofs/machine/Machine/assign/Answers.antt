use Rattle.std.proofs.Common.{[], sym, ap, ◌∙◌, arith}
use Rattle.c_tree.specs.declared.tree.Target.TheVariants as target
use Rattle.c_tree.specs.declared.value.Way.TheVariants as way
use Rattle.c_tree.specs.Meaning.Statements.{Ends, give}
use Rattle.c_run.specs.Machine.{task_outcome, ends_as}
use Rattle.c_run.specs.Work.{task_work}
use Rattle.c_run.proofs.machine.Machine.assign.Goals as goal

pub returns-in-None-clause-same : goal.returns-in-None-clause-same
unfolding task_outcome
returns-in-None-clause-same c =
    λ g. let m = c.args.self.now in ap (λ v. ends_as g m (give (target.Assign c.args.var) v m.memory)) (sym c.in-None.is)

pub returns-in-None-clause-less : goal.returns-in-None-clause-less
unfolding task_work
returns-in-None-clause-less c =
    λ g. omega arith

pub returns-in-Some-clause-same : goal.returns-in-Some-clause-same
unfolding task_outcome
returns-in-Some-clause-same c =
    λ g. let m = c.args.self.now in ap (λ s. ends_as g m (Ends [] s way.Next)) c.put_number.ensures ∙ ap (λ v. ends_as g m (give (target.Assign c.args.var) v m.memory)) (sym c.in-Some.is)

pub returns-in-Some-clause-less : goal.returns-in-Some-clause-less
unfolding task_work
returns-in-Some-clause-less c =
    λ g. omega arith
