use Rattle.std.proofs.Common.{sym, ap, arith}
use Rattle.c_tree.specs.Meaning.Statements.{give}
use Rattle.c_run.specs.Machine.{task_outcome, ends_as}
use Rattle.c_run.specs.Work.{task_work}
use Rattle.c_run.proofs.machine.Machine.take_result.Goals as goal

pub returns-in-Nothing-clause-same : goal.returns-in-Nothing-clause-same
unfolding task_outcome
returns-in-Nothing-clause-same c =
    λ g. let m = c.args.self.now in ap (λ t. ends_as g m (give t c.args.value m.memory)) (sym c.in-Nothing.is)

pub returns-in-Nothing-clause-less : goal.returns-in-Nothing-clause-less
unfolding task_work
returns-in-Nothing-clause-less c =
    λ g. omega arith
