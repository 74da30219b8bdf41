use Rattle.std.proofs.Common.{[], arith}
use Rattle.c_tree.specs.Meaning.Statements.{Ends}
use Rattle.c_run.specs.Machine.{task_outcome}
use Rattle.c_run.specs.Work.{task_work}
use Rattle.c_run.proofs.Steps.{entered_as}
use Rattle.c_run.proofs.machine.Machine.jump.Goals as goal

pub returns-clause-same : goal.returns-clause-same
unfolding task_outcome
returns-clause-same c =
    let m = c.args.self.now in entered_as c.args.given m c.with_block-self.result c.args.at (Ends [] m.memory c.args.way) c.with_block-self.ensures

pub returns-clause-less : goal.returns-clause-less
unfolding task_work
returns-clause-less c =
    omega arith
