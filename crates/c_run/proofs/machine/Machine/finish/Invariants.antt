use Rattle.std.proofs.Common.{◌≡◌}
use Rattle.c_run.specs.Machine.{remains}
use Rattle.c_run.specs.Work.{work_left}
use Rattle.c_run.proofs.machine.Machine.finish.Given as goal

abbrev pub invariant-loop-task : goal.invariant-loop-task
invariant-loop-task l = remains l.given l.self l.task ≡ remains l.given l.fn.self l.first

abbrev pub decreases-loop-task : goal.decreases-loop-task
decreases-loop-task l = work_left l.given l.self l.task
