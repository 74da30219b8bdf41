use Rattle.std.proofs.Common.{refl}
use Rattle.report_text.proofs.Assembling.{bound_value}
use Rattle.report_text.proofs.assemble.bound_value.Goals as goal

pub returns-in-Some-clause-value : goal.returns-in-Some-clause-value
returns-in-Some-clause-value c = rw c.in-Some.ensures.some refl

pub returns-in-None-clause-value : goal.returns-in-None-clause-value
returns-in-None-clause-value c = rw c.best_of-best.ensures (bound_value c.args.before c.args.bound c.args.lines.now c.in-None.ensures.none)
