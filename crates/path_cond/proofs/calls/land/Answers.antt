use Rattle.std.proofs.Common.{refl}
use Rattle.term_steps.proofs.ExpressionRuns.{mapped}
use Rattle.path_cond.proofs.CallRuns.{landed_nowhere, landed}
use Rattle.path_cond.proofs.calls.land.Goals as goal

pub returns-in_default : goal.returns-in_default
returns-in_default c = mapped _ c.nowhere.result c.nowhere.ensures (λ cs h. landed_nowhere c.args.target c.args.ty c.args.memory.now c.pop.new.self c.in_default.ensures.0 c.in_default.ensures.1 c.requires h)

pub returns : goal.returns
returns c = mapped _ c.give.result c.give.ensures (λ cs h. landed c.args.target c.args.ty c.args.memory.now _ c.pop.new.self c.in-Some.locals c.result_of-value.result c.in-Some.ensures c.result_of-value.ensures c.requires h refl)
