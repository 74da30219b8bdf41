use Rattle.term_steps.proofs.ExpressionRuns.{mapped}
use Rattle.path_cond.specs.Memories.{memory_of}
use Rattle.path_cond.proofs.CallRuns.{lost_by}
use Rattle.path_cond.proofs.EdgeRuns.{held_true, no_test_true}
use Rattle.path_cond.proofs.edges.holds.Goals as goal

pub returns-in_default : goal.returns-in_default
returns-in_default c = mapped _ c.nowhere.result c.nowhere.ensures (λ cs h. lost_by (memory_of c.args.memory.now) (no_test_true c.args.content (memory_of c.args.memory.now) c.in_default.not-Test) c.requires h)

pub returns : goal.returns
returns c = held_true c.args.content c.in-Test.condition (memory_of c.args.memory.now) _ c.in-Test.is c.requires c.in_ok-value.ensures c.in_ok-push.ensures.ok
