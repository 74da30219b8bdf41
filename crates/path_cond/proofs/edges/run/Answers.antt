use Rattle.std.proofs.Common.{ap}
use Rattle.flow_laws.specs.declared.graph.Way.TheVariants.{Next}
use Rattle.cond_laws.specs.TermPaths as spec
use Rattle.node_contents.specs.declared.block.Content.{Content}
use Rattle.node_contents.specs.Contents.{content_of}
use Rattle.term_steps.proofs.ExpressionRuns.{mapped}
use Rattle.path_cond.specs.Memories.{memory_of}
use Rattle.path_cond.proofs.CallRuns.{lost_by}
use Rattle.path_cond.proofs.EdgeRuns.{simple_run}
use Rattle.path_cond.proofs.edges.run.Goals as goal

pub returns-in-Simple : goal.returns-in-Simple
returns-in-Simple c = mapped _ c.all_simple.result c.all_simple.ensures (λ cs h. simple_run c.args.content c.in-Simple.statements (memory_of c.args.memory.now) c.in-Simple.is c.requires.there h)

pub returns-in-Exit : goal.returns-in-Exit
returns-in-Exit c = mapped _ c.nowhere.result c.nowhere.ensures (λ cs h. lost_by (memory_of c.args.memory.now) (ap (λ (k : Content). spec.content_effect (content_of k) Next (memory_of c.args.memory.now)) c.in-Exit.is) c.requires.there h)

pub returns-in-Test : goal.returns-in-Test
returns-in-Test c = mapped _ c.nowhere-in-Test.result c.nowhere-in-Test.ensures (λ cs h. lost_by (memory_of c.args.memory.now) (ap (λ (k : Content). spec.content_effect (content_of k) Next (memory_of c.args.memory.now)) c.in-Test.is) c.requires.there h)

pub returns-in-Missing : goal.returns-in-Missing
returns-in-Missing c = mapped _ c.nowhere-in-Missing.result c.nowhere-in-Missing.ensures (λ cs h. lost_by (memory_of c.args.memory.now) (ap (λ (k : Content). spec.content_effect (content_of k) Next (memory_of c.args.memory.now)) c.in-Missing.is) c.requires.there h)
