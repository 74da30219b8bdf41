use Rattle.std.proofs.Common.{arith}
use Rattle.flow_laws.specs.Graphs.{graph}
use Rattle.flow_graph.proofs.Measured.{limits}
use Rattle.flow_graph.proofs.graph.Plan.copies.Goals as goal

pub returns-clause-few : goal.returns-clause-few
returns-clause-few c =
    let l = limits (graph c.self.inside.program) c.self.invariant.allowed in
    omega (arith, c.self.invariant.copies_are, l.copies)
