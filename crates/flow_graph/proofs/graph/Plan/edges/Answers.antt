use Rattle.std.proofs.Common.{arith, ap, length}
use Rattle.flow_laws.specs.Graphs.{graph}
use Rattle.flow_graph.proofs.Measured.{limits}
use Rattle.flow_graph.proofs.graph.Plan.edges.Goals as goal

pub overflow_cast-result : goal.overflow_cast-result
overflow_cast-result c =
    let l = limits (graph c.self.inside.program) c.self.invariant.allowed in
    omega (arith, c.len.ensures, ap length c.self.invariant.edges_are, l.edges)

pub returns-clause-few : goal.returns-clause-few
returns-clause-few c =
    let l = limits (graph c.self.inside.program) c.self.invariant.allowed in
    omega (arith, c.len.ensures, ap length c.self.invariant.edges_are, l.edges)
