use Rattle.std.proofs.Common.{arith, ap, length}
use Rattle.flow_laws.specs.Graphs.{graph}
use Rattle.flow_graph.proofs.Measured.{entered, limits, short}
use Rattle.flow_graph.proofs.graph.Plan.nodes.Goals as goal

pub overflow_cast-result : goal.overflow_cast-result
overflow_cast-result c =
    let p = c.self.inside.program in
    let l = limits (graph p) c.self.invariant.allowed in
    omega (arith, c.len.ensures, ap length c.self.invariant.nodes_are, short p (entered p c.self.invariant.formed.entry) l.edges)
