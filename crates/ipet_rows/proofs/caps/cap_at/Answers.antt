use Rattle.std.proofs.Common.{◌∙◌, ap, sym}
use Rattle.flow_laws.specs.Graphs.{graph}
use Rattle.flow_laws.proofs.Graphs.EndsLead.{edges_join}
use Rattle.ipet_rows.specs.CapsBound.{cap_at}
use Rattle.ipet_rows.proofs.Listed.{cap_is}
use Rattle.ipet_rows.proofs.caps.cap_at.Goals as goal

pub node-requires : goal.node-requires
node-requires c = (edges_join c.args.plan.now.program c.requires.formed c.args.e c.edge.result.now c.edge.ensures).from

pub returns-clause-value : goal.returns-clause-value
returns-clause-value c =
    let g = graph c.args.plan.now.program in
    sym (ap (cap_at g) c.edge.ensures ∙ cap_is g c.edge.result.now.from c.node.result.now c.node.ensures.value)
