use Rattle.std.proofs.Common.{◌≤◌, ◌<◌, length, sym, ap, arith}
use Rattle.flow_laws.specs.Graphs.{graph, edges}
use Rattle.flow_laws.specs.Paths.{edge_count}
use Rattle.race_item.specs.Trials.{is_within}
use Rattle.race_item.proofs.Boxes.{count_there, no_count_at}
use Rattle.race_item.proofs.Trials.{within_low, below_low}
use Rattle.race_item.proofs.path.keeps_cut.Goals as goal

pub returns-then-from-edges : goal.returns-then-from-edges
returns-then-from-edges c =
    let past : length (edges (graph c.args.plan.now.program)) ≤ c.args.cut.edge = omega (arith, c.if-from-edges.true, c.edges.ensures.count, c.from.ensures) in
    sym (ap (is_within c.args.cut) (no_count_at c.args.plan.now.program c.args.list.now c.args.cut.edge past))

pub returns-then-cut-times : goal.returns-then-cut-times
returns-then-cut-times c =
    let there : c.args.cut.edge < length (edges (graph c.args.plan.now.program)) = omega (arith, c.if-from-edges.false, c.edges.ensures.count, c.from.ensures) in
    within_low c.args.cut c.count-times.result (edge_count c.args.list.now c.args.cut.edge) c.count-times.ensures (count_there c.args.plan.now.program c.args.list.now c.args.cut.edge there) c.if-cut-times.true

pub returns-else-cut-times : goal.returns-else-cut-times
returns-else-cut-times c =
    let there : c.args.cut.edge < length (edges (graph c.args.plan.now.program)) = omega (arith, c.if-from-edges.false, c.edges.ensures.count, c.from.ensures) in
    below_low c.args.cut c.count-times.result (edge_count c.args.list.now c.args.cut.edge) c.count-times.ensures (count_there c.args.plan.now.program c.args.list.now c.args.cut.edge there) c.if-cut-times.false
