use Rattle.flow_graph.proofs.Layouts.Laid.{laid_one}
use Rattle.flow_graph.proofs.layout.put.Goals as goal

pub returns-clause-items : goal.returns-clause-items
returns-clause-items c =
    laid_one _ c.args.out.now c.push.new.self c.in_ok-spot.spot _ c.in_ok-push.ensures.ok c.in_ok-spot.ensures
