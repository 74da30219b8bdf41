use Rattle.std.proofs.Common.{◌∙◌, arith}
use Rattle.flow_graph.proofs.Kept.{list_is}
use Rattle.flow_graph.proofs.layout.list_nodes.Goals as goal

pub overflow_cast-result : goal.overflow_cast-result
overflow_cast-result c =
    let e = list_is c.args.scope.funcs.now c.args.scope.above.now c.args.scope.func c.args.list.now c.requires.known c.requires.room in
    omega (arith, c.list_amount.ensures, e, c.requires.room)

pub returns : goal.returns
returns c =
    c.list_amount.ensures ∙ list_is c.args.scope.funcs.now c.args.scope.above.now c.args.scope.func c.args.list.now c.requires.known c.requires.room
