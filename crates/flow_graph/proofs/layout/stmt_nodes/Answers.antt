use Rattle.std.proofs.Common.{◌∙◌, arith}
use Rattle.flow_graph.proofs.Kept.{stmt_is}
use Rattle.flow_graph.proofs.layout.stmt_nodes.Goals as goal

pub overflow_cast-result : goal.overflow_cast-result
overflow_cast-result c =
    let e = stmt_is c.args.scope.funcs.now c.args.scope.above.now c.args.scope.func c.args.stmt.now c.args.run c.requires.known c.requires.room in
    omega (arith, c.stmt_amount.ensures, e, c.requires.room)

pub returns : goal.returns
returns c =
    c.stmt_amount.ensures ∙ stmt_is c.args.scope.funcs.now c.args.scope.above.now c.args.scope.func c.args.stmt.now c.args.run c.requires.known c.requires.room
