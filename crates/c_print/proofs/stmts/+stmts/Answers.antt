use Rattle.std.proofs.Common.{rules}
use Rattle.print_laws.proofs.Composing.StmtLayers.{for-written}
use Rattle.c_print.proofs.stmts.+stmts.Goals as goal

pub push_stmt-returns-in_ok-push_block-in-For : goal.push_stmt-returns-in_ok-push_block-in-For
push_stmt-returns-in_ok-push_block-in-For t c =
    search (rules, for-written c.args.text.now.items c.push_bound-in-For.new.text.items c.push_for.new.text.items c.push_block-in-For.new.text.items c.push_line-in-For.new.text.items c.args.program.now c.args.func.now c.args.level c.in-For.bound c.in-For.first c.in-For.step c.in-For.condition c.in-For.body c.args.stmt.now c.in-For.is)
