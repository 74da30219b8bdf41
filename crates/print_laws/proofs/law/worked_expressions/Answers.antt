use Rattle.std.proofs.Common.{refl}
use Rattle.std.specs.Fmt as fmt
use Rattle.c_tree.specs.declared.tree.Expr.TheBlock as eb
use denote.Hole.Carrier as carrier
use Rattle.print_laws.specs.PrintedExpressions as e
use Rattle.print_laws.proofs.law.worked_expressions.Goals as goal

pub returns-clause-left : goal.returns-clause-left
unfolding fmt.digits eb.shape-the_row-Expr-0 eb.hidden-the_row-Expr-0 carrier.hidden e.expr_text e.row_text e.name_text e.type_text e.un_text e.bin_text e.number_text
returns-clause-left c = refl

pub returns-clause-right : goal.returns-clause-right
unfolding fmt.digits eb.shape-the_row-Expr-0 eb.hidden-the_row-Expr-0 carrier.hidden e.expr_text e.row_text e.name_text e.type_text e.un_text e.bin_text e.number_text
returns-clause-right c = refl

pub returns-clause-looser : goal.returns-clause-looser
unfolding fmt.digits eb.shape-the_row-Expr-0 eb.hidden-the_row-Expr-0 carrier.hidden e.expr_text e.row_text e.name_text e.type_text e.un_text e.bin_text e.number_text
returns-clause-looser c = refl

pub returns-clause-tighter : goal.returns-clause-tighter
unfolding fmt.digits eb.shape-the_row-Expr-0 eb.hidden-the_row-Expr-0 carrier.hidden e.expr_text e.row_text e.name_text e.type_text e.un_text e.bin_text e.number_text
returns-clause-tighter c = refl

pub returns-clause-minus : goal.returns-clause-minus
unfolding fmt.digits eb.shape-the_row-Expr-0 eb.hidden-the_row-Expr-0 carrier.hidden e.expr_text e.row_text e.name_text e.type_text e.un_text e.bin_text e.number_text
returns-clause-minus c = refl

pub returns-clause-other : goal.returns-clause-other
unfolding fmt.digits eb.shape-the_row-Expr-0 eb.hidden-the_row-Expr-0 carrier.hidden e.expr_text e.row_text e.name_text e.type_text e.un_text e.bin_text e.number_text
returns-clause-other c = refl

pub returns-clause-subtracted : goal.returns-clause-subtracted
unfolding fmt.digits eb.shape-the_row-Expr-0 eb.hidden-the_row-Expr-0 carrier.hidden e.expr_text e.row_text e.name_text e.type_text e.un_text e.bin_text e.number_text
returns-clause-subtracted c = refl

pub returns-clause-cast : goal.returns-clause-cast
unfolding fmt.digits eb.shape-the_row-Expr-0 eb.hidden-the_row-Expr-0 carrier.hidden e.expr_text e.row_text e.name_text e.type_text e.un_text e.bin_text e.number_text
returns-clause-cast c = refl

pub returns-clause-twice : goal.returns-clause-twice
unfolding fmt.digits eb.shape-the_row-Expr-0 eb.hidden-the_row-Expr-0 carrier.hidden e.expr_text e.row_text e.name_text e.type_text e.un_text e.bin_text e.number_text
returns-clause-twice c = refl

pub returns-clause-sum : goal.returns-clause-sum
unfolding fmt.digits eb.shape-the_row-Expr-0 eb.hidden-the_row-Expr-0 carrier.hidden e.expr_text e.row_text e.name_text e.type_text e.un_text e.bin_text e.number_text
returns-clause-sum c = refl

pub returns-clause-chain : goal.returns-clause-chain
unfolding fmt.digits eb.shape-the_row-Expr-0 eb.hidden-the_row-Expr-0 carrier.hidden e.expr_text e.row_text e.name_text e.type_text e.un_text e.bin_text e.number_text
returns-clause-chain c = refl

pub returns-clause-middle : goal.returns-clause-middle
unfolding fmt.digits eb.shape-the_row-Expr-0 eb.hidden-the_row-Expr-0 carrier.hidden e.expr_text e.row_text e.name_text e.type_text e.un_text e.bin_text e.number_text
returns-clause-middle c = refl

pub returns-clause-condition : goal.returns-clause-condition
unfolding fmt.digits eb.shape-the_row-Expr-0 eb.hidden-the_row-Expr-0 carrier.hidden e.expr_text e.row_text e.name_text e.type_text e.un_text e.bin_text e.number_text
returns-clause-condition c = refl

pub returns-clause-suffix : goal.returns-clause-suffix
unfolding fmt.digits eb.shape-the_row-Expr-0 eb.hidden-the_row-Expr-0 carrier.hidden e.expr_text e.row_text e.name_text e.type_text e.un_text e.bin_text e.number_text
returns-clause-suffix c = refl
