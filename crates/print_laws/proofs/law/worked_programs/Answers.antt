use Rattle.std.proofs.Common.{refl}
use Rattle.std.specs.Fmt as fmt
use Rattle.c_tree.specs.declared.tree.Expr.TheBlock as eb
use Rattle.c_tree.specs.declared.tree.Stmt.TheBlock as sb
use denote.Hole.Carrier as carrier
use Rattle.print_laws.specs.PrintedExpressions as e
use Rattle.print_laws.specs.PrintedStatements as s
use Rattle.print_laws.specs.Printed as p
use Rattle.print_laws.specs.Worked as w
use Rattle.print_laws.proofs.law.worked_programs.Goals as goal

pub returns-clause-zero : goal.returns-clause-zero
unfolding fmt.digits w.named_return_of_zero w.each_global w.note w.worked_pick w.each_statement w.each_construct eb.shape-the_row-Expr-0 eb.hidden-the_row-Expr-0 sb.shape-the_row-Stmt-0 sb.hidden-the_row-Stmt-0 sb.shape-the_row-Stmt-1 sb.hidden-the_row-Stmt-1 carrier.hidden e.expr_text e.row_text e.name_text e.type_text e.un_text e.bin_text e.number_text e.value_text e.comma_list s.margin s.line s.length_text s.declared_text s.local_text s.declaration_text s.list_text s.value_part s.place_text s.assign_text s.target_text s.func_name s.called_text s.return_text s.simple_text s.bound_text s.for_text s.stmt_text s.row_lines s.else_text s.held_text s.sole_text p.outer_text p.initial_text p.global_text p.result_text p.param_text p.params_text p.head_text p.func_text p.printed_program
returns-clause-zero c = refl

pub returns-clause-each : goal.returns-clause-each
unfolding fmt.digits w.named_return_of_zero w.each_global w.note w.worked_pick w.each_statement w.each_construct eb.shape-the_row-Expr-0 eb.hidden-the_row-Expr-0 sb.shape-the_row-Stmt-0 sb.hidden-the_row-Stmt-0 sb.shape-the_row-Stmt-1 sb.hidden-the_row-Stmt-1 carrier.hidden e.expr_text e.row_text e.name_text e.type_text e.un_text e.bin_text e.number_text e.value_text e.comma_list s.margin s.line s.length_text s.declared_text s.local_text s.declaration_text s.list_text s.value_part s.place_text s.assign_text s.target_text s.func_name s.called_text s.return_text s.simple_text s.bound_text s.for_text s.stmt_text s.row_lines s.else_text s.held_text s.sole_text p.outer_text p.initial_text p.global_text p.result_text p.param_text p.params_text p.head_text p.func_text p.printed_program
returns-clause-each c = refl
