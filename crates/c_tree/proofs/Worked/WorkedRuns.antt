-- Worked runs, computed.
use Rattle.std.proofs.Common.{◌≡◌, Some, [], ◌∷◌, pos, refl}
use Rattle.c_tree.specs.declared.tree.Expr.TheBlock as eb
use denote.Hole.Carrier as carrier
use Rattle.c_tree.specs.Meaning.Expressions as expressions
use Rattle.std.specs.Prelude.{neg_ℤ}
use Rattle.c_tree.specs.declared.tree.Stmt.TheBlock as sb
use Rattle.c_tree.specs.Meaning.Blocks as blocks
use Rattle.c_tree.specs.Meaning.Statements as statements
use Rattle.c_tree.specs.declared.tree.Ty.TheVariants as ty
use Rattle.c_tree.specs.declared.tree.BinOp.TheVariants as bin
use Rattle.c_tree.specs.declared.tree.Var.TheVariants.{Local}
use Rattle.c_tree.specs.declared.tree.Target.TheVariants as target
use Rattle.c_tree.specs.declared.tree.Stmt.TheVariants.{Call}
use Rattle.c_tree.specs.Meaning.Runs.{run, IsUndefined, IsOverBound}
use Rattle.c_tree.specs.Meaning.Worked.{num, ones, input, cost_at}
use Rattle.c_tree.specs.Meaning.Worked.{return_of_zero, two_thresholds, two_thresholds_costs, overflow_guard}
use Rattle.c_tree.specs.Meaning.Worked.{counted_while, counted_do, triangular_loops, triangular_loops_costs}
use Rattle.c_tree.specs.Meaning.Worked.{division_by_zero, op_program, guarded_division, masked_index}
use Rattle.c_tree.specs.Meaning.Worked.{missing_result, clamp_filter, clamp_filter_costs, samples}
use Rattle.c_tree.specs.Meaning.Worked.{one_or_x, own_initialiser, initialised_by_call}

-- ---- straight runs

pub straight_runs-return_of_zero : cost_at return_of_zero ones [] ≡ Some 1
unfolding return_of_zero two_thresholds overflow_guard counted_while counted_do triangular_loops division_by_zero op_program guarded_division masked_index missing_result clamp_filter own_initialiser initialised_by_call eb.shape-the_row-Expr-0 eb.hidden-the_row-Expr-0 sb.shape-the_row-Stmt-0 sb.hidden-the_row-Stmt-0 sb.shape-the_row-Stmt-1 sb.hidden-the_row-Stmt-1 carrier.hidden expressions.val expressions.row_val expressions.type_of expressions.row_type statements.exec statements.row_exec statements.held_exec blocks.blocks blocks.row_blocks blocks.held_blocks
straight_runs-return_of_zero = refl

pub straight_runs-between : cost_at two_thresholds two_thresholds_costs (pos 7 ∷ []) ≡ Some 4
unfolding return_of_zero two_thresholds overflow_guard counted_while counted_do triangular_loops division_by_zero op_program guarded_division masked_index missing_result clamp_filter own_initialiser initialised_by_call eb.shape-the_row-Expr-0 eb.hidden-the_row-Expr-0 sb.shape-the_row-Stmt-0 sb.hidden-the_row-Stmt-0 sb.shape-the_row-Stmt-1 sb.hidden-the_row-Stmt-1 carrier.hidden expressions.val expressions.row_val expressions.type_of expressions.row_type statements.exec statements.row_exec statements.held_exec blocks.blocks blocks.row_blocks blocks.held_blocks
straight_runs-between = refl

pub straight_runs-above : cost_at two_thresholds two_thresholds_costs (pos 11 ∷ []) ≡ Some 54
unfolding return_of_zero two_thresholds overflow_guard counted_while counted_do triangular_loops division_by_zero op_program guarded_division masked_index missing_result clamp_filter own_initialiser initialised_by_call eb.shape-the_row-Expr-0 eb.hidden-the_row-Expr-0 sb.shape-the_row-Stmt-0 sb.hidden-the_row-Stmt-0 sb.shape-the_row-Stmt-1 sb.hidden-the_row-Stmt-1 carrier.hidden expressions.val expressions.row_val expressions.type_of expressions.row_type statements.exec statements.row_exec statements.held_exec blocks.blocks blocks.row_blocks blocks.held_blocks
straight_runs-above = refl

pub straight_runs-below : cost_at two_thresholds two_thresholds_costs (pos 4 ∷ []) ≡ Some 44
unfolding return_of_zero two_thresholds overflow_guard counted_while counted_do triangular_loops division_by_zero op_program guarded_division masked_index missing_result clamp_filter own_initialiser initialised_by_call eb.shape-the_row-Expr-0 eb.hidden-the_row-Expr-0 sb.shape-the_row-Stmt-0 sb.hidden-the_row-Stmt-0 sb.shape-the_row-Stmt-1 sb.hidden-the_row-Stmt-1 carrier.hidden expressions.val expressions.row_val expressions.type_of expressions.row_type statements.exec statements.row_exec statements.held_exec blocks.blocks blocks.row_blocks blocks.held_blocks
straight_runs-below = refl

pub straight_runs-no_overflow : cost_at (overflow_guard ty.Int) ones (pos 5 ∷ []) ≡ Some 3
unfolding return_of_zero two_thresholds overflow_guard counted_while counted_do triangular_loops division_by_zero op_program guarded_division masked_index missing_result clamp_filter own_initialiser initialised_by_call eb.shape-the_row-Expr-0 eb.hidden-the_row-Expr-0 sb.shape-the_row-Stmt-0 sb.hidden-the_row-Stmt-0 sb.shape-the_row-Stmt-1 sb.hidden-the_row-Stmt-1 carrier.hidden expressions.val expressions.row_val expressions.type_of expressions.row_type statements.exec statements.row_exec statements.held_exec blocks.blocks blocks.row_blocks blocks.held_blocks
straight_runs-no_overflow = refl

pub straight_runs-overflows : run (overflow_guard ty.Int) (input (pos 2147483647 ∷ [])) ≡ IsUndefined
unfolding return_of_zero two_thresholds overflow_guard counted_while counted_do triangular_loops division_by_zero op_program guarded_division masked_index missing_result clamp_filter own_initialiser initialised_by_call eb.shape-the_row-Expr-0 eb.hidden-the_row-Expr-0 sb.shape-the_row-Stmt-0 sb.hidden-the_row-Stmt-0 sb.shape-the_row-Stmt-1 sb.hidden-the_row-Stmt-1 carrier.hidden expressions.val expressions.row_val expressions.type_of expressions.row_type statements.exec statements.row_exec statements.held_exec blocks.blocks blocks.row_blocks blocks.held_blocks
straight_runs-overflows = refl

pub straight_runs-wraps : cost_at (overflow_guard ty.Unsigned) ones (pos 4294967295 ∷ []) ≡ Some 4
unfolding return_of_zero two_thresholds overflow_guard counted_while counted_do triangular_loops division_by_zero op_program guarded_division masked_index missing_result clamp_filter own_initialiser initialised_by_call eb.shape-the_row-Expr-0 eb.hidden-the_row-Expr-0 sb.shape-the_row-Stmt-0 sb.hidden-the_row-Stmt-0 sb.shape-the_row-Stmt-1 sb.hidden-the_row-Stmt-1 carrier.hidden expressions.val expressions.row_val expressions.type_of expressions.row_type statements.exec statements.row_exec statements.held_exec blocks.blocks blocks.row_blocks blocks.held_blocks
straight_runs-wraps = refl

-- ---- loop runs

pub loop_runs-while_ten : cost_at counted_while ones (pos 10 ∷ []) ≡ Some 23
unfolding return_of_zero two_thresholds overflow_guard counted_while counted_do triangular_loops division_by_zero op_program guarded_division masked_index missing_result clamp_filter own_initialiser initialised_by_call eb.shape-the_row-Expr-0 eb.hidden-the_row-Expr-0 sb.shape-the_row-Stmt-0 sb.hidden-the_row-Stmt-0 sb.shape-the_row-Stmt-1 sb.hidden-the_row-Stmt-1 carrier.hidden expressions.val expressions.row_val expressions.type_of expressions.row_type statements.exec statements.row_exec statements.held_exec blocks.blocks blocks.row_blocks blocks.held_blocks
loop_runs-while_ten = refl

pub loop_runs-while_none : cost_at counted_while ones (neg_ℤ (pos 3) ∷ []) ≡ Some 3
unfolding return_of_zero two_thresholds overflow_guard counted_while counted_do triangular_loops division_by_zero op_program guarded_division masked_index missing_result clamp_filter own_initialiser initialised_by_call eb.shape-the_row-Expr-0 eb.hidden-the_row-Expr-0 sb.shape-the_row-Stmt-0 sb.hidden-the_row-Stmt-0 sb.shape-the_row-Stmt-1 sb.hidden-the_row-Stmt-1 carrier.hidden expressions.val expressions.row_val expressions.type_of expressions.row_type statements.exec statements.row_exec statements.held_exec blocks.blocks blocks.row_blocks blocks.held_blocks
loop_runs-while_none = refl

pub loop_runs-while_over : run counted_while (input (pos 11 ∷ [])) ≡ IsOverBound
unfolding return_of_zero two_thresholds overflow_guard counted_while counted_do triangular_loops division_by_zero op_program guarded_division masked_index missing_result clamp_filter own_initialiser initialised_by_call eb.shape-the_row-Expr-0 eb.hidden-the_row-Expr-0 sb.shape-the_row-Stmt-0 sb.hidden-the_row-Stmt-0 sb.shape-the_row-Stmt-1 sb.hidden-the_row-Stmt-1 carrier.hidden expressions.val expressions.row_val expressions.type_of expressions.row_type statements.exec statements.row_exec statements.held_exec blocks.blocks blocks.row_blocks blocks.held_blocks
loop_runs-while_over = refl

pub loop_runs-do_three : cost_at counted_do ones (pos 3 ∷ []) ≡ Some 8
unfolding return_of_zero two_thresholds overflow_guard counted_while counted_do triangular_loops division_by_zero op_program guarded_division masked_index missing_result clamp_filter own_initialiser initialised_by_call eb.shape-the_row-Expr-0 eb.hidden-the_row-Expr-0 sb.shape-the_row-Stmt-0 sb.hidden-the_row-Stmt-0 sb.shape-the_row-Stmt-1 sb.hidden-the_row-Stmt-1 carrier.hidden expressions.val expressions.row_val expressions.type_of expressions.row_type statements.exec statements.row_exec statements.held_exec blocks.blocks blocks.row_blocks blocks.held_blocks
loop_runs-do_three = refl

pub loop_runs-do_once : cost_at counted_do ones (neg_ℤ (pos 3) ∷ []) ≡ Some 4
unfolding return_of_zero two_thresholds overflow_guard counted_while counted_do triangular_loops division_by_zero op_program guarded_division masked_index missing_result clamp_filter own_initialiser initialised_by_call eb.shape-the_row-Expr-0 eb.hidden-the_row-Expr-0 sb.shape-the_row-Stmt-0 sb.hidden-the_row-Stmt-0 sb.shape-the_row-Stmt-1 sb.hidden-the_row-Stmt-1 carrier.hidden expressions.val expressions.row_val expressions.type_of expressions.row_type statements.exec statements.row_exec statements.held_exec blocks.blocks blocks.row_blocks blocks.held_blocks
loop_runs-do_once = refl

pub loop_runs-do_over : run counted_do (input (pos 4 ∷ [])) ≡ IsOverBound
unfolding return_of_zero two_thresholds overflow_guard counted_while counted_do triangular_loops division_by_zero op_program guarded_division masked_index missing_result clamp_filter own_initialiser initialised_by_call eb.shape-the_row-Expr-0 eb.hidden-the_row-Expr-0 sb.shape-the_row-Stmt-0 sb.hidden-the_row-Stmt-0 sb.shape-the_row-Stmt-1 sb.hidden-the_row-Stmt-1 carrier.hidden expressions.val expressions.row_val expressions.type_of expressions.row_type statements.exec statements.row_exec statements.held_exec blocks.blocks blocks.row_blocks blocks.held_blocks
loop_runs-do_over = refl

pub loop_runs-triangle : cost_at triangular_loops triangular_loops_costs [] ≡ Some 60
unfolding return_of_zero two_thresholds overflow_guard counted_while counted_do triangular_loops division_by_zero op_program guarded_division masked_index missing_result clamp_filter own_initialiser initialised_by_call eb.shape-the_row-Expr-0 eb.hidden-the_row-Expr-0 sb.shape-the_row-Stmt-0 sb.hidden-the_row-Stmt-0 sb.shape-the_row-Stmt-1 sb.hidden-the_row-Stmt-1 carrier.hidden expressions.val expressions.row_val expressions.type_of expressions.row_type statements.exec statements.row_exec statements.held_exec blocks.blocks blocks.row_blocks blocks.held_blocks
loop_runs-triangle = refl

-- ---- undefined runs

pub undefined_runs-by_zero : run division_by_zero (input (pos 1 ∷ [])) ≡ IsUndefined
unfolding return_of_zero two_thresholds overflow_guard counted_while counted_do triangular_loops division_by_zero op_program guarded_division masked_index missing_result clamp_filter own_initialiser initialised_by_call eb.shape-the_row-Expr-0 eb.hidden-the_row-Expr-0 sb.shape-the_row-Stmt-0 sb.hidden-the_row-Stmt-0 sb.shape-the_row-Stmt-1 sb.hidden-the_row-Stmt-1 carrier.hidden expressions.val expressions.row_val expressions.type_of expressions.row_type statements.exec statements.row_exec statements.held_exec blocks.blocks blocks.row_blocks blocks.held_blocks
undefined_runs-by_zero = refl

pub undefined_runs-least : run (op_program bin.Div) (input (neg_ℤ (pos 2147483648) ∷ neg_ℤ (pos 1) ∷ [])) ≡ IsUndefined
unfolding return_of_zero two_thresholds overflow_guard counted_while counted_do triangular_loops division_by_zero op_program guarded_division masked_index missing_result clamp_filter own_initialiser initialised_by_call eb.shape-the_row-Expr-0 eb.hidden-the_row-Expr-0 sb.shape-the_row-Stmt-0 sb.hidden-the_row-Stmt-0 sb.shape-the_row-Stmt-1 sb.hidden-the_row-Stmt-1 carrier.hidden expressions.val expressions.row_val expressions.type_of expressions.row_type statements.exec statements.row_exec statements.held_exec blocks.blocks blocks.row_blocks blocks.held_blocks
undefined_runs-least = refl

pub undefined_runs-least_rest : run (op_program bin.Rem) (input (neg_ℤ (pos 2147483648) ∷ neg_ℤ (pos 1) ∷ [])) ≡ IsUndefined
unfolding return_of_zero two_thresholds overflow_guard counted_while counted_do triangular_loops division_by_zero op_program guarded_division masked_index missing_result clamp_filter own_initialiser initialised_by_call eb.shape-the_row-Expr-0 eb.hidden-the_row-Expr-0 sb.shape-the_row-Stmt-0 sb.hidden-the_row-Stmt-0 sb.shape-the_row-Stmt-1 sb.hidden-the_row-Stmt-1 carrier.hidden expressions.val expressions.row_val expressions.type_of expressions.row_type statements.exec statements.row_exec statements.held_exec blocks.blocks blocks.row_blocks blocks.held_blocks
undefined_runs-least_rest = refl

pub undefined_runs-guarded : cost_at guarded_division ones (pos 0 ∷ []) ≡ Some 3
unfolding return_of_zero two_thresholds overflow_guard counted_while counted_do triangular_loops division_by_zero op_program guarded_division masked_index missing_result clamp_filter own_initialiser initialised_by_call eb.shape-the_row-Expr-0 eb.hidden-the_row-Expr-0 sb.shape-the_row-Stmt-0 sb.hidden-the_row-Stmt-0 sb.shape-the_row-Stmt-1 sb.hidden-the_row-Stmt-1 carrier.hidden expressions.val expressions.row_val expressions.type_of expressions.row_type statements.exec statements.row_exec statements.held_exec blocks.blocks blocks.row_blocks blocks.held_blocks
undefined_runs-guarded = refl

pub undefined_runs-guard_holds : cost_at guarded_division ones (pos 3 ∷ []) ≡ Some 4
unfolding return_of_zero two_thresholds overflow_guard counted_while counted_do triangular_loops division_by_zero op_program guarded_division masked_index missing_result clamp_filter own_initialiser initialised_by_call eb.shape-the_row-Expr-0 eb.hidden-the_row-Expr-0 sb.shape-the_row-Stmt-0 sb.hidden-the_row-Stmt-0 sb.shape-the_row-Stmt-1 sb.hidden-the_row-Stmt-1 carrier.hidden expressions.val expressions.row_val expressions.type_of expressions.row_type statements.exec statements.row_exec statements.held_exec blocks.blocks blocks.row_blocks blocks.held_blocks
undefined_runs-guard_holds = refl

pub undefined_runs-outside : run masked_index (input (pos 4 ∷ pos 0 ∷ pos 0 ∷ pos 0 ∷ pos 0 ∷ [])) ≡ IsUndefined
unfolding return_of_zero two_thresholds overflow_guard counted_while counted_do triangular_loops division_by_zero op_program guarded_division masked_index missing_result clamp_filter own_initialiser initialised_by_call eb.shape-the_row-Expr-0 eb.hidden-the_row-Expr-0 sb.shape-the_row-Stmt-0 sb.hidden-the_row-Stmt-0 sb.shape-the_row-Stmt-1 sb.hidden-the_row-Stmt-1 carrier.hidden expressions.val expressions.row_val expressions.type_of expressions.row_type statements.exec statements.row_exec statements.held_exec blocks.blocks blocks.row_blocks blocks.held_blocks
undefined_runs-outside = refl

pub undefined_runs-inside : cost_at masked_index ones (pos 3 ∷ pos 0 ∷ pos 0 ∷ pos 0 ∷ pos 0 ∷ []) ≡ Some 1
unfolding return_of_zero two_thresholds overflow_guard counted_while counted_do triangular_loops division_by_zero op_program guarded_division masked_index missing_result clamp_filter own_initialiser initialised_by_call eb.shape-the_row-Expr-0 eb.hidden-the_row-Expr-0 sb.shape-the_row-Stmt-0 sb.hidden-the_row-Stmt-0 sb.shape-the_row-Stmt-1 sb.hidden-the_row-Stmt-1 carrier.hidden expressions.val expressions.row_val expressions.type_of expressions.row_type statements.exec statements.row_exec statements.held_exec blocks.blocks blocks.row_blocks blocks.held_blocks
undefined_runs-inside = refl

-- ---- call runs

pub call_runs-missing : run (missing_result (Call (target.Assign (Local 0)) 0 [])) (input []) ≡ IsUndefined
unfolding return_of_zero two_thresholds overflow_guard counted_while counted_do triangular_loops division_by_zero op_program guarded_division masked_index missing_result clamp_filter own_initialiser initialised_by_call eb.shape-the_row-Expr-0 eb.hidden-the_row-Expr-0 sb.shape-the_row-Stmt-0 sb.hidden-the_row-Stmt-0 sb.shape-the_row-Stmt-1 sb.hidden-the_row-Stmt-1 carrier.hidden expressions.val expressions.row_val expressions.type_of expressions.row_type statements.exec statements.row_exec statements.held_exec blocks.blocks blocks.row_blocks blocks.held_blocks
call_runs-missing = refl

pub call_runs-not_used : cost_at (missing_result (Call target.Nothing 0 [])) ones [] ≡ Some 3
unfolding return_of_zero two_thresholds overflow_guard counted_while counted_do triangular_loops division_by_zero op_program guarded_division masked_index missing_result clamp_filter own_initialiser initialised_by_call eb.shape-the_row-Expr-0 eb.hidden-the_row-Expr-0 sb.shape-the_row-Stmt-0 sb.hidden-the_row-Stmt-0 sb.shape-the_row-Stmt-1 sb.hidden-the_row-Stmt-1 carrier.hidden expressions.val expressions.row_val expressions.type_of expressions.row_type statements.exec statements.row_exec statements.held_exec blocks.blocks blocks.row_blocks blocks.held_blocks
call_runs-not_used = refl

pub call_runs-filter : cost_at clamp_filter clamp_filter_costs (samples 200 2) ≡ Some 164
unfolding return_of_zero two_thresholds overflow_guard counted_while counted_do triangular_loops division_by_zero op_program guarded_division masked_index missing_result clamp_filter own_initialiser initialised_by_call eb.shape-the_row-Expr-0 eb.hidden-the_row-Expr-0 sb.shape-the_row-Stmt-0 sb.hidden-the_row-Stmt-0 sb.shape-the_row-Stmt-1 sb.hidden-the_row-Stmt-1 carrier.hidden expressions.val expressions.row_val expressions.type_of expressions.row_type statements.exec statements.row_exec statements.held_exec blocks.blocks blocks.row_blocks blocks.held_blocks
call_runs-filter = refl

-- ---- own initialisers

pub own_initialisers-no_turn : cost_at own_initialiser ones (pos 0 ∷ []) ≡ Some 2
unfolding return_of_zero two_thresholds overflow_guard counted_while counted_do triangular_loops division_by_zero op_program guarded_division masked_index missing_result clamp_filter own_initialiser initialised_by_call eb.shape-the_row-Expr-0 eb.hidden-the_row-Expr-0 sb.shape-the_row-Stmt-0 sb.hidden-the_row-Stmt-0 sb.shape-the_row-Stmt-1 sb.hidden-the_row-Stmt-1 carrier.hidden expressions.val expressions.row_val expressions.type_of expressions.row_type statements.exec statements.row_exec statements.held_exec blocks.blocks blocks.row_blocks blocks.held_blocks
own_initialisers-no_turn = refl

pub own_initialisers-first_turn : run own_initialiser (input (pos 1 ∷ [])) ≡ IsUndefined
unfolding return_of_zero two_thresholds overflow_guard counted_while counted_do triangular_loops division_by_zero op_program guarded_division masked_index missing_result clamp_filter own_initialiser initialised_by_call eb.shape-the_row-Expr-0 eb.hidden-the_row-Expr-0 sb.shape-the_row-Stmt-0 sb.hidden-the_row-Stmt-0 sb.shape-the_row-Stmt-1 sb.hidden-the_row-Stmt-1 carrier.hidden expressions.val expressions.row_val expressions.type_of expressions.row_type statements.exec statements.row_exec statements.held_exec blocks.blocks blocks.row_blocks blocks.held_blocks
own_initialisers-first_turn = refl

pub own_initialisers-second_turn : run own_initialiser (input (pos 2 ∷ [])) ≡ IsUndefined
unfolding return_of_zero two_thresholds overflow_guard counted_while counted_do triangular_loops division_by_zero op_program guarded_division masked_index missing_result clamp_filter own_initialiser initialised_by_call eb.shape-the_row-Expr-0 eb.hidden-the_row-Expr-0 sb.shape-the_row-Stmt-0 sb.hidden-the_row-Stmt-0 sb.shape-the_row-Stmt-1 sb.hidden-the_row-Stmt-1 carrier.hidden expressions.val expressions.row_val expressions.type_of expressions.row_type statements.exec statements.row_exec statements.held_exec blocks.blocks blocks.row_blocks blocks.held_blocks
own_initialisers-second_turn = refl

pub own_initialisers-argument : run (initialised_by_call one_or_x) (input (pos 1 ∷ [])) ≡ IsUndefined
unfolding return_of_zero two_thresholds overflow_guard counted_while counted_do triangular_loops division_by_zero op_program guarded_division masked_index missing_result clamp_filter own_initialiser initialised_by_call eb.shape-the_row-Expr-0 eb.hidden-the_row-Expr-0 sb.shape-the_row-Stmt-0 sb.hidden-the_row-Stmt-0 sb.shape-the_row-Stmt-1 sb.hidden-the_row-Stmt-1 carrier.hidden expressions.val expressions.row_val expressions.type_of expressions.row_type statements.exec statements.row_exec statements.held_exec blocks.blocks blocks.row_blocks blocks.held_blocks
own_initialisers-argument = refl

pub own_initialisers-argument_again : run (initialised_by_call one_or_x) (input (pos 2 ∷ [])) ≡ IsUndefined
unfolding return_of_zero two_thresholds overflow_guard counted_while counted_do triangular_loops division_by_zero op_program guarded_division masked_index missing_result clamp_filter own_initialiser initialised_by_call eb.shape-the_row-Expr-0 eb.hidden-the_row-Expr-0 sb.shape-the_row-Stmt-0 sb.hidden-the_row-Stmt-0 sb.shape-the_row-Stmt-1 sb.hidden-the_row-Stmt-1 carrier.hidden expressions.val expressions.row_val expressions.type_of expressions.row_type statements.exec statements.row_exec statements.held_exec blocks.blocks blocks.row_blocks blocks.held_blocks
own_initialisers-argument_again = refl

pub own_initialisers-other_argument : cost_at (initialised_by_call (num 5)) ones (pos 2 ∷ []) ≡ Some 10
unfolding return_of_zero two_thresholds overflow_guard counted_while counted_do triangular_loops division_by_zero op_program guarded_division masked_index missing_result clamp_filter own_initialiser initialised_by_call eb.shape-the_row-Expr-0 eb.hidden-the_row-Expr-0 sb.shape-the_row-Stmt-0 sb.hidden-the_row-Stmt-0 sb.shape-the_row-Stmt-1 sb.hidden-the_row-Stmt-1 carrier.hidden expressions.val expressions.row_val expressions.type_of expressions.row_type statements.exec statements.row_exec statements.held_exec blocks.blocks blocks.row_blocks blocks.held_blocks
own_initialisers-other_argument = refl
