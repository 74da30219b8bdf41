-- Worked programs that are well-formed, and statements that are not.
use Rattle.std.proofs.Common.{◌≡◌, ℕ, Bool, false, List, length, None, subst, arith, rules}
use Rattle.std.specs.Prelude.{slice_get}
use Rattle.c_tree.specs.declared.tree.Expr.{Expr}
use Rattle.c_tree.specs.declared.tree.Expr.TheBlock as eb
use Rattle.c_tree.specs.declared.tree.Target.{Target}
use Rattle.c_tree.specs.declared.tree.Stmt.{Stmt}
use Rattle.c_tree.specs.declared.tree.Stmt.TheVariants.{Break, Continue, Call, Do}
use Rattle.c_tree.specs.declared.tree.Stmt.TheBlock as sb
use denote.Hole.Carrier as carrier
use Rattle.c_tree.specs.Meaning.Spans as spans
use Rattle.c_tree.specs.Keeping.WellFormed as formed
use Rattle.c_tree.specs.Keeping.WellFormed.{Context, WellFormed, WellFormedCallee, WellFormedStmt}
use Rattle.c_tree.specs.Meaning.Worked.{counted_while, triangular_loops, clamp_filter}

pub counted_while_is : WellFormed counted_while
unfolding counted_while eb.shape-the_row-Expr-0 eb.hidden-the_row-Expr-0 sb.shape-the_row-Stmt-0 sb.hidden-the_row-Stmt-0 sb.shape-the_row-Stmt-1 sb.hidden-the_row-Stmt-1 carrier.hidden spans.span spans.row_span spans.held_span formed.WellFormedExpr formed.WellFormedPart formed.WellFormedStmt formed.WellFormedRow formed.WellFormedHeld formed.WellFormedSole
counted_while_is = search rules

pub triangular_loops_are : WellFormed triangular_loops
unfolding triangular_loops eb.shape-the_row-Expr-0 eb.hidden-the_row-Expr-0 sb.shape-the_row-Stmt-0 sb.hidden-the_row-Stmt-0 sb.shape-the_row-Stmt-1 sb.hidden-the_row-Stmt-1 carrier.hidden spans.span spans.row_span spans.held_span formed.WellFormedExpr formed.WellFormedPart formed.WellFormedStmt formed.WellFormedRow formed.WellFormedHeld formed.WellFormedSole
triangular_loops_are = search rules

pub clamp_filter_is : WellFormed clamp_filter
unfolding clamp_filter eb.shape-the_row-Expr-0 eb.hidden-the_row-Expr-0 sb.shape-the_row-Stmt-0 sb.hidden-the_row-Stmt-0 sb.shape-the_row-Stmt-1 sb.hidden-the_row-Stmt-1 carrier.hidden spans.span spans.row_span spans.held_span formed.WellFormedExpr formed.WellFormedPart formed.WellFormedStmt formed.WellFormedRow formed.WellFormedHeld formed.WellFormedSole
clamp_filter_is = search rules

pub stray_break : (c : Context) → ¬ WellFormedStmt c false Break
unfolding WellFormedStmt
stray_break c = λ w. absurd (cc)

pub stray_continue : (c : Context) → ¬ WellFormedStmt c false Continue
unfolding WellFormedStmt
stray_continue c = λ w. absurd (cc)

pub bound_of_zero : (c : Context) (looped : Bool) (xs : List Stmt) (e : Expr) → ¬ WellFormedStmt c looped (Do 0 xs e)
unfolding WellFormedStmt
bound_of_zero c looped xs e = λ w. absurd (omega (arith, w.0.0))

pub no_callee : (c : Context) (looped : Bool) (t : Target) (g : ℕ) (es : List Expr) → slice_get c.above g ≡ None → ¬ WellFormedStmt c looped (Call t g es)
unfolding WellFormedStmt
no_callee c looped t g es none = λ w. subst (λ o. WellFormedCallee o (length es) t) none w.1.0
