use Rattle.std.proofs.Common.{◌≡◌, ◌++◌, take, codes, flat_map}
use Rattle.print_laws.specs.PrintedExpressions.{expr_text}
use Rattle.c_print.proofs.exprs.push_more.Given as goal

abbrev pub invariant-loop-expr : goal.invariant-loop-expr
invariant-loop-expr l = l.text.items ≡ l.fn.text.items ++ flat_map (λ e. codes ", " ++ expr_text l.program l.func e) (take l.expr-index l.exprs)
