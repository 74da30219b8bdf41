use Rattle.std.proofs.Common.{◌+◌, ◌*◌}
use Rattle.std.specs.Prelude.{max}
use Rattle.c_tree.specs.declared.unit.RawExpr.{size-RawExpr}
use Rattle.c_resolve.proofs.expr.+exprs.Given as goal

-- an expression, below what holds it, below what has several

abbrev pub decreases-expr : goal.decreases-expr
decreases-expr l = 3 * size-RawExpr l.e.now

abbrev pub decreases-boxed : goal.decreases-boxed
decreases-boxed l = 3 * size-RawExpr l.e.now + 1

abbrev pub decreases-element : goal.decreases-element
decreases-element l = 3 * size-RawExpr l.i.now + 2

abbrev pub decreases-binary : goal.decreases-binary
decreases-binary l = 3 * max (size-RawExpr l.a.now) (size-RawExpr l.b.now) + 2

abbrev pub decreases-choice : goal.decreases-choice
decreases-choice l = 3 * max (size-RawExpr l.c.now) (max (size-RawExpr l.a.now) (size-RawExpr l.b.now)) + 2
