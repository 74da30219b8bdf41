use Rattle.std.proofs.Common.{◌≡◌, ◌-◌, ◌≤◌, ◌+◌, ◌*◌}
use Rattle.parse_laws.specs.ReadExpr as spec
use Rattle.c_parse.proofs.reader.Reader.+expr.Given as goal

abbrev pub decreases-expr : goal.decreases-expr
decreases-expr l = 8 * l.room

abbrev pub decreases-climb : goal.decreases-climb
decreases-climb l = 8 * l.room - 1

abbrev pub decreases-operation : goal.decreases-operation
decreases-operation l = 8 * l.room + 1

abbrev pub decreases-conditional : goal.decreases-conditional
decreases-conditional l = 8 * l.room + 3

abbrev pub decreases-choices : goal.decreases-choices
decreases-choices l = 8 * l.room + 2

abbrev pub decreases-expr_before : goal.decreases-expr_before
decreases-expr_before l = 8 * l.room + 1

abbrev pub decreases-unary : goal.decreases-unary
decreases-unary l = 8 * l.room + 1

abbrev pub decreases-index : goal.decreases-index
decreases-index l = 8 * l.room + 2

abbrev pub decreases-cast : goal.decreases-cast
decreases-cast l = 8 * l.room + 1

abbrev pub decreases-paren : goal.decreases-paren
decreases-paren l = 8 * l.room + 2

abbrev pub decreases-variable : goal.decreases-variable
decreases-variable l = 8 * l.room + 3

abbrev pub decreases-parenthesised : goal.decreases-parenthesised
decreases-parenthesised l = 8 * l.room + 3

abbrev pub decreases-operand : goal.decreases-operand
decreases-operand l = 8 * l.room + 4

abbrev pub invariant-climb-loop-turn : goal.invariant-climb-loop-turn
invariant-climb-loop-turn l = record {
  same : spec.climb (spec.expr_phrase (l.room - 1)) l.room (l.room - l._turn) l.least l.left.expr l.self
      ≡ spec.climb (spec.expr_phrase (l.room - 1)) l.room l.room l.least l.fn.first.expr l.fn.self;
  low : l.left.height ≤ l.room;
}
