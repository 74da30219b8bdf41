use Rattle.std.proofs.Common.{◌≡◌, ◌-◌}
use Rattle.parse_laws.specs.Parser.{another, phrases, separated_on}
use Rattle.parse_laws.specs.ReadExpr.{expr_phrase}
use Rattle.c_parse.proofs.reader.Reader.expressions.Given as goal

abbrev pub invariant-loop-turn : goal.invariant-loop-turn
invariant-loop-turn l = separated_on another (expr_phrase l.room 0) (l._turn-end - l._turn) l.list l.self ≡ phrases another (expr_phrase l.room 0) l.fn.self
