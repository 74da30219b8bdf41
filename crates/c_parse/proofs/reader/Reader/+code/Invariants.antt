use Rattle.std.proofs.Common.{◌≡◌, ◌-◌, ◌+◌, ◌*◌}
use Rattle.parse_laws.specs.Parser.{sees}
use Rattle.parse_laws.specs.ReadStmt as spec
use Rattle.c_tree.specs.declared.symbol.Symbol.TheVariants as s
use Rattle.c_tree.specs.Grammar.SpelledStatements.{Item}
use Rattle.c_parse.proofs.reader.Reader.+code.Given as goal

abbrev pub decreases-plain : goal.decreases-plain
decreases-plain l = 12 * l.room + 1

abbrev pub decreases-item : goal.decreases-item
decreases-item l = 12 * l.room + 2

abbrev pub decreases-block : goal.decreases-block
decreases-block l = 12 * l.room + 3

abbrev pub decreases-body : goal.decreases-body
decreases-body l = 12 * l.room + 4

abbrev pub decreases-other : goal.decreases-other
decreases-other l = 12 * l.room + 5

abbrev pub decreases-choice : goal.decreases-choice
decreases-choice l = 12 * l.room + 6

abbrev pub decreases-while_loop : goal.decreases-while_loop
decreases-while_loop l = 12 * l.room + 6

abbrev pub decreases-do_loop : goal.decreases-do_loop
decreases-do_loop l = 12 * l.room + 6

abbrev pub decreases-for_loop : goal.decreases-for_loop
decreases-for_loop l = 12 * l.room + 6

abbrev pub decreases-looped : goal.decreases-looped
decreases-looped l = 12 * l.room + 7

abbrev pub invariant-block-loop-turn : goal.invariant-block-loop-turn
invariant-block-loop-turn l = spec.until_on (sees s.RightBrace) (spec.statement l.room Item) spec.compound_end (l._turn-end - l._turn) l.list l.self ≡ spec.compound_phrase (spec.statement l.room Item) l.fn.self
