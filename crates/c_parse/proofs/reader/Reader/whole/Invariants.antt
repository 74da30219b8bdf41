use Rattle.std.proofs.Common.{◌≡◌, ◌-◌}
use Rattle.parse_laws.specs.ReadStmt.{until_on}
use Rattle.parse_laws.specs.ReadUnit.{top_of, is_end, unit_end, whole_unit}
use Rattle.c_parse.proofs.reader.Reader.whole.Given as goal

abbrev pub invariant-loop-turn : goal.invariant-loop-turn
invariant-loop-turn l = until_on is_end (top_of l.room) unit_end (l._turn-end - l._turn) l.list l.self ≡ whole_unit l.room l.fn.self
