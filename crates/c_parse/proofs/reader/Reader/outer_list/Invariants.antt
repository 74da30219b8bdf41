use Rattle.std.proofs.Common.{◌≡◌, ◌-◌}
use Rattle.parse_laws.specs.Parser.{another, phrases, separated_on}
use Rattle.parse_laws.specs.ReadUnit.{outer_declarator}
use Rattle.c_parse.proofs.reader.Reader.outer_list.Given as goal

abbrev pub invariant-loop-turn : goal.invariant-loop-turn
invariant-loop-turn l = separated_on another (outer_declarator l.room l.constant l.ty) (l._turn-end - l._turn) l.list l.self
    ≡ phrases another (outer_declarator l.room l.constant l.ty) l.fn.self
