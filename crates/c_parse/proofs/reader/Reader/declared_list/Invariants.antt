use Rattle.std.proofs.Common.{◌≡◌, ◌-◌}
use Rattle.parse_laws.specs.Parser.{another, phrases, separated_on}
use Rattle.parse_laws.specs.ReadDecl.{local_declarator}
use Rattle.c_parse.proofs.reader.Reader.declared_list.Given as goal

abbrev pub invariant-loop-turn : goal.invariant-loop-turn
invariant-loop-turn l = separated_on another (local_declarator l.room l.constant l.ty) (l._turn-end - l._turn) l.list l.self
    ≡ phrases another (local_declarator l.room l.constant l.ty) l.fn.self
