use Rattle.std.proofs.Common.{◌≡◌, ◌-◌}
use Rattle.parse_laws.specs.Parser.{another, phrases, separated_on}
use Rattle.parse_laws.specs.ReadUnit.{param}
use Rattle.c_parse.proofs.reader.Reader.param_list.Given as goal

abbrev pub invariant-loop-turn : goal.invariant-loop-turn
invariant-loop-turn l = separated_on another param (l._turn-end - l._turn) l.list l.self ≡ phrases another param l.fn.self
