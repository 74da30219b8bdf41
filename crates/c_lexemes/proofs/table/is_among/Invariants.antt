use Rattle.std.proofs.Common.{◌≡◌, map, drop}
use Rattle.c_tree.specs.Tokens.TokenKinds.{is_among}
use Rattle.c_lexemes.proofs.table.is_among.Given as goal

abbrev pub invariant-loop-entry : goal.invariant-loop-entry
invariant-loop-entry l = is_among (map (λ entry. entry.now) (drop l.entry-index l.table)) l.bytes ≡ is_among (map (λ entry. entry.now) l.table) l.bytes
