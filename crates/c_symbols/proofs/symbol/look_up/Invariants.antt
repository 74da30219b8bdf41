use Rattle.std.proofs.Common.{◌≡◌, map, drop}
use Rattle.c_tree.specs.Tokens.Symbols.{look_up}
use Rattle.c_symbols.proofs.symbol.look_up.Given as goal

abbrev pub invariant-loop-entry : goal.invariant-loop-entry
invariant-loop-entry l = look_up (map (λ entry. (entry.0.now, entry.1)) (drop l.entry-index l.table)) l.spelling ≡ look_up (map (λ entry. (entry.0.now, entry.1)) l.table) l.spelling
