use Rattle.std.proofs.Common.{◌≡◌, map, drop}
use Rattle.c_lexemes.specs.Marks.{first_length}
use Rattle.c_lexemes.proofs.table.first_length.Given as goal

abbrev pub invariant-loop-entry : goal.invariant-loop-entry
invariant-loop-entry l = first_length (map (λ entry. entry.now) (drop l.entry-index l.table)) l.here ≡ first_length (map (λ entry. entry.now) l.table) l.here
