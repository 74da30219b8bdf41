use Rattle.std.proofs.Common.{◌≡◌, ◌+◌, drop}
use Rattle.c_lexemes.specs.Lengths.{number_length}
use Rattle.c_lexemes.proofs.lexeme.number_length.Given as goal

abbrev pub invariant-loop-i : goal.invariant-loop-i
invariant-loop-i l = l.i + number_length l.last (drop l.i l.here) ≡ number_length 0 l.here
