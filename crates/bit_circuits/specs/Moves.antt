-- How a shift moves a word.
use Rattle.std.specs.Prelude.{ℕ, ℤ, List}
use Rattle.bit_circuits.specs.declared.moving.Move.{Move}
use Rattle.bit_circuits.specs.declared.moving.Move.TheVariants as moves
use Rattle.bit_circuits.specs.Words.{moved_up, moved_down}

abbrev pub move_of : Move → ℕ → List ℤ → List ℤ
move_of moves.Up k xs = moved_up k xs
move_of (moves.Down fill) k xs = moved_down fill k xs
