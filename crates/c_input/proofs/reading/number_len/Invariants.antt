use Rattle.std.proofs.Common.{◌≡◌, ◌+◌, drop}
use Rattle.std.specs.List.{prefix_len}
use Rattle.c_input.specs.Reading.{is_entry_byte}
use Rattle.c_input.proofs.reading.number_len.Given as goal

abbrev pub invariant-loop-i : goal.invariant-loop-i
invariant-loop-i l = prefix_len is_entry_byte l.bytes ≡ l.i + prefix_len is_entry_byte (drop l.i l.bytes)
