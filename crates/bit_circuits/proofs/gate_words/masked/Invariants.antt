use Rattle.std.proofs.Common.{List, ℤ, drop, ◌++◌}
use Rattle.bit_circuits.specs.declared.netlist.Netlist.{Netlist}
use Rattle.bit_circuits.specs.Words.{masked_word as masked_of}
use Rattle.bit_circuits.specs.Runs.{Adds}
use Rattle.bit_circuits.proofs.gate_words.masked.Given as goal

abbrev pub invariant-loop-i : goal.invariant-loop-i
invariant-loop-i l =
    (t : Netlist) (ls : List ℤ) → Adds (masked_of l.chosen (drop l.i l.xs)) l.netlist t ls → Adds (masked_of l.chosen l.xs) l.initial.netlist t (l.bits.items ++ ls)
