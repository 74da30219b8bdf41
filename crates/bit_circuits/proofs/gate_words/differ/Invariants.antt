use Rattle.std.proofs.Common.{List, ℤ, drop, ◌++◌}
use Rattle.bit_circuits.specs.declared.netlist.Netlist.{Netlist}
use Rattle.bit_circuits.specs.Words.{differ as differ_of}
use Rattle.bit_circuits.specs.Runs.{Adds}
use Rattle.bit_circuits.proofs.gate_words.differ.Given as goal

abbrev pub invariant-loop-i : goal.invariant-loop-i
invariant-loop-i l =
    (t : Netlist) (z : ℤ) → Adds (differ_of l.some (drop l.i l.xs) (drop l.i l.ys)) l.netlist t z → Adds (differ_of l.fn.some l.xs l.ys) l.initial.netlist t z
