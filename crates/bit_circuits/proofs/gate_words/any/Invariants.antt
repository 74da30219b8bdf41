use Rattle.std.proofs.Common.{List, ℤ, drop, ◌++◌}
use Rattle.bit_circuits.specs.declared.netlist.Netlist.{Netlist}
use Rattle.bit_circuits.specs.Words.{any as any_of}
use Rattle.bit_circuits.specs.Runs.{Adds}
use Rattle.bit_circuits.proofs.gate_words.any.Given as goal

abbrev pub invariant-loop-i : goal.invariant-loop-i
invariant-loop-i l =
    (t : Netlist) (z : ℤ) → Adds (any_of l.some (drop l.i l.xs)) l.netlist t z → Adds (any_of l.fn.some l.xs) l.initial.netlist t z
