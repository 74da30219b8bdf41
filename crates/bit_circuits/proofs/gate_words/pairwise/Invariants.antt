use Rattle.std.proofs.Common.{List, ℤ, drop, ◌++◌}
use Rattle.bit_circuits.specs.declared.netlist.Netlist.{Netlist}
use Rattle.bit_circuits.specs.Words.{pairwise as pairwise_of}
use Rattle.bit_circuits.specs.Pairs.{gate_of}
use Rattle.bit_circuits.specs.Runs.{Adds}
use Rattle.bit_circuits.proofs.gate_words.pairwise.Given as goal

abbrev pub invariant-loop-i : goal.invariant-loop-i
invariant-loop-i l =
    (t : Netlist) (ls : List ℤ) → Adds (pairwise_of (gate_of l.kind) (drop l.i l.xs) (drop l.i l.ys)) l.netlist t ls → Adds (pairwise_of (gate_of l.kind) l.xs l.ys) l.initial.netlist t (l.bits.items ++ ls)
