use Rattle.std.proofs.Common.{List, ℤ, drop, ◌++◌}
use Rattle.bit_circuits.specs.declared.netlist.Netlist.{Netlist}
use Rattle.bit_circuits.specs.Words.{sum as sum_of}
use Rattle.bit_circuits.specs.Runs.{Adds}
use Rattle.bit_circuits.proofs.sum.sum.Given as goal

abbrev pub invariant-loop-i : goal.invariant-loop-i
invariant-loop-i l =
    (t : Netlist) (ls : List ℤ) → Adds (sum_of l.carry (drop l.i l.xs) (drop l.i l.ys)) l.netlist t ls → Adds (sum_of l.fn.carry l.xs l.ys) l.initial.netlist t (l.bits.items ++ ls)
