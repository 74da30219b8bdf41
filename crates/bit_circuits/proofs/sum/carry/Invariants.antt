use Rattle.std.proofs.Common.{List, ℤ, drop, ◌++◌}
use Rattle.bit_circuits.specs.declared.netlist.Netlist.{Netlist}
use Rattle.bit_circuits.specs.Words.{carry as carry_of}
use Rattle.bit_circuits.specs.Runs.{Adds}
use Rattle.bit_circuits.proofs.sum.carry.Given as goal

abbrev pub invariant-loop-i : goal.invariant-loop-i
invariant-loop-i l =
    (t : Netlist) (z : ℤ) → Adds (carry_of l.carry (drop l.i l.xs) (drop l.i l.ys)) l.netlist t z → Adds (carry_of l.fn.carry l.xs l.ys) l.initial.netlist t z
