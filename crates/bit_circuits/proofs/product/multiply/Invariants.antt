use Rattle.std.proofs.Common.{◌≡◌, List, ℤ, ◌-◌, length, drop, ◌++◌}
use Rattle.bit_circuits.specs.declared.netlist.Netlist.{Netlist}
use Rattle.bit_circuits.specs.Words.{rows, multiply as multiply_of}
use Rattle.bit_circuits.specs.Runs.{Adds}
use Rattle.bit_circuits.proofs.product.multiply.Given as goal

abbrev pub invariant-loop-i : goal.invariant-loop-i
invariant-loop-i l = record {
  so_far : length l.so_far.items ≡ length l.ys - l.i;
  rest : length l.rest ≡ length l.ys - l.i;
  whole : (t : Netlist) (ls : List ℤ) → Adds (rows l.so_far.items l.rest (drop l.i l.ys)) l.netlist t ls → Adds (multiply_of l.xs l.ys) l.initial.netlist t (l.bits.items ++ ls);
}
