use Rattle.std.proofs.Common.{◌≡◌, List, ℤ, length, drop}
use Rattle.bit_circuits.specs.Words.{divide as divide_of}
use Rattle.bit_circuits.specs.Runs.{Adds}
use Rattle.bit_circuits.proofs.quotient.divide.Given as goal

abbrev pub invariant-loop-i : goal.invariant-loop-i
invariant-loop-i l = record {
  wide : length l.remainder.items ≡ length l.ds;
  whole : Adds (divide_of (drop l.i l.xs) l.ds) l.initial.netlist l.netlist (record { quotient = l.quotient.items; remainder = l.remainder.items });
}
