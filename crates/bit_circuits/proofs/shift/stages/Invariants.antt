use Rattle.std.proofs.Common.{◌≡◌, List, ℤ, ◌^◌, length, drop}
use Rattle.bit_circuits.specs.declared.netlist.Netlist.{Netlist}
use Rattle.bit_circuits.specs.Words.{stages as stages_of}
use Rattle.bit_circuits.specs.Moves.{move_of}
use Rattle.bit_circuits.specs.Runs.{Adds}
use Rattle.bit_circuits.proofs.shift.stages.Given as goal

abbrev pub invariant-loop-i : goal.invariant-loop-i
invariant-loop-i l = record {
  places : l.places ≡ 2 ^ l.i;
  wide : length l.bits.items ≡ 32;
  whole : (t : Netlist) (ls : List ℤ) → Adds (stages_of (move_of l.kind) l.places (drop l.i l.count) l.bits.items) l.netlist t ls → Adds (stages_of (move_of l.kind) 1 l.count l.xs) l.initial.netlist t ls;
}
