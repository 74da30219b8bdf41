use Rattle.std.proofs.Common.{◌≤◌, List, ℤ, map, drop, []}
use Rattle.bit_circuits.specs.declared.netlist.Netlist.{Netlist}
use Rattle.bit_circuits.specs.Formula.{first_of, terms_bits as terms_bits_of}
use Rattle.bit_circuits.specs.Runs.{Adds, next_of}
use Rattle.bit_circuits.proofs.WordArithmetic.Terms.{Words}
use Rattle.bit_circuits.proofs.term.terms_bits.Given as goal

abbrev pub invariant-loop-op : goal.invariant-loop-op
invariant-loop-op l = record {
  past : first_of l.inputs ≤ next_of l.netlist;
  wide : Words (next_of l.netlist) (map (λ w. w.items) l.words.items);
  whole : (t : Netlist) (out : List (List ℤ)) → Adds (terms_bits_of (map (λ w. w.items) l.words.items) (drop l.op-index l.ops)) l.netlist t out → Adds (terms_bits_of [] l.ops) l.initial.netlist t out;
}
