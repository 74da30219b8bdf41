use Rattle.std.proofs.Common.{◌≡◌, ◌++◌, length, take, drop}
use Rattle.bit_circuits.specs.Formula.{decoded_from, decoded_words}
use Rattle.bit_blast.proofs.decoding.decode.Given as goal

abbrev pub invariant-loop-n : goal.invariant-loop-n
invariant-loop-n l = record {
  as_many : length l.into.values ≡ length l.blasted.inputs;
  whole : decoded_words l.blasted.inputs l.assignment.values ≡ take l.n l.into.values ++ decoded_from l.assignment.values l.n (drop l.n l.blasted.inputs);
}
