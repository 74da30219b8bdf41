use Rattle.std.proofs.Common.{◌≡◌, ◌++◌, replicate}
use Rattle.c_tree.specs.Meaning.Values.{converted_values, zero_of}
use Rattle.c_ways.proofs.arrays.padded.Given as goal

abbrev pub invariant-loop-at : goal.invariant-loop-at
invariant-loop-at l = l.list ≡ converted_values l.ty l.values ++ replicate l._at (zero_of l.ty)
