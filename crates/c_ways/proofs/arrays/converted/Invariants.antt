use Rattle.std.proofs.Common.{◌≡◌, ◌++◌, drop}
use Rattle.c_tree.specs.Meaning.Values.{converted_values}
use Rattle.c_ways.proofs.arrays.converted.Given as goal

abbrev pub invariant-loop-v : goal.invariant-loop-v
invariant-loop-v l = l.list ++ converted_values l.ty (drop l.v-index l.from) ≡ converted_values l.ty l.from
