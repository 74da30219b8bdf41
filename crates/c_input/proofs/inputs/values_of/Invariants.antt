use Rattle.std.proofs.Common.{◌≡◌, map, take}
use Rattle.c_tree.specs.Meaning.Values.{of_int}
use Rattle.c_input.proofs.inputs.values_of.Given as goal

abbrev pub invariant-loop-z : goal.invariant-loop-z
invariant-loop-z l = l.list ≡ map (of_int l.ty) (take l.z-index l.from)
