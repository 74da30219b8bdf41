use Rattle.std.proofs.Common.{◌≡◌, ◌++◌, replicate, map}
use Rattle.c_tree.specs.Meaning.Values.{of_int, zero_of}
use Rattle.c_input.proofs.inputs.global_slot.Given as goal

abbrev pub invariant-loop-at : goal.invariant-loop-at
invariant-loop-at l = l.list ≡ map (of_int l.ty) l.numbers ++ replicate l._at (zero_of l.ty)
