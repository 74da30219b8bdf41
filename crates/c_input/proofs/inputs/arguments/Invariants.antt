use Rattle.std.proofs.Common.{◌≡◌, ◌++◌, drop}
use Rattle.c_tree.specs.Meaning.Runs.{arguments}
use Rattle.c_input.proofs.inputs.arguments.Given as goal

abbrev pub invariant-loop-i : goal.invariant-loop-i
invariant-loop-i l = l.list ++ arguments (drop l.i l.types) (drop l.i l.values) ≡ arguments l.types l.values
