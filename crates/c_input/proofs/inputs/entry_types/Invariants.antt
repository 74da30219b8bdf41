use Rattle.std.proofs.Common.{◌≡◌, ◌++◌, ◌-◌, drop, length}
use Rattle.c_tree.specs.Meaning.Runs.{param_types}
use Rattle.c_input.proofs.inputs.entry_types.Given as goal

abbrev pub invariant-loop-local : goal.invariant-loop-local
invariant-loop-local l =
    l.types ++ param_types (l.func.params - length l.types) (drop l.local-index l.locals) ≡ param_types l.func.params l.func.locals
