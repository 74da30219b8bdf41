use Rattle.std.proofs.Common.{◌≡◌, drop}
use Rattle.c_tree.specs.Meaning.Runs.{param_types}
use Rattle.c_input.specs.Starts.{rest_of}
use Rattle.c_input.proofs.fitting.behind_params.Given as goal

abbrev pub invariant-loop-local : goal.invariant-loop-local
invariant-loop-local l =
    rest_of (param_types l.left (drop l.local-index l.locals)) l.rest ≡ rest_of (param_types l.params l.locals) l.numbers
