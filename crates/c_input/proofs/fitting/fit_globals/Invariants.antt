use Rattle.std.proofs.Common.{◌≡◌, drop}
use Rattle.c_tree.specs.Meaning.Runs.{are_of, outer_types}
use Rattle.c_input.proofs.fitting.fit_globals.Given as goal

abbrev pub invariant-loop-global : goal.invariant-loop-global
invariant-loop-global l =
    are_of (outer_types (drop l.global-index l.globals)) l.rest ≡ are_of (outer_types l.globals) l.numbers
