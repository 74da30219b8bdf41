use Rattle.std.proofs.Common.{◌≡◌, ◌++◌, drop}
use Rattle.std.specs.Prelude.{IsTrue}
use Rattle.c_tree.specs.Meaning.Runs.{global_slots, are_of, outer_types}
use Rattle.c_tree.specs.Keeping.WellFormed.{WellFormedGlobals}
use Rattle.c_input.proofs.inputs.global_slots.Given as goal

abbrev pub invariant-loop-global : goal.invariant-loop-global
invariant-loop-global l =
    (l.slots.items ++ global_slots (drop l.global-index l.globals) l.rest ≡ global_slots l.globals l.values) × (WellFormedGlobals (drop l.global-index l.globals) × IsTrue (are_of (outer_types (drop l.global-index l.globals)) l.rest))
