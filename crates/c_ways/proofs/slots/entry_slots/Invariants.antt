use Rattle.std.proofs.Common.{◌≡◌, ◌++◌, drop}
use Rattle.c_tree.specs.Meaning.Runs.{entry_slots}
use Rattle.c_ways.proofs.slots.entry_slots.Given as goal

abbrev pub invariant-loop-i : goal.invariant-loop-i
invariant-loop-i l =
    l.slots.items ++ entry_slots (drop l.i l.locals) (drop l.i l.values) ≡ entry_slots l.locals l.values
