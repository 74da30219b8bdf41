use Rattle.std.proofs.Common.{◌≡◌, drop}
use Rattle.std.specs.Prelude.{slice_get}
use Rattle.c_tree.specs.Checking.Refusals.{outer_inputs}
use Rattle.c_check.proofs.entry.outer_input_at.Given as goal

-- the input numbers so far are counted off
abbrev pub invariant-loop-top : goal.invariant-loop-top
invariant-loop-top l =
    slice_get (outer_inputs (drop l.top-index l.tops)) l.left ≡ slice_get (outer_inputs l.tops) l.initial.left
