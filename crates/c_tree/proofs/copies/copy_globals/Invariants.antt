use Rattle.std.proofs.Common.{◌≡◌, take}
use Rattle.c_tree.proofs.copies.copy_globals.Given as goal

abbrev pub invariant-loop-g : goal.invariant-loop-g
invariant-loop-g l = l.copies ≡ take l.g-index l.globals
