use Rattle.std.proofs.Common.{◌≡◌, take}
use Rattle.c_tree.proofs.copies.copy_locals.Given as goal

abbrev pub invariant-loop-l : goal.invariant-loop-l
invariant-loop-l l = l.copies ≡ take l.l-index l.locals
