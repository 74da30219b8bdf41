use Rattle.std.proofs.Common.{◌≡◌, take}
use Rattle.c_tree.proofs.copies.copy_exprs.Given as goal

abbrev pub invariant-loop-e : goal.invariant-loop-e
invariant-loop-e l = l.copies ≡ take l.e-index l.exprs
