use Rattle.std.proofs.Common.{◌≡◌, take}
use Rattle.c_tree.proofs.copies.copy_funcs.Given as goal

abbrev pub invariant-loop-f : goal.invariant-loop-f
invariant-loop-f l = l.copies ≡ take l.f-index l.funcs
