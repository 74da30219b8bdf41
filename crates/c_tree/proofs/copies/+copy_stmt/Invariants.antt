use Rattle.std.proofs.Common.{◌≡◌, take}
use Rattle.c_tree.proofs.copies.+copy_stmt.Given as goal

abbrev pub invariant-copy_stmts-loop-s : goal.invariant-copy_stmts-loop-s
invariant-copy_stmts-loop-s l = l.copies ≡ take l.s-index l.stmts
