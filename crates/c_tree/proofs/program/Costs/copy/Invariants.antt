use Rattle.std.proofs.Common.{◌≡◌, take}
use Rattle.c_tree.proofs.program.Costs.copy.Given as goal

abbrev pub invariant-loop-row : goal.invariant-loop-row
invariant-loop-row l = l.by_func ≡ take l.row-index l.row-items
