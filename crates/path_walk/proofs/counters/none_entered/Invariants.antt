use Rattle.std.proofs.Common.{◌≡◌, length}
use Rattle.path_walk.proofs.Counting.{NoneStands}
use Rattle.path_walk.proofs.counters.none_entered.Given as goal

abbrev pub invariant-loop-k : goal.invariant-loop-k
invariant-loop-k l = record { many : length l.left ≡ l.k; none : NoneStands l.left }
