use Rattle.std.proofs.Common.{◌≡◌, length}
use Rattle.graph_cases.proofs.walks.set_limits.Given as goal

-- there is one room an edge
abbrev pub invariant-loop-limit : goal.invariant-loop-limit
invariant-loop-limit l = length l.rooms ≡ length l.fn.rooms
