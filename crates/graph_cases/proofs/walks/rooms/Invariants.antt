use Rattle.std.proofs.Common.{◌≡◌, length}
use Rattle.graph_cases.proofs.walks.rooms.Given as goal

-- one room for each edge so far
abbrev pub invariant-loop : goal.invariant-loop
invariant-loop l = length l.rooms ≡ l.counter
