use Rattle.std.proofs.Common.{◌≡◌, drop}
use Rattle.path_weight.specs.Capped.{capped_weight}
use Rattle.path_weight.proofs.Counts.{by_counts, edge_at}
use Rattle.path_weight.proofs.lists.weight.Given as goal

-- the edges so far, as often as the list has them
abbrev pub invariant-loop-e : goal.invariant-loop-e
invariant-loop-e l = l.sum ≡ capped_weight (by_counts (edge_at l.plan.program) l.list l.e)
