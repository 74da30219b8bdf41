use Rattle.std.proofs.Common.{◌≡◌, ◌≤◌, ◌+◌, drop}
use Rattle.flow_laws.specs.Paths.{edge_count}
use Rattle.race_item.proofs.path.count.Given as goal

-- what was counted, and then the rest, is all
abbrev pub invariant-loop-e : goal.invariant-loop-e
invariant-loop-e l = record {
  so_far : l.times + edge_count (drop l.e-index l.list) l.edge ≡ edge_count l.list l.edge;
  small : l.times ≤ l.e-index;
}
