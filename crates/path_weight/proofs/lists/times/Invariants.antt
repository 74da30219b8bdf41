use Rattle.std.proofs.Common.{◌≡◌, ◌+◌, ◌≤◌, drop}
use Rattle.flow_laws.specs.Paths.{edge_count}
use Rattle.path_weight.proofs.lists.times.Given as goal

-- what is counted, and then the rest, is the whole
abbrev pub invariant-loop-other : goal.invariant-loop-other
invariant-loop-other l = record {
  whole : l.times + edge_count (drop l.other-index l.list) l.e ≡ edge_count l.list l.e;
  few : l.times ≤ l.other-index;
}
