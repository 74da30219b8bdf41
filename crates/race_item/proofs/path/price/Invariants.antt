use Rattle.std.proofs.Common.{◌≡◌, ◌≤◌, ◌+◌, ◌*◌, drop}
use Rattle.std.specs.Prelude.{◌^◌}
use Rattle.race_item.specs.Items.{list_cost}
use Rattle.race_item.proofs.path.price.Given as goal

-- what was summed, and then the rest, is all
abbrev pub invariant-loop-e : goal.invariant-loop-e
invariant-loop-e l = record {
  so_far : l.sum + list_cost l.plan (drop l.e-index l.list) ≡ list_cost l.plan l.list;
  small : l.sum ≤ l.e-index * 2 ^ 32;
}
