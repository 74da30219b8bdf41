-- The limits of a race.
use Rattle.std.specs.Prelude.{◌≤◌}
use Rattle.race_item.specs.declared.region.Limits.{Limits}

-- from 1 to 16,384 turns, and from 1 to 100,000 conflicts
pub record AreLimits (limits : Limits) : Type 0 where
  pub some_turns : 1 ≤ limits.turns
  pub most_turns : limits.turns ≤ 16384
  pub some_conflicts : 1 ≤ limits.conflicts
  pub most_conflicts : limits.conflicts ≤ 100000
