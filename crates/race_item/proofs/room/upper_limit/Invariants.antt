use Rattle.std.proofs.Common.{◌≡◌, drop}
use Rattle.race_item.specs.Regions.{least_upper, upper_limit}
use Rattle.race_item.proofs.room.upper_limit.Given as goal

-- the least so far, and then the rest, is the least of all
abbrev pub invariant-loop-cut : goal.invariant-loop-cut
invariant-loop-cut l = least_upper l.e l.most (drop l.cut-index l.cuts) ≡ upper_limit l.plan.program l.cuts l.e
