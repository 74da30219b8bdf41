use Rattle.std.proofs.Common.{◌≡◌, drop}
use Rattle.race_item.specs.Trials.{keeps_cuts}
use Rattle.race_item.proofs.path.keeps_cuts.Given as goal

-- what was looked at is kept
abbrev pub invariant-loop-cut : goal.invariant-loop-cut
invariant-loop-cut l = keeps_cuts l.plan.program l.list (drop l.cut-index l.cuts) ≡ keeps_cuts l.plan.program l.list l.cuts
