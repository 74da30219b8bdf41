use Rattle.std.proofs.Common.{◌≡◌, ◌+◌, ◌<◌, ◌^◌, drop}
use Rattle.cond_laws.specs.Weights.{list_weight}
use Rattle.path_weight.specs.Capped.{capped_weight}
use Rattle.path_weight.proofs.expressions.list_weight.Given as goal

-- what is summed, and then the rest, is the whole
abbrev pub invariant-loop-e : goal.invariant-loop-e
invariant-loop-e l = record {
  whole : capped_weight (l.sum + list_weight l.scope.locals.now l.scope.globals.now (drop l.e-index l.list)) ≡ capped_weight (list_weight l.scope.locals.now l.scope.globals.now l.list);
  fits : l.sum < 2 ^ 64;
}
