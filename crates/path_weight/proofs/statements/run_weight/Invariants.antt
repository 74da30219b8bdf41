use Rattle.std.proofs.Common.{◌≡◌, ◌+◌, ◌<◌, ◌^◌, drop}
use Rattle.cond_laws.specs.Weights.{all_weights}
use Rattle.path_weight.specs.Capped.{capped_weight}
use Rattle.path_weight.proofs.statements.run_weight.Given as goal

-- what is summed, and then the rest, is the whole
abbrev pub invariant-loop-stmt : goal.invariant-loop-stmt
invariant-loop-stmt l = record {
  whole : capped_weight (l.sum + all_weights l.scope.locals.now l.scope.globals.now (drop l.stmt-index l.list)) ≡ capped_weight (all_weights l.scope.locals.now l.scope.globals.now l.list);
  fits : l.sum < 2 ^ 64;
}
