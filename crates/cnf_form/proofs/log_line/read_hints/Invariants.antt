use Rattle.std.proofs.Common.{◌≡◌, ◌++◌, ◌<◌, ◌^◌, length, All}
use Rattle.cnf_form.specs.LogReading.{hints_behind}
use Rattle.cnf_form.proofs.log_line.read_hints.Given as goal

abbrev pub invariant-loop-token : goal.invariant-loop-token
invariant-loop-token l = record {
  small : All (λ hint. hint < 2 ^ 32) l.hints.items;
  text : l.text ≡ hints_behind l.hints.items ++ l.rest;
}

abbrev pub decreases-loop-token : goal.decreases-loop-token
decreases-loop-token l = length l.rest
