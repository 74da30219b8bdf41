use Rattle.std.proofs.Common.{◌≡◌, ◌<◌, ◌^◌, false, drop}
use Rattle.graph_lists.specs.Amounts.{capped_sum, list_amount}
use Rattle.graph_lists.proofs.sizes.+amount.Given as goal

-- what is counted, and then the rest, is the whole
abbrev pub invariant-list_amount-loop-stmt : goal.invariant-list_amount-loop-stmt
invariant-list_amount-loop-stmt l =
    record { whole : capped_sum l.sum (list_amount l.weights l.above (drop l.stmt-index l.list) l.run) ≡ list_amount l.weights l.above l.list false; fits : l.sum < 2 ^ 64 }
