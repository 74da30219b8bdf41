use Rattle.std.proofs.Common.{◌≡◌, [], drop}
use Rattle.graph_lists.specs.Amounts.{amounts}
use Rattle.graph_lists.proofs.sizes.amounts.Given as goal

-- from what is counted on, the rest gives the whole
abbrev pub invariant-loop-func : goal.invariant-loop-func
invariant-loop-func l = amounts l.weights l.sums (drop l.func-index l.funcs) ≡ amounts l.weights [] l.funcs
