use Rattle.std.proofs.Common.{◌≡◌, ◌++◌, replicate, codes}
use Rattle.c_input.proofs.leads.push_commas.Given as goal

abbrev pub invariant-loop-at : goal.invariant-loop-at
invariant-loop-at l = l.leads ≡ l.fn.leads ++ replicate l._at (codes ",")
