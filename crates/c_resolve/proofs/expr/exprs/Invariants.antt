use Rattle.std.proofs.Common.{◌≡◌, ◌++◌, drop}
use Rattle.c_tree.specs.Checking.Constants.{exprs_of}
use Rattle.c_tree.specs.Checking.Uses.{exprs_uses}
use Rattle.c_faults.specs.Verdicts.{after_uses}
use Rattle.c_resolve.proofs.expr.exprs.Given as goal

-- the expressions so far and those of the rest are those of the list
abbrev pub invariant-loop-e : goal.invariant-loop-e
invariant-loop-e l = record {
  tree : l.items ++ exprs_of l.names (drop l.e-index l.list) ≡ exprs_of l.names l.list;
  first : after_uses l.verdict (exprs_uses l.names (drop l.e-index l.list)) ≡ after_uses l.initial.verdict (exprs_uses l.names l.list);
}
