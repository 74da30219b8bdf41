use Rattle.std.proofs.Common.{◌≡◌, ◌++◌, drop}
use Rattle.c_tree.specs.Checking.Naming.{kept_numbers}
use Rattle.c_tree.specs.Checking.Uses.{constants_uses}
use Rattle.c_faults.specs.Verdicts.{after_uses}
use Rattle.c_resolve.proofs.expr.constants.Given as goal

-- the numbers so far and those of the rest are those of the list
abbrev pub invariant-loop-e : goal.invariant-loop-e
invariant-loop-e l = record {
  numbers : l.numbers ++ kept_numbers l.ty (drop l.e-index l.list) ≡ kept_numbers l.ty l.list;
  first : after_uses l.verdict (constants_uses l.names (drop l.e-index l.list)) ≡ after_uses l.initial.verdict (constants_uses l.names l.list);
}
