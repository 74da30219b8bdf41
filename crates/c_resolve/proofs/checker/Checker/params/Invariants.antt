use Rattle.std.proofs.Common.{◌≡◌, drop}
use Rattle.c_tree.specs.Checking.Naming.{with_params}
use Rattle.c_tree.specs.Checking.Uses.{params_uses}
use Rattle.c_faults.specs.Verdicts.{after_uses}
use Rattle.c_resolve.specs.Walks.{scope_of}
use Rattle.c_resolve.proofs.checker.Checker.params.Given as goal

-- the parameters so far are declared
abbrev pub invariant-loop-param : goal.invariant-loop-param
invariant-loop-param l = record {
  scope : with_params (scope_of l.self) (drop l.param-index l.params) ≡ with_params (scope_of l.initial.self) l.params;
  first : after_uses l.self.verdict (params_uses (scope_of l.self) (drop l.param-index l.params)) ≡ after_uses l.initial.self.verdict (params_uses (scope_of l.initial.self) l.params);
}
