use Rattle.std.proofs.Common.{◌≡◌, ◌++◌, replicate}
use Rattle.cond_laws.specs.TermPaths.{is_signed}
use Rattle.path_cond.proofs.inputs.declare_each.Given as goal

abbrev pub invariant-loop-k : goal.invariant-loop-k
invariant-loop-k l = record {
  inputs : l.terms.inputs ≡ l.fn.terms.inputs ++ replicate l.k (is_signed l.fn.ty);
  ops : l.terms.ops ≡ l.fn.terms.ops;
}
