use Rattle.std.proofs.Common.{◌≡◌, ◌++◌, map, take}
use Rattle.c_tree.specs.declared.program.Local.{Local}
use Rattle.cond_laws.specs.TermPaths.{is_signed}
use Rattle.path_cond.proofs.inputs.declare_params.Given as goal

abbrev pub invariant-loop-param : goal.invariant-loop-param
invariant-loop-param l = record {
  inputs : l.terms.inputs ≡ l.fn.terms.inputs ++ map (λ (x : Local). is_signed x.ty) (take l.param-index l.params);
  ops : l.terms.ops ≡ l.fn.terms.ops;
}
