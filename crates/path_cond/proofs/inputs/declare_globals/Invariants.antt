use Rattle.std.proofs.Common.{◌≡◌, ◌++◌, map, drop}
use Rattle.c_tree.specs.Meaning.Runs.{outer_types}
use Rattle.cond_laws.specs.TermPaths.{is_signed}
use Rattle.path_cond.proofs.inputs.declare_globals.Given as goal

-- the inputs so far and those of the rest are all
abbrev pub invariant-loop-global : goal.invariant-loop-global
invariant-loop-global l = record {
  inputs : l.terms.inputs ++ map is_signed (outer_types (drop l.global-index l.globals)) ≡ l.fn.terms.inputs ++ map is_signed (outer_types l.globals);
  ops : l.terms.ops ≡ l.fn.terms.ops;
}
