use Rattle.std.proofs.Common.{◌≡◌, ◌++◌, drop}
use Rattle.c_tree.specs.Checking.Naming.{funcs_of, globals_of}
use Rattle.c_tree.specs.Checking.Uses.{tops_uses}
use Rattle.c_faults.specs.Verdicts.{after_uses}
use Rattle.c_resolve.specs.Files.{file_of}
use Rattle.c_resolve.proofs.unit.UnitChecker.tops.Given as goal

-- the declarations so far and those of the rest are those of the list
abbrev pub invariant-loop-top : goal.invariant-loop-top
invariant-loop-top l = record {
  globals : l.self.globals ++ globals_of (drop l.top-index l.tops) ≡ l.initial.self.globals ++ globals_of l.tops;
  funcs : l.self.funcs ++ funcs_of (file_of l.self) (drop l.top-index l.tops) ≡ l.initial.self.funcs ++ funcs_of (file_of l.initial.self) l.tops;
  first : after_uses l.self.checker.verdict (tops_uses (file_of l.self) (drop l.top-index l.tops)) ≡ after_uses l.initial.self.checker.verdict (tops_uses (file_of l.initial.self) l.tops);
}
