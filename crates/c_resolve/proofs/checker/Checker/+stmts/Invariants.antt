use Rattle.std.proofs.Common.{◌≡◌, ◌++◌, drop}
use Rattle.c_tree.specs.Checking.Naming.{stmts_of, list_behind}
use Rattle.c_tree.specs.Checking.Uses.{stmts_uses}
use Rattle.c_faults.specs.Verdicts.{after_uses}
use Rattle.c_resolve.specs.Walks.{scope_of}
use Rattle.c_resolve.proofs.checker.Checker.+stmts.Given as goal

-- the statements so far and those of the rest are those of the list
abbrev pub invariant-stmts-loop-stmt : goal.invariant-stmts-loop-stmt
invariant-stmts-loop-stmt l = record {
  tree : l.stmts ++ stmts_of (scope_of l.self) (drop l.stmt-index l.list) ≡ stmts_of (scope_of l.initial.self) l.list;
  scope : list_behind (scope_of l.self) (drop l.stmt-index l.list) ≡ list_behind (scope_of l.initial.self) l.list;
  first : after_uses l.self.verdict (stmts_uses (scope_of l.self) (drop l.stmt-index l.list)) ≡ after_uses l.initial.self.verdict (stmts_uses (scope_of l.initial.self) l.list);
}
