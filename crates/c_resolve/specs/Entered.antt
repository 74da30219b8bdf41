-- Where a function begins.
use Rattle.std.specs.Prelude.{ℕ, false, List, [], Option}
use Rattle.c_tree.specs.declared.tree.Ty.{Ty}
use Rattle.c_tree.specs.Checking.Scopes.{Known}
use Rattle.c_tree.specs.Checking.Naming.{Scope}

-- the start of a function of this number
abbrev pub function_scope : List Known → ℕ → Option Ty → Scope
function_scope known number t = record {
  known = known;
  depth = 2;
  locals = [];
  func = number;
  result = t;
  looped =
      false;
}
