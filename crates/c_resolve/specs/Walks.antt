-- Where the walk over a function stands, and statements that may be there or not.
use Rattle.std.specs.Prelude.{◌≡◌, ◌+◌, Bool, List, [], length, take, Option, Some, None}
use Rattle.c_tree.specs.declared.program.Local.{Local}
use Rattle.c_tree.specs.declared.unit.RawStmt.{RawStmt}
use Rattle.c_tree.specs.Checking.Naming.{Scope, scope_behind, stmt_locals}
use Rattle.c_tree.specs.Checking.Uses.{Use, stmt_uses}
use Rattle.c_resolve.specs.declared.checker.Checker.{Checker}
use Rattle.c_resolve.specs.declared.checker.Outer.{Outer}

abbrev pub scope_of : Checker → Scope
scope_of c =
    record { known = c.names; depth = c.depth; locals = c.locals; func = c.func; result = c.returns; looped = c.looped }

-- inside a list, in a loop or not
abbrev pub list_scope : Scope → Bool → Scope
list_scope s looped = record s { depth = s.depth + 1; looped = looped }

-- what is kept of a scope while one inside it is open
pub record IsOuter (s : Scope) (o : Outer) : Type 0 where
  pub depth : o.depth ≡ s.depth
  pub looped : o.looped ≡ s.looped
  pub count : o.count ≡ length s.known

-- where one ends
abbrev pub scope_at_end : Scope → Outer → Scope
scope_at_end s o = record s { known = take o.count s.known; depth = o.depth; looped = o.looped }

abbrev pub option_behind : Scope → Option RawStmt → Scope
option_behind s None = s
option_behind s (Some x) = scope_behind s x

abbrev pub option_uses : Scope → Option RawStmt → List Use
option_uses s None = []
option_uses s (Some x) = stmt_uses s x

abbrev pub option_locals : Option RawStmt → List Local
option_locals None = []
option_locals (Some x) = stmt_locals x
