-- Rows of statements, parts of a `for`, and statements without parts: they are the same in a printed text as in the text.
use Rattle.std.proofs.Common.{ℕ, [], ◌∷◌, ◌++◌, Some, refl, sym, ap, ◌∙◌}
use mathlib.Core.Former.{Count, none_left, one_more}
use denote.Hole.Carrier.{hidden}
use Rattle.c_tree.specs.declared.unit.RawStmt.{RawStmt, Row_of-RawStmt, end_of-RawStmt, more_of-RawStmt, None', Some'}
use Rattle.c_tree.specs.declared.unit.RawStmt.TheVariants.{Empty, Break, Continue}
use Rattle.c_tree.specs.declared.unit.RawStmt.TheBlock.{shape-the_row-RawStmt-1, hidden-the_row-RawStmt-1, back-RawStmt-For-2}
use Rattle.c_tree.specs.Checking.Naming.{Scope, stmt_locals, row_locals, held_locals, scope_behind, held_behind, row_behind, stmt_of, row_stmts, held_stmt, sole_stmt}
use Rattle.c_tree.specs.Checking.Uses.{Left, stmt_uses, row_stmt_uses, held_uses}
use Rattle.c_tree.specs.Checking.Refusals.{faults_of}
use Rattle.print_laws.proofs.Again.Scoped.{Follows}
use Rattle.print_laws.proofs.Again.FaultlessUses.{AreFaultless, faultless_both, faultless_first, faultless_more, left_elsewhere}
use Rattle.print_laws.proofs.Again.ScopesAgain.{past_follows}
use Rattle.print_laws.proofs.Named.NamedScopes.{none_declared}
use Rattle.print_laws.proofs.Again.DeclaredAgain.{IsAgain}
use Rattle.print_laws.proofs.Again.BlocksAgain.{IsRowAgain, IsHeldAgain}

module _ (s t : Scope) where
  -- ---- rows

  pub none_again : IsRowAgain s t end_of-RawStmt end_of-RawStmt
  unfolding row_stmts row_locals row_stmt_uses
  none_again = record { stmts = refl; locals = refl; faultless = refl }

  pub more_again : {m n : Count} (x y : RawStmt) (rest : Row_of-RawStmt m) (more : Row_of-RawStmt n) → IsAgain s t x y → IsRowAgain (scope_behind s x) (scope_behind t y) rest more → IsRowAgain s t (more_of-RawStmt x rest) (more_of-RawStmt y more)
  unfolding row_stmts row_locals row_stmt_uses
  more_again x y rest more one others = record {
    stmts = λ i. one.stmt i ∷ others.stmts i;
    locals = λ i. one.locals i ++ others.locals i;
    faultless = faultless_both (stmt_uses t y) (row_stmt_uses (scope_behind t y) more) one.faultless others.faultless;
  }

  -- ---- the initialiser or the step of a `for`

  -- the only statement of a row is this one
  abbrev pub IsSoleAgain : {m : _} → Row_of-RawStmt m → RawStmt → Type 0
  IsSoleAgain end_of-RawStmt y = Unit {0}
  IsSoleAgain (more_of-RawStmt x rest) y = IsAgain s t x y

  pub no_part_again : Follows s t → IsHeldAgain s t None' None'
  unfolding held_stmt held_locals held_behind held_uses
  no_part_again follows = record { stmt = refl; locals = refl; follows = follows; faultless = refl }

  pub part_again : (a : _) (x : Row_of-RawStmt (one_more none_left)) (y : RawStmt) → IsSoleAgain x y → IsHeldAgain s t (Some' a x) (back-RawStmt-For-2 (Some y))
  unfolding held_stmt sole_stmt held_locals row_locals held_behind row_behind held_uses row_stmt_uses shape-the_row-RawStmt-1 hidden-the_row-RawStmt-1 hidden
  part_again a (more_of-RawStmt x rest) y one = record {
    stmt = ap Some one.stmt;
    locals = λ i. one.locals i ++ sym (none_declared rest) i;
    follows = one.follows;
    faultless = faultless_both (stmt_uses t y) [] one.faultless refl;
  }

  -- ---- statements without parts

  pub empty_again : Follows s t → IsAgain s t Empty Empty
  unfolding stmt_of stmt_locals stmt_uses scope_behind
  empty_again follows = record { stmt = refl; locals = refl; follows = past_follows s t [] [] refl follows; faultless = refl }

  left_faultless : (from to : ℕ) → Follows s t → AreFaultless (Left from s.looped ∷ []) → AreFaultless (Left to t.looped ∷ [])
  left_faultless from to follows h =
      let here = left_elsewhere from to s.looped (faultless_first (Left from s.looped) [] h).0 in
      faultless_more (Left to t.looped) [] (ap (λ b. faults_of (Left to b)) follows.looped ∙ here) refl

  pub break_again : (from to : ℕ) → Follows s t → AreFaultless (stmt_uses s (Break from)) → IsAgain s t (Break from) (Break to)
  unfolding stmt_of stmt_locals stmt_uses scope_behind
  break_again from to follows h =
      record { stmt = refl; locals = refl; follows = past_follows s t [] [] refl follows; faultless = left_faultless from to follows h }

  pub continue_again : (from to : ℕ) → Follows s t → AreFaultless (stmt_uses s (Continue from)) → IsAgain s t (Continue from) (Continue to)
  unfolding stmt_of stmt_locals stmt_uses scope_behind
  continue_again from to follows h =
      record { stmt = refl; locals = refl; follows = past_follows s t [] [] refl follows; faultless = left_faultless from to follows h }
