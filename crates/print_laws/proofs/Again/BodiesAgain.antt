-- The body of a function of a printed text is that of the text, and faultless.
use Rattle.std.proofs.Common.{◌≡◌, List, [], ◌∷◌, ◌++◌, refl, sym, ap, ◌∙◌, subst}
use Rattle.std.specs.List.{flat_map}
use Rattle.std.proofs.lemmas.List.{append-nil}
use Rattle.c_tree.specs.declared.program.Func.{Func}
use Rattle.c_tree.specs.declared.program.Program.{Program}
use Rattle.c_tree.specs.declared.unit.RawStmt.{RawStmt}
use Rattle.c_tree.specs.Checking.Naming.{Scope, stmt_locals, list_locals, scope_behind, stmts_of, list_behind}
use Rattle.c_tree.specs.Checking.Uses.{stmt_uses, stmts_uses}
use Rattle.c_tree.specs.Checking.Refusals.{faults_of}
use Rattle.typed_laws.proofs.DeclaredLocals.{list_behind_locals}
use Rattle.print_laws.specs.Shown.{ShowsStmts}
use Rattle.print_laws.proofs.Again.Scoped.{Follows, AreNames, AreAgain}
use Rattle.print_laws.proofs.Again.FaultlessUses.{AreFaultless, faultless_parts, faultless_both}
use Rattle.print_laws.proofs.Named.NamedScopes.{IsNamed, first_named, behind_named}
use Rattle.print_laws.proofs.Again.StatementsAgain.{stmt_again}

-- a list of statements
record IsListAgain (s t : Scope) (xs ys : List RawStmt) : Type 0 where
  stmts : stmts_of t ys ≡ stmts_of s xs
  locals : list_locals ys ≡ list_locals xs
  faultless : AreFaultless (stmts_uses t ys)

list_again : (p : Program) (f : Func) (s t : Scope) (xs ys : List RawStmt) → Follows s t → IsNamed p f s (list_locals xs) → AreFaultless (stmts_uses s xs) → ShowsStmts p f ys (stmts_of s xs) → IsListAgain s t xs ys
list_again p f s t [] ys follows h faultless shows = subst (IsListAgain s t []) (sym shows) (record { stmts = refl; locals = refl; faultless = refl })
list_again p f s t (x ∷ xs) ys follows h faultless shows =
    let parts = faultless_parts (stmt_uses s x) (stmts_uses (scope_behind s x) xs) faultless in
    let y = shows.0 in
    let one = stmt_again p f s t x y follows (first_named p f s (stmt_locals x) (list_locals xs) h) parts.0 shows.3 in
    let others = list_again p f (scope_behind s x) (scope_behind t y) xs shows.1 one.follows (behind_named p f s x (list_locals xs) h) parts.1 shows.4 in
    subst (IsListAgain s t (x ∷ xs)) (sym shows.2) (record {
      stmts = λ i. one.stmt i ∷ others.stmts i;
      locals = λ i. one.locals i ++ others.locals i;
      faultless = faultless_both (stmt_uses t y) (stmts_uses (scope_behind t y) shows.1) one.faultless others.faultless;
    })

pub body_again : (p : Program) (f : Func) (s t : Scope) (xs ys : List RawStmt) → Follows s t → AreNames p f s.known → f.locals ≡ (list_behind s xs).locals → flat_map faults_of (stmts_uses s xs) ≡ [] → ShowsStmts p f ys (stmts_of s xs) → AreAgain s t xs ys
body_again p f s t xs ys follows names all faultless shows =
    let split : f.locals ≡ s.locals ++ (list_locals xs ++ []) = all ∙ list_behind_locals s xs ∙ ap (λ ls. s.locals ++ ls) (sym (append-nil (list_locals xs))) in
    let again = list_again p f s t xs ys follows (record { names = names; rest = []; split = split }) faultless shows in
    record {
      stmts = again.stmts;
      locals = list_behind_locals t ys ∙ (λ i. follows.locals i ++ again.locals i) ∙ sym (list_behind_locals s xs);
      faultless = again.faultless;
    }
