-- Assignments and `return` of a printed text are the same as those of the text, and faultless.
use Rattle.std.proofs.Common.{◌≡◌, ℕ, Bool, true, false, List, [], ◌∷◌, ◌++◌, Option, Some, None, refl, sym, ap, ◌∙◌, subst}
use Rattle.std.specs.Prelude.{is_some}
use Rattle.c_tree.specs.declared.tree.BinOp.{BinOp}
use Rattle.c_tree.specs.declared.tree.Var.{Var}
use Rattle.c_tree.specs.declared.tree.Expr.{Expr}
use Rattle.c_tree.specs.declared.tree.Place.{Place}
use Rattle.c_tree.specs.declared.tree.Place.TheVariants as place
use Rattle.c_tree.specs.declared.tree.Stmt.TheVariants as stmt
use Rattle.c_tree.specs.declared.program.Func.{Func}
use Rattle.c_tree.specs.declared.program.Program.{Program}
use Rattle.c_tree.specs.declared.unit.Spot.{Spot}
use Rattle.c_tree.specs.declared.unit.RawExpr.{RawExpr}
use Rattle.c_tree.specs.declared.unit.RawPlace.{RawPlace}
use Rattle.c_tree.specs.declared.unit.RawPlace.TheVariants as raw_place
use Rattle.c_tree.specs.declared.unit.RawStmt.TheVariants.{Assign, Return}
use Rattle.c_tree.specs.Checking.Scopes.{Variable, Known, entity_of, variable}
use Rattle.c_tree.specs.Checking.Constants.{expr_of}
use Rattle.c_tree.specs.Checking.Naming.{Scope, optional_expr, place_of, stmt_locals, scope_behind, stmt_of}
use Rattle.c_tree.specs.Checking.Uses.{Assigned, Returned, expr_uses, optional_uses, place_uses, stmt_uses}
use Rattle.c_tree.specs.Checking.Refusals.{faults_of}
use Rattle.typed_laws.proofs.Faultless.{NamesVariable, use_clean, all_clean}
use Rattle.print_laws.specs.PrintedExpressions.{name_text}
use Rattle.print_laws.specs.Shown.{Shows, ShowsOptional, ShowsPlace}
use Rattle.print_laws.proofs.Again.Scoped.{Sees, AreNames, Follows}
use Rattle.print_laws.proofs.Again.FaultlessUses.{AreFaultless, faultless_parts, faultless_both, faultless_first, faultless_more, assigned_faultless, returned_elsewhere}
use Rattle.print_laws.proofs.Again.ExpressionsAgain.{name_seen, expr_seen, shown_again, optional_again}
use Rattle.print_laws.proofs.Again.ScopesAgain.{past_follows}
use Rattle.print_laws.proofs.Named.NamedScopes.{IsNamed}
use Rattle.print_laws.proofs.Again.DeclaredAgain.{IsAgain}

-- ---- places and assignments

pub record IsPlaceAgain (ls : List Known) (q : RawPlace) (v : Place) : Type 0 where
  pub place : place_of ls q ≡ v
  pub faultless : AreFaultless (place_uses ls q)

-- a name of a variable in a printed text
abbrev pub StandsFor : List Known → Spot → Var → Bool → Type 0
StandsFor ls y v array = entity_of ls y.name ≡ Some (Variable v array false)

scalar_place : (ls : List Known) (y : Spot) (v : Var) → StandsFor ls y v false → IsPlaceAgain ls (raw_place.Scalar y) (place.Scalar v)
scalar_place ls y v is =
    record { place = ap (λ o. place.Scalar (variable o)) is; faultless = faultless_more (Assigned y.at (entity_of ls y.name) false) [] (assigned_faultless y.at (entity_of ls y.name) v false is) refl }

elem_place : (ls : List Known) (y : Spot) (v : Var) (a : RawExpr) (b : Expr) → StandsFor ls y v true → expr_of ls a ≡ b → AreFaultless (expr_uses ls a) → IsPlaceAgain ls (raw_place.Elem y a) (place.Elem v b)
elem_place ls y v a b is same faultless = record {
  place = λ i. place.Elem (variable (is i)) (same i);
  faultless = faultless_more (Assigned y.at (entity_of ls y.name) true) (expr_uses ls a) (assigned_faultless y.at (entity_of ls y.name) v true is) faultless;
}

module _ (p : Program) (f : Func) (ks ls : List Known) (names : AreNames p f ks) (sees : Sees ks ls) where
  -- the printed name of what a name of the text stands for
  pub name_again : (x y : Spot) (indexed : Bool) → NamesVariable (entity_of ks x.name) indexed → y.name ≡ name_text p f (variable (entity_of ks x.name)) → StandsFor ls y (variable (entity_of ks x.name)) indexed
  name_again x y indexed h named = ap (entity_of ls) named ∙ name_seen p f ks ls names sees x.name indexed h

  pub place_again : (v : RawPlace) (q : RawPlace) → AreFaultless (place_uses ks v) → ShowsPlace p f q (place_of ks v) → IsPlaceAgain ls q (place_of ks v)
  place_again (raw_place.Scalar x) q faultless shows =
      let clean = use_clean (Assigned x.at (entity_of ks x.name) false) (faultless_first (Assigned x.at (entity_of ks x.name) false) [] faultless).0 in
      subst (λ r. IsPlaceAgain ls r (place_of ks (raw_place.Scalar x))) (sym shows.1) (scalar_place ls shows.0 (variable (entity_of ks x.name)) (name_again x shows.0 false clean shows.2))
  place_again (raw_place.Elem x i) q faultless shows =
      let parts = faultless_first (Assigned x.at (entity_of ks x.name) true) (expr_uses ks i) faultless in
      let clean = use_clean (Assigned x.at (entity_of ks x.name) true) parts.0 in
      let again = shown_again ls shows.4 (expr_seen p f ks ls names sees i (all_clean (expr_uses ks i) parts.1)) in
      let is = name_again x shows.0 true clean shows.3 in
      subst (λ r. IsPlaceAgain ls r (place_of ks (raw_place.Elem x i))) (sym shows.2) (elem_place ls shows.0 (variable (entity_of ks x.name)) shows.1 (expr_of ks i) is again.expr again.faultless)

pub assign_again : (p : Program) (f : Func) (s t : Scope) (v q : RawPlace) (o : Option BinOp) (b a : RawExpr) → Follows s t → IsNamed p f s [] → AreFaultless (place_uses s.known v ++ expr_uses s.known b)
    → ShowsPlace p f q (place_of s.known v) → Shows p f a (expr_of s.known b) → IsAgain s t (Assign v o b) (Assign q o a)
unfolding stmt_of stmt_locals stmt_uses scope_behind
assign_again p f s t v q o b a follows h faultless to shows =
    let parts = faultless_parts (place_uses s.known v) (expr_uses s.known b) faultless in
    let one = place_again p f s.known t.known h.names follows.sees v q parts.0 to in
    let two = shown_again t.known shows (expr_seen p f s.known t.known h.names follows.sees b (all_clean (expr_uses s.known b) parts.1)) in
    record {
      stmt = λ i. stmt.Assign (one.place i) o (two.expr i);
      locals = refl;
      follows = past_follows s t [] [] refl follows;
      faultless = faultless_both (place_uses t.known q) (expr_uses t.known a) one.faultless two.faultless;
    }

-- ---- `return`

pub return_again : (p : Program) (f : Func) (s t : Scope) (from to : ℕ) (b a : Option RawExpr) → Follows s t → IsNamed p f s [] → AreFaultless (Returned from (is_some b) (is_some s.result) ∷ optional_uses s.known b)
    → ShowsOptional p f a (optional_expr s.known b) → IsAgain s t (Return from b) (Return to a)
unfolding stmt_of stmt_locals stmt_uses scope_behind
return_again p f s t from to b a follows h faultless shows =
    let parts = faultless_first (Returned from (is_some b) (is_some s.result)) (optional_uses s.known b) faultless in
    let again = optional_again p f s.known t.known h.names follows.sees b a (all_clean (optional_uses s.known b) parts.1) shows in
    let there : is_some a ≡ is_some b = again.there ∙ is_there b in
    record {
      stmt = ap stmt.Return again.expr;
      locals = refl;
      follows = past_follows s t [] [] refl follows;
      faultless = faultless_more (Returned to (is_some a) (is_some t.result)) (optional_uses t.known a) ((λ i. faults_of (Returned to (there i) (is_some (follows.result i)))) ∙ returned_elsewhere from to (is_some b) (is_some s.result) parts.0) again.faultless;
    }
  where
    is_there : (b : Option RawExpr) → is_some (optional_expr s.known b) ≡ is_some b
    is_there None = refl
    is_there (Some e) = refl
