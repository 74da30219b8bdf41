-- Calls of a printed text are the same as those of the text, and faultless.
use Rattle.std.proofs.Common.{◌≡◌, ℕ, Bool, false, List, [], ◌∷◌, ◌++◌, length, Option, Some, None, refl, sym, ap, ◌∙◌, subst}
use Rattle.c_tree.specs.declared.tree.Ty.{Ty}
use Rattle.c_tree.specs.declared.tree.Target.TheVariants as target
use Rattle.c_tree.specs.declared.tree.Stmt.TheVariants as stmt
use Rattle.c_tree.specs.declared.program.Func.{Func}
use Rattle.c_tree.specs.declared.program.Local.{Local}
use Rattle.c_tree.specs.declared.program.Program.{Program}
use Rattle.c_tree.specs.declared.unit.Spot.{Spot}
use Rattle.c_tree.specs.declared.unit.RawExpr.{RawExpr}
use Rattle.c_tree.specs.declared.unit.RawTarget.{RawTarget}
use Rattle.c_tree.specs.declared.unit.RawTarget.TheVariants as raw
use Rattle.c_tree.specs.declared.unit.RawStmt.TheVariants.{Call}
use Rattle.c_tree.specs.Checking.Scopes.{Entity, Variable, Function, Known, entity_of, variable, function_number}
use Rattle.c_tree.specs.Checking.Constants.{exprs_of}
use Rattle.c_tree.specs.Checking.Naming.{Scope, local_of, target_of, scope_behind_target, stmt_locals, scope_behind, stmt_of}
use Rattle.c_tree.specs.Checking.Uses.{Assigned, Called, declared_at, exprs_uses, target_uses, has_target, call_uses, stmt_uses}
use Rattle.c_tree.specs.Checking.Refusals.{faults_of}
use Rattle.typed_laws.proofs.Faultless.{NamesFunction, use_clean, all_clean}
use Rattle.typed_laws.proofs.Formed.FormedExpressions.{length_exprs}
use Rattle.print_laws.specs.PrintedExpressions.{name_text}
use Rattle.print_laws.specs.PrintedStatements.{func_name}
use Rattle.print_laws.specs.Shown.{ShowAll, DeclaresLocal, ShowsTarget, NamesFunc}
use Rattle.print_laws.proofs.Again.Scoped.{Sees, AreNames, Follows}
use Rattle.print_laws.proofs.Again.FaultlessUses.{AreFaultless, faultless_parts, faultless_both, faultless_first, faultless_more, assigned_faultless, called_elsewhere}
use Rattle.print_laws.proofs.Again.ExpressionsAgain.{exprs_seen, all_shown_again}
use Rattle.print_laws.proofs.Again.ScopesAgain.{past_follows, declared_follows}
use Rattle.print_laws.proofs.Named.NamedScopes.{IsNamed, targeted_named}
use Rattle.print_laws.proofs.Again.DeclaredAgain.{IsAgain, declared_once, same_local}
use Rattle.print_laws.proofs.Again.AssignedAgain.{name_again}

-- ---- targets

-- the target of a call is the same, and so is what it leaves behind, whatever is called
pub record IsTargetAgain (s t : Scope) (u w : RawTarget) : Type 0 where
  pub target : target_of t w ≡ target_of s u
  pub used : has_target w ≡ has_target u
  pub inner : Follows (scope_behind_target s u) (scope_behind_target t w)
  pub faultless : AreFaultless (target_uses t w)
  pub locals : (g h : Spot) (es fs : List RawExpr) → stmt_locals (Call w h fs) ≡ stmt_locals (Call u g es)
  pub follows : (g h : Spot) (es fs : List RawExpr) → Follows (scope_behind s (Call u g es)) (scope_behind t (Call w h fs))

module _ (p : Program) (f : Func) (s t : Scope) (after : Follows s t) where
  nothing_again : IsTargetAgain s t raw.Nothing raw.Nothing
  unfolding stmt_locals scope_behind
  nothing_again = record {
    target = refl;
    used = refl;
    inner = after;
    faultless = refl;
    locals = λ g h es fs. refl;
    follows = λ g h es fs. past_follows s t [] [] refl after;
  }

  assigned_again : (x y : Spot) → AreNames p f s.known → AreFaultless (target_uses s (raw.Assign x)) → y.name ≡ name_text p f (variable (entity_of s.known x.name)) → IsTargetAgain s t (raw.Assign x) (raw.Assign y)
  unfolding stmt_locals scope_behind
  assigned_again x y names faultless named =
      let e = entity_of s.known x.name in
      let clean = use_clean (Assigned x.at e false) (faultless_first (Assigned x.at e false) [] faultless).0 in
      let is = name_again p f s.known t.known names after.sees x y false clean named in
      record {
        target = ap (λ o. target.Assign (variable o)) is;
        used = refl;
        inner = after;
        faultless = faultless_more (Assigned y.at (entity_of t.known y.name) false) [] (assigned_faultless y.at (entity_of t.known y.name) (variable e) false is) refl;
        locals = λ g h es fs. refl;
        follows = λ g h es fs. past_follows s t [] [] refl after;
      }

  result_again : (constant : Bool) (u z : Ty) (x y : Spot) → IsNamed p f s (local_of u x.name None ∷ []) → AreFaultless (target_uses s (raw.Declare constant u x)) → DeclaresLocal f (length s.locals) z y None
      → IsTargetAgain s t (raw.Declare constant u x) (raw.Declare false z y)
  unfolding stmt_locals scope_behind
  result_again constant u z x y h faultless shown =
      let same = same_local p f s u z x y None None [] h shown in
      let inner = declared_follows s t constant u z x.name y.name None None same after in
      let once = (faultless_first (declared_at s.known s.depth x) [] faultless).0 in
      record {
        target = ap (λ (ls : List Local). target.Declare (length ls)) after.locals;
        used = refl;
        inner = inner;
        faultless = faultless_more (declared_at t.known t.depth y) [] (declared_once s t x y after (ap (λ (l : Local). l.name) same) once) refl;
        locals = λ g h es fs i. same i ∷ [];
        follows = λ g h es fs. inner;
      }

  target_again : (u w : RawTarget) (g : Spot) (es : List RawExpr) → IsNamed p f s (stmt_locals (Call u g es)) → AreFaultless (target_uses s u) → ShowsTarget p f w (target_of s u) → IsTargetAgain s t u w
  unfolding stmt_locals
  target_again raw.Nothing w g es h faultless shows = subst (IsTargetAgain s t raw.Nothing) (sym shows) nothing_again
  target_again (raw.Assign x) w g es h faultless shows =
      subst (IsTargetAgain s t (raw.Assign x)) (sym shows.1) (assigned_again x shows.0 h.names faultless shows.2)
  target_again (raw.Declare constant u x) w g es h faultless shows =
      subst (IsTargetAgain s t (raw.Declare constant u x)) (sym shows.2) (result_again constant u shows.0 x shows.1 h faultless shows.3)

-- ---- calls

-- the printed name of a function stands for it
callee_again : (p : Program) (f : Func) (ks ls : List Known) (x y : Spot) (o : Option Entity) (n caller : ℕ) (is_used : Bool) → AreNames p f ks → Sees ks ls → entity_of ks x.name ≡ o → NamesFunction o n is_used caller → NamesFunc p y (function_number o)
    → entity_of ls y.name ≡ o
unfolding func_name
callee_again p f ks ls x y None n caller is_used names sees is function named = absurd function
callee_again p f ks ls x y (Some (Variable v array constant)) n caller is_used names sees is function named = absurd function
callee_again p f ks ls x y (Some (Function g params result)) n caller is_used names sees is function named =
    let printed : y.name ≡ x.name = named.named ∙ sym (ap func_name named.there) ∙ names x.name (Function g params result) is in
    ap (entity_of ls) printed ∙ sees x.name (Function g params result) is

pub call_again : (p : Program) (f : Func) (s t : Scope) (u w : RawTarget) (x y : Spot) (es fs : List RawExpr) → Follows s t → IsNamed p f s (stmt_locals (Call u x es)) → AreFaultless (target_uses s u ++ call_uses (scope_behind_target s u) (has_target u) x es)
    → ShowsTarget p f w (target_of s u) → NamesFunc p y (function_number (entity_of (scope_behind_target s u).known x.name)) → ShowAll p f fs (exprs_of (scope_behind_target s u).known es) → IsAgain s t (Call u x es) (Call w y fs)
unfolding stmt_of stmt_uses
call_again p f s t u w x y es fs after h faultless to named shows =
    let one = (scope_behind_target s u).known in
    let two = (scope_behind_target t w).known in
    let parts = faultless_parts (target_uses s u) (call_uses (scope_behind_target s u) (has_target u) x es) faultless in
    let first = Called x.at (entity_of one x.name) (length es) (has_target u) (scope_behind_target s u).func in
    let call = faultless_first first (exprs_uses one es) parts.1 in
    let target = target_again p f s t after u w x es h parts.0 to in
    let inner = targeted_named p f s u x es h in
    let again = all_shown_again two shows (exprs_seen p f one two inner.names target.inner.sees es (all_clean (exprs_uses one es) call.1)) in
    let count : length fs ≡ length es = again.count ∙ length_exprs one es in
    let is = callee_again p f one two x y (entity_of one x.name) (length es) (scope_behind_target s u).func (has_target u) inner.names target.inner.sees refl (use_clean first call.0) named in
    let called = (λ i. faults_of (Called y.at (is i) (count i) (target.used i) (target.inner.func i))) ∙ called_elsewhere x.at y.at (entity_of one x.name) (length es) (has_target u) (scope_behind_target s u).func call.0 in
    record {
      stmt = λ i. stmt.Call (target.target i) (function_number (is i)) (again.exprs i);
      locals = target.locals x y es fs;
      follows = target.follows x y es fs;
      faultless = faultless_both (target_uses t w) (call_uses (scope_behind_target t w) (has_target w) y fs) target.faultless (faultless_more (Called y.at (entity_of two y.name) (length fs) (has_target w) (scope_behind_target t w).func) (exprs_uses two fs) called again.faultless);
    }
