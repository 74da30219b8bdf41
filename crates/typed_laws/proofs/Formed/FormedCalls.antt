-- A call in a scope whose names stand for what is there is well-formed.
use Rattle.std.proofs.Common.{◌≡◌, ℕ, zero, suc, ◌<◌, List, [], ◌∷◌, ◌++◌, length, Option, Some, None, refl, sym, ap, ◌∙◌, subst, arith}
use Rattle.std.specs.Prelude.{IsTrue, IfSome, slice_get}
use Rattle.c_tree.specs.declared.tree.Ty.{Ty}
use Rattle.c_tree.specs.declared.program.Func.{Func}
use Rattle.c_tree.specs.declared.program.Local.{Local}
use Rattle.c_tree.specs.declared.unit.RawTarget.{RawTarget}
use Rattle.c_tree.specs.declared.unit.RawTarget.TheVariants as target
use Rattle.c_tree.specs.Checking.Scopes.{Entity, Variable, Function, entity_of, function_number}
use Rattle.c_tree.specs.Checking.Naming.{Scope, local_of, target_of, scope_behind_target}
use Rattle.c_tree.specs.Keeping.Layouts.{is_scalar}
use Rattle.c_tree.specs.Keeping.WellFormed.{Context, WellFormedTarget, WellFormedCallee, gives_for}
use Rattle.c_tree.specs.Checking.Uses.{target_uses, has_target}
use Rattle.typed_laws.proofs.Faultless.{NamesFunction, gives, AllClean}
use Rattle.typed_laws.proofs.Standing.{IsFunction, Stands, name_stands, scalar_named}
use Rattle.typed_laws.proofs.Inside.{Inside, next_there, declared_inside}
use Rattle.plain_laws.proofs.Lists.{get-below}

gives_to : (s : Scope) (t : RawTarget) (r : Option Ty) → IsTrue (gives (has_target t) r) → IsTrue (gives_for r (target_of s t))
gives_to s target.Nothing r h = refl
gives_to s (target.Assign x) r h = h
gives_to s (target.Declare constant u x) r h = h

callee_of : (s : Scope) (t : RawTarget) (o : Option Func) (n params : ℕ) (r : Option Ty) → IsFunction o params r → n ≡ params → IsTrue (gives (has_target t) r) → WellFormedCallee o n (target_of s t)
callee_of s t None n params r is same used = absurd is
callee_of s t (Some f) n params r is same used =
    (same ∙ sym is.0, subst (λ q. IsTrue (gives_for q (target_of s t))) (sym is.1) (gives_to s t r used))

-- the locals that a target declares
abbrev pub target_locals : RawTarget → List Local
target_locals target.Nothing = []
target_locals (target.Assign x) = []
target_locals (target.Declare constant t x) = local_of t x.name None ∷ []

module _ (c : Context) (fs : List Func) where
  pub callee_formed : (s : Scope) (t : RawTarget) (ls : List Local) (e : Option Entity) (n caller : ℕ) → Inside c fs s ls → caller ≡ s.func → IfSome e (Stands c.layout fs) → NamesFunction e n (has_target t) caller
      → WellFormedCallee (slice_get c.above (function_number e)) n (target_of s t)
  callee_formed s t ls None n caller h from stands names = absurd names
  callee_formed s t ls (Some (Variable v array constant)) n caller h from stands names = absurd names
  callee_formed s t ls (Some (Function g params r)) n caller h from stands names =
      let below : g < length c.above = omega (arith, names.1.1, from, h.func) in
      let here = ap (λ gs. slice_get gs g) h.all ∙ get-below c.above h.more g below in
      callee_of s t (slice_get c.above g) n params r (subst (λ o. IsFunction o params r) here stands) names.0 names.1.0

  pub target_formed : (s : Scope) (t : RawTarget) (ms : List Local) → Inside c fs s (target_locals t ++ ms) → AllClean (target_uses s t) → WellFormedTarget c.layout (target_of s t)
  target_formed s target.Nothing ms h clean = tt
  target_formed s (target.Assign x) ms h clean =
      scalar_named c.layout fs (entity_of s.known x.name) (name_stands c.layout fs s.known x.name h.stand) clean.0
  target_formed s (target.Declare constant t x) ms h clean =
      subst (λ o. IsTrue (is_scalar o)) (sym (next_there c fs s (local_of t x.name None) ms h)) refl

  pub targeted_inside : (s : Scope) (t : RawTarget) (ms : List Local) → Inside c fs s (target_locals t ++ ms) → Inside c fs (scope_behind_target s t) ms
  targeted_inside s target.Nothing ms h = h
  targeted_inside s (target.Assign x) ms h = h
  targeted_inside s (target.Declare constant t x) ms h = declared_inside c fs s constant t x.name None ms h

pub targeted_func : (s : Scope) (t : RawTarget) → (scope_behind_target s t).func ≡ s.func
targeted_func s target.Nothing = refl
targeted_func s (target.Assign x) = refl
targeted_func s (target.Declare constant t x) = refl
