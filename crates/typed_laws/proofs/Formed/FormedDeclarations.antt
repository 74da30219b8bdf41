-- A declaration of a local, in a scope whose names stand for what is there, is well-formed.
use Rattle.std.proofs.Common.{◌≡◌, ◌≤◌, ℕ, Bool, true, false, List, [], ◌∷◌, length, Some, None, refl, sym, subst}
use Rattle.std.specs.Prelude.{IsTrue, slice_get}
use Rattle.c_tree.specs.declared.tree.Ty.{Ty}
use Rattle.c_tree.specs.declared.program.Func.{Func}
use Rattle.c_tree.specs.declared.program.Local.{Local}
use Rattle.c_tree.specs.declared.unit.Spot.{Spot}
use Rattle.c_tree.specs.declared.unit.RawShape.{RawShape}
use Rattle.c_tree.specs.declared.unit.RawShape.TheVariants as shape
use Rattle.c_tree.specs.Checking.Constants.{exprs_of, declared_length, shape_length}
use Rattle.c_tree.specs.Checking.Naming.{Scope, local_of, scope_with_local, declaration_stmt}
use Rattle.c_tree.specs.Keeping.Layouts.{shape_of, is_scalar}
use Rattle.c_tree.specs.Keeping.WellFormed.{Context, FitsArray, WellFormedStmt}
use Rattle.c_tree.specs.Checking.Uses.{length_uses, declared_at, sized_use, list_uses, declarator_uses}
use Rattle.typed_laws.specs.Shaped.{ShapedShape}
use Rattle.typed_laws.proofs.Faultless.{AllClean, clean_parts}
use Rattle.typed_laws.proofs.Inside.{Inside, next_there, declared_inside}
use Rattle.typed_laws.proofs.Formed.FormedExpressions.{exprs_formed, optional_formed, length_exprs}

module _ (c : Context) (fs : List Func) where
  scalar_there : (s : Scope) (t : Ty) (name : List ℕ) (ms : List Local) → Inside c fs s (local_of t name None ∷ ms) → IsTrue (is_scalar (slice_get c.layout.locals (length s.locals)))
  scalar_there s t name ms h =
      subst (λ o. IsTrue (is_scalar o)) (sym (next_there c fs s (local_of t name None) ms h)) refl

  array_fits : (s : Scope) (t : Ty) (name : List ℕ) (n m k : ℕ) (ms : List Local) → Inside c fs s (local_of t name (Some n) ∷ ms) → k ≡ m → 1 ≤ m → m ≤ n → FitsArray (slice_get c.layout.locals (length s.locals)) k
  array_fits s t name n m k ms h same low high =
      subst (λ o. FitsArray o k) (sym (next_there c fs s (local_of t name (Some n)) ms h)) (subst (λ j. FitsArray (Some (shape_of t (Some n))) j) (sym same) (low, high))

  pub declaration_formed : (s : Scope) (looped constant : Bool) (t : Ty) (x : Spot) (sh : RawShape) (ms : List Local) → Inside c fs s (local_of t x.name (shape_length sh) ∷ ms) → ShapedShape sh → AllClean (declarator_uses s constant t x sh)
      → WellFormedStmt c looped (declaration_stmt (scope_with_local s constant t x.name (shape_length sh)).known (length s.locals) sh)
  unfolding WellFormedStmt
  declaration_formed s looped constant t x (shape.Scalar e) ms h shaped clean =
      let inner = declared_inside c fs s constant t x.name None ms h in
      (scalar_there s t x.name ms h, optional_formed c.layout fs (scope_with_local s constant t x.name None).known inner.stand e shaped clean.1)
  declaration_formed s looped constant t x (shape.Array e None) ms h shaped clean =
      let parts = clean_parts (length_uses s.known e) (declared_at s.known s.depth x ∷ (sized_use x e None true ∷ [])) clean in
      let no : true ≡ false = parts.1.1.0.1 in
      absurd (cc)
  declaration_formed s looped constant t x (shape.Array e (Some es)) ms h shaped clean =
      let n = declared_length e (Some es) in
      let after = scope_with_local s constant t x.name (Some n) in
      let inner = declared_inside c fs s constant t x.name (Some n) ms h in
      let parts = clean_parts (length_uses s.known e) (declared_at s.known s.depth x ∷ (sized_use x e (Some es) true ∷ list_uses after.known (Some es))) clean in
      (array_fits s t x.name n (length es) (length (exprs_of after.known es)) ms h (length_exprs after.known es) shaped.1.0 parts.1.1.0.1, exprs_formed c.layout fs after.known inner.stand es shaped.1.1 parts.1.1.1)
