-- The spans of a row of functions, and those of them that are too wide.
use Rattle.std.proofs.Common.{◌≡◌, ℕ, Bool, List, [], ◌∷◌, ◌++◌, Option, refl, sym}
use Rattle.c_tree.specs.declared.tree.Ty.{Ty}
use Rattle.c_tree.specs.declared.program.Func.{Func}
use Rattle.c_tree.specs.declared.unit.Spot.{Spot}
use Rattle.c_tree.specs.declared.unit.RawExpr.{RawExpr}
use Rattle.c_tree.specs.declared.unit.RawShape.{RawShape}
use Rattle.c_tree.specs.declared.unit.RawTop.{RawTop}
use Rattle.c_tree.specs.declared.unit.RawTop.TheVariants as top
use Rattle.c_tree.specs.Meaning.Spans.{func_span, spans}
use Rattle.c_tree.specs.Checking.Refusals.{wide_func_faults}

pub spans-push : (ss : List ℕ) (fs : List Func) (f : Func) → spans ss (fs ++ f ∷ []) ≡ spans ss fs ++ func_span (spans ss fs) f ∷ []
spans-push ss [] f = refl
spans-push ss (g ∷ fs) f = spans-push (ss ++ func_span ss g ∷ []) fs f

wide_none : (ts : List RawTop) → wide_func_faults [] ts ≡ []
wide_none [] = refl
wide_none (t ∷ ts) = refl

-- a declaration outside of functions has no span
pub wide_func_faults-Outer : (ss : List ℕ) (constant : Bool) (t : Ty) (x : Spot) (e : Option RawExpr) (ts : List RawTop) → wide_func_faults ss (top.Outer constant t x e ∷ ts) ≡ wide_func_faults ss ts
wide_func_faults-Outer [] constant t x e ts = sym (wide_none ts)
wide_func_faults-Outer (s ∷ ss) constant t x e ts = refl

pub wide_func_faults-Global : (ss : List ℕ) (kept constant : Bool) (t : Ty) (x : Spot) (sh : RawShape) (ts : List RawTop) → wide_func_faults ss (top.Global kept constant t x sh ∷ ts) ≡ wide_func_faults ss ts
wide_func_faults-Global [] kept constant t x sh ts = sym (wide_none ts)
wide_func_faults-Global (s ∷ ss) kept constant t x sh ts = refl
