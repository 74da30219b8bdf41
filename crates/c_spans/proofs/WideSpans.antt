-- A capped span is above 2^64 where the span is.
use Rattle.std.proofs.Common.{◌≡◌, ℕ, ◌+◌, ◌^◌, min, Bool, Option, List, [], ◌∷◌, ◌++◌, map, refl, sym, arith}
use Rattle.std.specs.Prelude.{nat_lt}
use Rattle.std.proofs.lemmas.Bool.Decides.{nat_tests}
use Rattle.c_tree.specs.declared.tree.Ty.{Ty}
use Rattle.c_tree.specs.declared.unit.Spot.{Spot}
use Rattle.c_tree.specs.declared.unit.RawExpr.{RawExpr}
use Rattle.c_tree.specs.declared.unit.RawShape.{RawShape}
use Rattle.c_tree.specs.declared.unit.RawTop.{RawTop}
use Rattle.c_tree.specs.declared.unit.RawTop.TheVariants as top
use Rattle.c_tree.specs.Checking.Refusals.{Span, where_true, wide_func_faults}
use Rattle.c_spans.specs.Capped.{capped_span}

lt_min : (s c : ℕ) → nat_lt c (min s (c + 1)) ≡ nat_lt c s
lt_min s c = grind (arith, nat_tests)

lt_capped : (s : ℕ) → nat_lt (2 ^ 64) (capped_span s) ≡ nat_lt (2 ^ 64) s
unfolding capped_span
lt_capped s = lt_min s (2 ^ 64)

pub wide_func_faults-capped : (ss : List ℕ) (ts : List RawTop) → wide_func_faults (map capped_span ss) ts ≡ wide_func_faults ss ts
wide_func_faults-capped ss [] = refl
wide_func_faults-capped [] (t ∷ ts) = refl
wide_func_faults-capped (s ∷ ss) (top.Func g ∷ ts) = λ i. where_true (lt_capped s i) Span g.spot.at ++ wide_func_faults-capped ss ts i
wide_func_faults-capped (s ∷ ss) (top.Outer constant t x e ∷ ts) = wide_func_faults-capped (s ∷ ss) ts
wide_func_faults-capped (s ∷ ss) (top.Global kept constant t x sh ∷ ts) = wide_func_faults-capped (s ∷ ss) ts
