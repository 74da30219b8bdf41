-- No span is above 2^64 where none is refused.
use Rattle.std.proofs.Common.{◌≡◌, ◌≤◌, ◌^◌, ℕ, Bool, List, [], ◌∷◌, ◌++◌, Option, refl, sym, ◌∙◌, append_assoc}
use Rattle.std.specs.Prelude.{nat_lt}
use Rattle.std.proofs.lemmas.Bool.{ltb-false}
use Rattle.c_tree.specs.declared.tree.Ty.{Ty}
use Rattle.c_tree.specs.declared.program.Func.{Func}
use Rattle.c_tree.specs.declared.unit.Spot.{Spot}
use Rattle.c_tree.specs.declared.unit.RawExpr.{RawExpr}
use Rattle.c_tree.specs.declared.unit.RawFunc.{RawFunc}
use Rattle.c_tree.specs.declared.unit.RawShape.{RawShape}
use Rattle.c_tree.specs.declared.unit.RawTop.{RawTop}
use Rattle.c_tree.specs.declared.unit.RawTop.TheVariants as top
use Rattle.c_tree.specs.Meaning.Spans.{func_span, spans}
use Rattle.c_tree.specs.Checking.Refusals.{Span, wide_func_faults}
use Rattle.typed_laws.proofs.Faultless.{first_none}
use Rattle.std.proofs.lemmas.List.{append-nil}

-- the spans of functions, over those above them
abbrev pub own_spans : List ℕ → List Func → List ℕ
own_spans ss [] = []
own_spans ss (f ∷ fs) = func_span ss f ∷ own_spans (ss ++ func_span ss f ∷ []) fs

pub spans_are : (ss : List ℕ) (fs : List Func) → spans ss fs ≡ ss ++ own_spans ss fs
spans_are ss [] = sym (append-nil ss)
spans_are ss (f ∷ fs) =
    spans_are (ss ++ func_span ss f ∷ []) fs ∙ append_assoc ss (func_span ss f ∷ []) (own_spans (ss ++ func_span ss f ∷ []) fs)

pub none_wide : (s : ℕ) (ss : List ℕ) (g : RawFunc) (ts : List RawTop) → wide_func_faults (s ∷ ss) (top.Func g ∷ ts) ≡ [] → (s ≤ 2 ^ 64) × (wide_func_faults ss ts ≡ [])
none_wide s ss g ts h =
    let parts = first_none (nat_lt (2 ^ 64) s) Span g.spot.at (wide_func_faults ss ts) h in (ltb-false (2 ^ 64) s parts.0, parts.1)
