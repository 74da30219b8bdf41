-- The function with the number g runs over those above it.
use Rattle.std.proofs.Common.{◌≡◌, ℕ, zero, suc, ◌+◌, ◌<◌, List, [], ◌∷◌, ◌++◌, take, length, Some, None, option_map, refl, sym, ap, ◌∙◌, arith, length-append}
use Rattle.std.specs.Prelude.{slice_get}
use Rattle.c_tree.specs.declared.program.Func.{Func}
use Rattle.c_tree.specs.Meaning.Statements.{Callee}
use Rattle.c_tree.specs.Meaning.Runs.{callee, callees}
use Rattle.plain_laws.proofs.Lists.{get-past, get-below, get-seam}

keep : (cs : List Callee) (fs : List Func) (n : ℕ) → n < length cs → slice_get (callees cs fs) n ≡ slice_get cs n
keep cs [] n lt = refl
keep cs (f ∷ fs) n lt =
    let c = callee (length cs) f cs in
    let len = length-append cs (c ∷ []) in
    keep (cs ++ c ∷ []) fs n (omega (arith, lt, len)) ∙ get-below cs (c ∷ []) n lt

pub callee_at : (cs : List Callee) (fs : List Func) (g : ℕ) → slice_get (callees cs fs) (length cs + g) ≡ option_map (λ f. callee (length cs + g) f (callees cs (take g fs))) (slice_get fs g)
callee_at cs [] g = get-past cs g
callee_at cs (f ∷ fs) zero =
    let c = callee (length cs) f cs in
    let len = length-append cs (c ∷ []) in
    let e : length cs ≡ length cs + 0 = omega arith in
    keep (cs ++ c ∷ []) fs (length cs + 0) (omega (arith, len)) ∙ get-seam cs c ∙ ap (λ n. Some (callee n f cs)) e
callee_at cs (f ∷ fs) (suc g) =
    let c = callee (length cs) f cs in
    let len = length-append cs (c ∷ []) in
    let e : length cs + suc g ≡ length (cs ++ c ∷ []) + g = omega (arith, len) in
    ap (slice_get (callees (cs ++ c ∷ []) fs)) e ∙ callee_at (cs ++ c ∷ []) fs g ∙ ap (λ n. option_map (λ f. callee n f (callees (cs ++ c ∷ []) (take g fs))) (slice_get fs g)) (sym e)
