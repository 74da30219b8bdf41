-- The functions above a function, and their work.
use Rattle.std.proofs.Common.{◌≡◌, ℕ, zero, suc, ◌+◌, ◌<◌, List, [], ◌∷◌, ◌++◌, take, length, Some, None, option_map, refl, sym, ap, ◌∙◌, arith, length-append}
use Rattle.std.specs.Prelude.{slice_get}
use Rattle.c_tree.specs.declared.program.Func.{Func}
use Rattle.c_tree.specs.Meaning.Statements.{Callee}
use Rattle.c_tree.specs.Meaning.Runs.{callee, callees}
use Rattle.c_tree.proofs.Keeping.Callees.{callee_at}
use Rattle.c_run.specs.Machine.{over}
use Rattle.c_run.specs.Work.{list_work, works, works_over}
use Rattle.plain_laws.proofs.Lists.{get-past, get-below, get-seam}

-- where there is a function above, those above it are the same
take_take : (fs : List Func) (f g : ℕ) (h : Func) → slice_get (take f fs) g ≡ Some h → take g (take f fs) ≡ take g fs
take_take [] zero g h e = absurd cc
take_take [] (suc f) g h e = absurd cc
take_take (x ∷ xs) zero g h e = absurd cc
take_take (x ∷ xs) (suc f) zero h e = refl
take_take (x ∷ xs) (suc f) (suc g) h e = ap (λ ys. x ∷ ys) (take_take xs f g h e)

pub over_at : (fs : List Func) (f g : ℕ) (h : Func) → slice_get (take f fs) g ≡ Some h → slice_get (over fs f) g ≡ Some (callee g h (over fs g))
over_at fs f g h e =
    let z : length {A = Callee} [] + g ≡ g = omega arith in
    let over_g = callees [] (take g (take f fs)) in
    ap (slice_get (over fs f)) (sym z) ∙ callee_at [] (take f fs) g ∙ ap (λ n. option_map (λ h. callee n h over_g) (slice_get (take f fs) g)) z ∙ ap (option_map (λ h. callee g h over_g)) e ∙ ap (λ gs. Some (callee g h (callees [] gs))) (take_take fs f g h e)

pub over_none : (fs : List Func) (f g : ℕ) → slice_get (take f fs) g ≡ None → slice_get (over fs f) g ≡ None
over_none fs f g e =
    let z : length {A = Callee} [] + g ≡ g = omega arith in
    ap (slice_get (over fs f)) (sym z) ∙ callee_at [] (take f fs) g ∙ ap (option_map (λ h. callee (length {A = Callee} [] + g) h (callees [] (take g (take f fs))))) e

-- ---- work

keep : (ws : List ℕ) (fs : List Func) (n : ℕ) → n < length ws → slice_get (works ws fs) n ≡ slice_get ws n
keep ws [] n lt = refl
keep ws (f ∷ fs) n lt =
    let w = list_work ws f.body in
    let len = length-append ws (w ∷ []) in
    keep (ws ++ w ∷ []) fs n (omega (arith, lt, len)) ∙ get-below ws (w ∷ []) n lt

work_of : (ws : List ℕ) (fs : List Func) (g : ℕ) → slice_get (works ws fs) (length ws + g) ≡ option_map (λ f. list_work (works ws (take g fs)) f.body) (slice_get fs g)
work_of ws [] g = get-past ws g
work_of ws (f ∷ fs) zero =
    let w = list_work ws f.body in
    let len = length-append ws (w ∷ []) in
    keep (ws ++ w ∷ []) fs (length ws + 0) (omega (arith, len)) ∙ get-seam ws w
work_of ws (f ∷ fs) (suc g) =
    let w = list_work ws f.body in
    let len = length-append ws (w ∷ []) in
    let e : length ws + suc g ≡ length (ws ++ w ∷ []) + g = omega (arith, len) in
    ap (slice_get (works (ws ++ w ∷ []) fs)) e ∙ work_of (ws ++ w ∷ []) fs g

pub works_at : (fs : List Func) (f g : ℕ) (h : Func) → slice_get (take f fs) g ≡ Some h → slice_get (works_over fs f) g ≡ Some (list_work (works_over fs g) h.body)
works_at fs f g h e =
    let z : length {A = ℕ} [] + g ≡ g = omega arith in
    ap (slice_get (works_over fs f)) (sym z) ∙ work_of [] (take f fs) g ∙ ap (option_map (λ h. list_work (works [] (take g (take f fs))) h.body)) e ∙ ap (λ gs. Some (list_work (works [] gs) h.body)) (take_take fs f g h e)
