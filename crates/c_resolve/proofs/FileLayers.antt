-- One declaration at file scope, as code opens it.
use Rattle.std.proofs.Common.{◌≡◌, ℕ, ◌+◌, add-zero, List, [], ◌∷◌, ◌++◌, refl, ap, sym}
use Rattle.c_tree.specs.declared.unit.RawTop.{RawTop}
use Rattle.c_tree.specs.declared.unit.RawTop.TheVariants as top
use Rattle.c_tree.specs.Checking.Naming.{File, behind_top, known_funcs, funcs_of, globals_of}
use Rattle.c_resolve.specs.Files.{top_funcs, top_globals, func_count}

pub funcs_of-cons : (f : File) (t : RawTop) (ts : List RawTop) → funcs_of f (t ∷ ts) ≡ top_funcs f t ++ funcs_of (behind_top f t) ts
funcs_of-cons f (top.Outer constant t x e) ts = refl
funcs_of-cons f (top.Global kept constant t x sh) ts = refl
funcs_of-cons f (top.Func g) ts = refl

pub globals_of-cons : (t : RawTop) (ts : List RawTop) → globals_of (t ∷ ts) ≡ top_globals t ++ globals_of ts
globals_of-cons (top.Outer constant t x e) ts = refl
globals_of-cons (top.Global kept constant t x sh) ts = refl
globals_of-cons (top.Func g) ts = refl

pub known_funcs-cons : (n : ℕ) (t : RawTop) (ts : List RawTop) → known_funcs n (t ∷ ts) ≡ known_funcs n (t ∷ []) ++ known_funcs (n + func_count t) ts
known_funcs-cons n (top.Outer constant t x e) ts = ap (λ m. known_funcs m ts) (sym (add-zero n))
known_funcs-cons n (top.Global kept constant t x sh) ts = ap (λ m. known_funcs m ts) (sym (add-zero n))
known_funcs-cons n (top.Func g) ts = refl
