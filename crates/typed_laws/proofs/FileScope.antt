-- At file scope each name in scope stands for a global or a function that is there.
use Rattle.std.proofs.Common.{◌≡◌, ℕ, ◌+◌, Bool, List, [], ◌∷◌, ◌++◌, length, Option, Some, None, refl, sym, ap, ◌∙◌, subst, arith, append_assoc, length-append}
use Rattle.std.specs.Prelude.{is_some, option_map, slice_get}
use Rattle.c_tree.specs.declared.tree.Ty.{Ty}
use Rattle.c_tree.specs.declared.program.Func.{Func}
use Rattle.c_tree.specs.declared.unit.Spot.{Spot}
use Rattle.c_tree.specs.declared.unit.RawExpr.{RawExpr}
use Rattle.c_tree.specs.declared.unit.RawFunc.{RawFunc}
use Rattle.c_tree.specs.declared.unit.RawShape.{RawShape}
use Rattle.c_tree.specs.declared.unit.RawTop.{RawTop}
use Rattle.c_tree.specs.declared.unit.RawTop.TheVariants as top
use Rattle.c_tree.specs.Checking.Scopes.{Known}
use Rattle.c_tree.specs.Checking.Constants.{declared_length, shape_length}
use Rattle.c_tree.specs.Checking.Naming.{File, with_global, with_func, behind_top, known_funcs, file_start, func_in_file, funcs_of, globals_of}
use Rattle.c_tree.specs.Keeping.Layouts.{Shape, Layout, shape_of, global_shapes}
use Rattle.typed_laws.proofs.Standing.{IsThere, IsFunction, AllStand, stand_append}

pub get_seam : {A : Type 0} (xs : List A) (y : A) (ys : List A) → slice_get (xs ++ y ∷ ys) (length xs) ≡ Some y
get_seam [] y ys = refl
get_seam (x ∷ xs) y ys = get_seam xs y ys

pub length_more : {A : Type 0} (xs : List A) (y : A) (n : ℕ) → length xs ≡ n → length (xs ++ y ∷ []) ≡ n + 1
length_more xs y n h = omega (arith, h, length-append xs (y ∷ []))

abbrev pub with_locals : List Shape → List Shape → Layout
with_locals globals ls = record { locals = ls; globals = globals }

-- whatever locals there are, the names stand for what is there
abbrev pub StandAtFile : List Shape → List Func → List Known → Type 0
StandAtFile globals fs ks = (ls : List Shape) → AllStand (with_locals globals ls) fs ks

-- behind some declarations of a unit: these globals and functions are of those declarations, and the others follow
pub record AtFile (globals : List Shape) (fs : List Func) (f : File) (before : List Shape) (above : List Func) (ts : List RawTop) : Type 0 where
  pub stand : StandAtFile globals fs f.known
  pub more_globals : globals ≡ before ++ global_shapes (globals_of ts)
  pub count_globals : length before ≡ f.globals
  pub more_funcs : fs ≡ above ++ funcs_of f ts
  pub count_funcs : length above ≡ f.funcs

-- ---- functions

func_there : (fs above : List Func) (n : ℕ) (f : File) (g : RawFunc) (rest : List Func) → length above ≡ n → fs ≡ above ++ func_in_file f g ∷ rest → IsFunction (slice_get fs n) (length g.params) g.result
func_there fs above n f g rest count all =
    let here = ap (λ gs. slice_get gs n) all ∙ ap (λ k. slice_get (above ++ func_in_file f g ∷ rest) k) (sym count) ∙ get_seam above (func_in_file f g) rest in
    subst (λ o. IsFunction o (length g.params) g.result) (sym here) (refl, refl)

-- the functions of the unit, known before all
funcs_stand : (globals : List Shape) (fs above : List Func) (n : ℕ) (f : File) (ts : List RawTop) → length above ≡ n → fs ≡ above ++ funcs_of f ts → StandAtFile globals fs (known_funcs n ts)
funcs_stand globals fs above n f [] count all ls = tt
funcs_stand globals fs above n f (top.Outer constant t x e ∷ ts) count all ls =
    funcs_stand globals fs above n (behind_top f (top.Outer constant t x e)) ts count all ls
funcs_stand globals fs above n f (top.Global kept constant t x sh ∷ ts) count all ls =
    funcs_stand globals fs above n (behind_top f (top.Global kept constant t x sh)) ts count all ls
funcs_stand globals fs above n f (top.Func g ∷ ts) count all ls =
    let rest = funcs_of (with_func f g) ts in
    (func_there fs above n f g rest count all, funcs_stand globals fs (above ++ func_in_file f g ∷ []) (n + 1) (with_func f g) ts (length_more above (func_in_file f g) n count) (all ∙ sym (append_assoc above (func_in_file f g ∷ []) rest)) ls)

pub started_at : (ts : List RawTop) → AtFile (global_shapes (globals_of ts)) (funcs_of (file_start ts) ts) (file_start ts) [] [] ts
started_at ts = record {
  stand = funcs_stand (global_shapes (globals_of ts)) (funcs_of (file_start ts) ts) [] 0 (file_start ts) ts refl refl;
  more_globals = refl;
  count_globals = refl;
  more_funcs = refl;
  count_funcs = refl;
}

module _ (globals : List Shape) (fs : List Func) where
  -- a function is known behind its own declarator
  pub func_stands : (f : File) (g : RawFunc) (before : List Shape) (above : List Func) (ts : List RawTop) → AtFile globals fs f before above (top.Func g ∷ ts) → StandAtFile globals fs (with_func f g).known
  func_stands f g before above ts h ls =
      stand_append (with_locals globals ls) fs f.known _ (h.stand ls) (func_there fs above f.funcs f g (funcs_of (with_func f g) ts) h.count_funcs h.more_funcs, tt)

  pub behind_func : (f : File) (g : RawFunc) (before : List Shape) (above : List Func) (ts : List RawTop) → AtFile globals fs f before above (top.Func g ∷ ts) → AtFile globals fs (with_func f g) before (above ++ func_in_file f g ∷ []) ts
  behind_func f g before above ts h = record {
    stand = func_stands f g before above ts h;
    more_globals = h.more_globals;
    count_globals = h.count_globals;
    more_funcs = h.more_funcs ∙ sym (append_assoc above (func_in_file f g ∷ []) (funcs_of (with_func f g) ts));
    count_funcs = length_more above (func_in_file f g) f.funcs h.count_funcs;
  }

  -- ---- globals

  global_there : (before : List Shape) (n : ℕ) (t : Ty) (o : Option ℕ) (array : Bool) (rest : List Shape) → length before ≡ n → globals ≡ before ++ shape_of t o ∷ rest → is_some o ≡ array → IsThere (slice_get globals n) array
  global_there before n t o array rest count all same =
      let here = ap (λ gs. slice_get gs n) all ∙ ap (λ k. slice_get (before ++ shape_of t o ∷ rest) k) (sym count) ∙ get_seam before (shape_of t o) rest in
      subst (λ p. IsThere p array) (sym here) same

  pub behind_global : (f : File) (constant : Bool) (name : List ℕ) (array : Bool) (t : Ty) (o : Option ℕ) (before : List Shape) (above : List Func) (ts : List RawTop) → StandAtFile globals fs f.known → is_some o ≡ array
      → globals ≡ before ++ shape_of t o ∷ global_shapes (globals_of ts) → length before ≡ f.globals → fs ≡ above ++ funcs_of (with_global f constant name array) ts → length above ≡ f.funcs
      → AtFile globals fs (with_global f constant name array) (before ++ shape_of t o ∷ []) above ts
  behind_global f constant name array t o before above ts stand same all count funcs count_funcs = record {
    stand = λ ls. stand_append (with_locals globals ls) fs f.known _ (stand ls) (global_there before f.globals t o array (global_shapes (globals_of ts)) count all same, tt);
    more_globals = all ∙ sym (append_assoc before (shape_of t o ∷ []) (global_shapes (globals_of ts)));
    count_globals = length_more before (shape_of t o) f.globals count;
    more_funcs = funcs;
    count_funcs = count_funcs;
  }

  is_some_map : (e : Option RawExpr) (n : RawExpr → ℕ) → is_some (option_map n e) ≡ is_some e
  is_some_map None n = refl
  is_some_map (Some x) n = refl

  pub behind_outer : (f : File) (constant : Bool) (t : Ty) (x : Spot) (e : Option RawExpr) (before : List Shape) (above : List Func) (ts : List RawTop) → AtFile globals fs f before above (top.Outer constant t x e ∷ ts)
      → AtFile globals fs (behind_top f (top.Outer constant t x e)) (before ++ shape_of t (option_map (λ l. declared_length (Some l) None) e) ∷ []) above ts
  behind_outer f constant t x e before above ts h =
      behind_global f constant x.name (is_some e) t (option_map (λ l. declared_length (Some l) None) e) before above ts h.stand (is_some_map e (λ l. declared_length (Some l) None)) h.more_globals h.count_globals h.more_funcs h.count_funcs

  pub behind_inner : (f : File) (kept constant : Bool) (t : Ty) (x : Spot) (sh : RawShape) (before : List Shape) (above : List Func) (ts : List RawTop) → AtFile globals fs f before above (top.Global kept constant t x sh ∷ ts)
      → AtFile globals fs (behind_top f (top.Global kept constant t x sh)) (before ++ shape_of t (shape_length sh) ∷ []) above ts
  behind_inner f kept constant t x sh before above ts h =
      behind_global f constant x.name (is_some (shape_length sh)) t (shape_length sh) before above ts h.stand refl h.more_globals h.count_globals h.more_funcs h.count_funcs
