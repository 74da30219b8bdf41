-- Where a declaration stands at file scope, in a text and in its printed text.
use Rattle.std.proofs.Common.{◌≡◌, ℕ, ◌+◌, Bool, true, false, List, [], ◌∷◌, ◌++◌, length, map, Option, Some, None, refl, sym, ap, ◌∙◌, subst, arith, append_assoc, append-nil}
use Rattle.std.specs.Prelude.{is_some, slice_get, option_map}
use Rattle.c_tree.specs.declared.tree.Ty.{Ty}
use Rattle.c_tree.specs.declared.program.Global.{Global as Outside}
use Rattle.c_tree.specs.declared.program.Func.{Func}
use Rattle.c_tree.specs.declared.program.Program.{Program}
use Rattle.c_tree.specs.declared.unit.Spot.{Spot}
use Rattle.c_tree.specs.declared.unit.RawExpr.{RawExpr}
use Rattle.c_tree.specs.declared.unit.RawFunc.{RawFunc}
use Rattle.c_tree.specs.declared.unit.RawShape.{RawShape}
use Rattle.c_tree.specs.declared.unit.RawTop.{RawTop}
use Rattle.c_tree.specs.declared.unit.RawTop.TheVariants as top
use Rattle.c_tree.specs.Checking.Constants.{declared_length, shape_length}
use Rattle.c_tree.specs.Checking.Scopes.{Function, Known}
use Rattle.c_tree.specs.Checking.Naming.{File, at_file_scope, shape_values, with_global, with_func, behind_top, known_funcs, file_start, func_in_file, funcs_of, globals_of}
use Rattle.typed_laws.proofs.FileScope.{get_seam, length_more}
use Rattle.print_laws.specs.Shown.{ShowsFunc, ShowsFuncs}
use Rattle.print_laws.proofs.AtFileScope.KnownNames.{AllKnown, IsShallow, all_append}
use Rattle.print_laws.proofs.AtFileScope.FilesAgain.{IsKnownOf, IsPlain}
use Rattle.print_laws.proofs.AtFileScope.PrintedKnown.{func_known, funcs_known, funcs_known_more, funcs_at, funcs_of_program, printed_known, file_known, globals_known, shallow}

-- ---- the functions of the whole unit

pub known_funcs_are : (n : ℕ) (f : File) (ts : List RawTop) → known_funcs n ts ≡ funcs_known 0 n (funcs_of f ts)
known_funcs_are n f [] = refl
known_funcs_are n f (top.Outer constant t x e ∷ ts) = known_funcs_are n (behind_top f (top.Outer constant t x e)) ts
known_funcs_are n f (top.Global kept constant t x sh ∷ ts) = known_funcs_are n (behind_top f (top.Global kept constant t x sh)) ts
known_funcs_are n f (top.Func g ∷ ts) = ap (λ ks. func_known 0 n (func_in_file f g) ∷ ks) (known_funcs_are (n + 1) (with_func f g) ts)

-- a printed function is known as the function
shown_known : (p : Program) (d n : ℕ) (h : RawFunc) (g : Func) → ShowsFunc p h g → record { name = h.spot.name; depth = d; entity = Function n (length h.params) h.result } ≡ func_known d n g
shown_known p d n h g shows =
    (λ i. record { name = shows.named i; depth = d; entity = Function n (shows.count i) (shows.result i) })

pub known_funcs_shown : (p : Program) (n : ℕ) (hs : List RawFunc) (fs : List Func) → ShowsFuncs p hs fs → known_funcs n (map top.Func hs) ≡ funcs_known 0 n fs
known_funcs_shown p n [] [] shows = refl
known_funcs_shown p n [] (f ∷ fs) shows = absurd shows
known_funcs_shown p n (h ∷ hs) [] shows = absurd shows
known_funcs_shown p n (h ∷ hs) (f ∷ fs) shows =
    (λ i. shown_known p 0 n h f shows.0 i ∷ known_funcs_shown p (n + 1) hs fs shows.1 i)

-- ---- in a text

-- behind some declarations of a unit, whose program has these globals and functions of them, and others of the rest
pub record IsTextAt (p : Program) (f : File) (before : List Outside) (above : List Func) (ts : List RawTop) : Type 0 where
  pub known : AllKnown (IsKnownOf p) f.known
  pub shallow : AllKnown IsShallow f.known
  pub more_globals : p.globals ≡ before ++ globals_of ts
  pub count_globals : length before ≡ f.globals
  pub more_funcs : p.funcs ≡ above ++ funcs_of f ts
  pub count_funcs : length above ≡ f.funcs

first_all : (P Q : Known → Type 0) (ks : List Known) → AllKnown (λ k. P k × Q k) ks → AllKnown P ks
first_all P Q [] h = tt
first_all P Q (k ∷ ks) h = (h.0.0, first_all P Q ks h.1)

pub text_started : (p : Program) (ts : List RawTop) → p.globals ≡ globals_of ts → p.funcs ≡ funcs_of (file_start ts) ts → IsTextAt p (file_start ts) [] [] ts
text_started p ts globals funcs =
    let is : known_funcs 0 ts ≡ funcs_known 0 0 p.funcs = known_funcs_are 0 (file_start ts) ts ∙ ap (funcs_known 0 0) (sym funcs) in
    record {
      known = subst (AllKnown (IsKnownOf p)) (sym is) (first_all (IsKnownOf p) IsPlain (funcs_known 0 0 p.funcs) (funcs_of_program p 0 0 [] p.funcs [] (sym (append-nil p.funcs)) refl));
      shallow = subst (AllKnown IsShallow) (sym is) (shallow 0 (funcs_known 0 0 p.funcs) (omega arith) (funcs_at 0 0 p.funcs));
      more_globals = globals;
      count_globals = refl;
      more_funcs = funcs;
      count_funcs = refl;
    }

module _ (p : Program) where
  -- a function is known behind its own declarator
  pub func_known_at : (f : File) (g : RawFunc) (before : List Outside) (above : List Func) (ts : List RawTop) → IsTextAt p f before above (top.Func g ∷ ts) → AllKnown (IsKnownOf p) (with_func f g).known
  func_known_at f g before above ts h =
      let here : slice_get p.funcs f.funcs ≡ Some (func_in_file f g) = ap (λ gs. slice_get gs f.funcs) h.more_funcs ∙ ap (λ k. slice_get (above ++ func_in_file f g ∷ funcs_of (with_func f g) ts) k) (sym h.count_funcs) ∙ get_seam above (func_in_file f g) (funcs_of (with_func f g) ts) in
      all_append (IsKnownOf p) f.known _ h.known (record { func = func_in_file f g; there = here; named = refl; params_are = refl; result_is = refl }, tt)

  pub func_shallow : (f : File) (g : RawFunc) → AllKnown IsShallow f.known → AllKnown IsShallow (with_func f g).known
  func_shallow f g h = all_append IsShallow f.known _ h (omega arith, tt)

  pub text_func : (f : File) (g : RawFunc) (before : List Outside) (above : List Func) (ts : List RawTop) → IsTextAt p f before above (top.Func g ∷ ts) → IsTextAt p (with_func f g) before (above ++ func_in_file f g ∷ []) ts
  text_func f g before above ts h = record {
    known = func_known_at f g before above ts h;
    shallow = func_shallow f g h.shallow;
    more_globals = h.more_globals;
    count_globals = h.count_globals;
    more_funcs = h.more_funcs ∙ sym (append_assoc above (func_in_file f g ∷ []) (funcs_of (with_func f g) ts));
    count_funcs = length_more above (func_in_file f g) f.funcs h.count_funcs;
  }

  text_global : (f : File) (constant : Bool) (array : Bool) (g : Outside) (before : List Outside) (above : List Func) (ts : List RawTop) → AllKnown (IsKnownOf p) f.known → AllKnown IsShallow f.known → is_some g.length ≡ array
      → p.globals ≡ before ++ g ∷ globals_of ts → length before ≡ f.globals → p.funcs ≡ above ++ funcs_of (with_global f constant g.name array) ts → length above ≡ f.funcs → IsTextAt p (with_global f constant g.name array) (before ++ g ∷ []) above ts
  text_global f constant array g before above ts known low shaped all count funcs count_funcs =
      let here : slice_get p.globals f.globals ≡ Some g = ap (λ gs. slice_get gs f.globals) all ∙ ap (λ k. slice_get (before ++ g ∷ globals_of ts) k) (sym count) ∙ get_seam before g (globals_of ts) in
      record {
        known = all_append (IsKnownOf p) f.known _ known (record { global = g; there = here; named = refl; shaped = shaped }, tt);
        shallow = all_append IsShallow f.known _ low (omega arith, tt);
        more_globals = all ∙ sym (append_assoc before (g ∷ []) (globals_of ts));
        count_globals = length_more before g f.globals count;
        more_funcs = funcs;
        count_funcs = count_funcs;
      }

  is_some_map : (e : Option RawExpr) (n : RawExpr → ℕ) → is_some (option_map n e) ≡ is_some e
  is_some_map None n = refl
  is_some_map (Some x) n = refl

  pub text_outer : (f : File) (constant : Bool) (t : Ty) (x : Spot) (e : Option RawExpr) (before : List Outside) (above : List Func) (ts : List RawTop) → IsTextAt p f before above (top.Outer constant t x e ∷ ts)
      → IsTextAt p (behind_top f (top.Outer constant t x e)) (before ++ record { name = x.name; ty = t; length = option_map (λ l. declared_length (Some l) None) e; outer = true; values = [] } ∷ []) above ts
  text_outer f constant t x e before above ts h =
      text_global f constant (is_some e) _ before above ts h.known h.shallow (is_some_map e (λ l. declared_length (Some l) None)) h.more_globals h.count_globals h.more_funcs h.count_funcs

  pub text_inner : (f : File) (kept constant : Bool) (t : Ty) (x : Spot) (sh : RawShape) (before : List Outside) (above : List Func) (ts : List RawTop) → IsTextAt p f before above (top.Global kept constant t x sh ∷ ts)
      → IsTextAt p (behind_top f (top.Global kept constant t x sh)) (before ++ record { name = x.name; ty = t; length = shape_length sh; outer = false; values = shape_values t sh } ∷ []) above ts
  text_inner f kept constant t x sh before above ts h =
      text_global f constant (is_some (shape_length sh)) _ before above ts h.known h.shallow refl h.more_globals h.count_globals h.more_funcs h.count_funcs

-- ---- in the printed text

-- behind its globals and some of its functions
pub record IsPrintedAt (p : Program) (f : File) (above more : List Func) : Type 0 where
  pub known : f.known ≡ printed_known p above
  pub more_funcs : p.funcs ≡ above ++ more
  pub count_funcs : length above ≡ f.funcs

pub printed_func : (p : Program) (f : File) (h : RawFunc) (g : Func) (above more : List Func) → ShowsFunc p h g → IsPrintedAt p f above (g ∷ more) → IsPrintedAt p (with_func f h) (above ++ g ∷ []) more
printed_func p f h g above more shows at =
    let n : 0 + length above ≡ f.funcs = omega (arith, at.count_funcs) in
    let same : at_file_scope h.spot.name (Function f.funcs (length h.params) h.result) ≡ func_known 1 (0 + length above) g = shown_known p 1 f.funcs h g shows ∙ ap (λ k. func_known 1 k g) (sym n) in
    let last : file_known p (above ++ g ∷ []) ≡ file_known p above ++ func_known 1 (0 + length above) g ∷ [] = ap (λ ks. globals_known 0 p.globals ++ ks) (funcs_known_more 1 0 above g) ∙ sym (append_assoc (globals_known 0 p.globals) (funcs_known 1 0 above) _) in
    record {
      known = (λ i. at.known i ++ same i ∷ []) ∙ append_assoc (funcs_known 0 0 p.funcs) (file_known p above) _ ∙ ap (λ ks. funcs_known 0 0 p.funcs ++ ks) (sym last);
      more_funcs = at.more_funcs ∙ sym (append_assoc above (g ∷ []) more);
      count_funcs = length_more above g f.funcs at.count_funcs;
    }
