-- The entry of a unit without faults is a function of its program, and its inputs are at most 64.
use Rattle.std.proofs.Common.{◌≡◌, ◌<◌, ◌≤◌, ℕ, zero, suc, ◌+◌, cond, Bool, true, false, List, [], ◌∷◌, length, map, replicate, Option, Some, None, refl, sym, ap, ◌∙◌, arith, length-append}
use Rattle.std.specs.Prelude.{not, if◌then◌else◌, is_none, bytes_eq, slice_get, unwrap_or, option_map, option_to_list}
use Rattle.std.specs.List.{position_or_len}
use Rattle.std.proofs.lemmas.Bool.{lt-ltb}
use Rattle.std.proofs.lemmas.Option.{slice_get_within}
use Rattle.std.proofs.lemmas.List.{length-map, length-replicate}
use Rattle.c_tree.specs.declared.tree.Ty.{Ty}
use Rattle.c_tree.specs.declared.program.Func.{Func}
use Rattle.c_tree.specs.declared.program.Local.{Local}
use Rattle.c_tree.specs.declared.unit.RawExpr.{RawExpr}
use Rattle.c_tree.specs.declared.unit.RawFunc.{RawFunc}
use Rattle.c_tree.specs.declared.unit.RawParam.{RawParam}
use Rattle.c_tree.specs.declared.unit.RawTop.{RawTop}
use Rattle.c_tree.specs.declared.unit.RawTop.TheVariants as top
use Rattle.c_tree.specs.Checking.Constants.{declared_length}
use Rattle.c_tree.specs.Checking.Naming.{File, with_func, behind_top, func_in_file, funcs_of, globals_of, entry_number}
use Rattle.c_tree.specs.Meaning.Runs.{types_of, param_types, outer_types, entry_types}
use Rattle.c_tree.specs.Keeping.WellFormed.{HasParams}
use Rattle.c_tree.specs.Checking.Refusals.{func_named, param_inputs, outer_count, outer_inputs}
use Rattle.typed_laws.proofs.Formed.FormedFunctions.{func_params}

-- ---- the function of a name

abbrev pub has_name : List ℕ → Func → Bool
has_name entry f = bytes_eq f.name entry

-- it is the function at this place, as some file scope makes it
abbrev IsMadeAt : List Func → ℕ → RawFunc → Type 0
IsMadeAt fs n g = (f : File) × (slice_get fs n ≡ Some (func_in_file f g))

named_first : (b : Bool) (k g : RawFunc) (o : Option RawFunc) (f : File) (fs : List Func) (n : ℕ) → (if b then Some k else o) ≡ Some g → (o ≡ Some g → IsMadeAt fs n g) → IsMadeAt (func_in_file f k ∷ fs) (cond (not b) (1 + n) 0) g
named_first true k g o f fs n h later = let same : k ≡ g = cc in (f, ap (λ x. Some (func_in_file f x)) same)
named_first false k g o f fs n h later =
    let e : 1 + n ≡ suc n = omega arith in
    let found = later h in
    (found.0, ap (slice_get (func_in_file f k ∷ fs)) e ∙ found.1)

named_at : (entry : List ℕ) (f : File) (ts : List RawTop) (g : RawFunc) → func_named entry ts ≡ Some g → IsMadeAt (funcs_of f ts) (position_or_len (has_name entry) (funcs_of f ts)) g
named_at entry f [] g h = absurd (cc)
named_at entry f (top.Outer constant t x e ∷ ts) g h = named_at entry (behind_top f (top.Outer constant t x e)) ts g h
named_at entry f (top.Global kept constant t x sh ∷ ts) g h = named_at entry (behind_top f (top.Global kept constant t x sh)) ts g h
named_at entry f (top.Func k ∷ ts) g h =
    named_first (bytes_eq k.spot.name entry) k g (func_named entry ts) f (funcs_of (with_func f k) ts) (position_or_len (has_name entry) (funcs_of (with_func f k) ts)) h (named_at entry (with_func f k) ts g)

-- the number of the entry
pub entry_at : (entry : List ℕ) (f : File) (ts : List RawTop) (g : RawFunc) → func_named entry ts ≡ Some g → IsMadeAt (funcs_of f ts) (unwrap_or (entry_number (funcs_of f ts) entry) 0) g
entry_at entry f ts g h =
    let fs = funcs_of f ts in
    let n : ℕ = position_or_len (has_name entry) fs in
    let found = named_at entry f ts g h in
    let within = slice_get_within fs n (func_in_file found.0 g) found.1 in
    let same = ap (λ b. unwrap_or (cond b (Some n) None) 0) (lt-ltb n (length fs) within) in
    (found.0, ap (slice_get fs) same ∙ found.1)

pub entry_below : (entry : List ℕ) (f : File) (ts : List RawTop) (g : RawFunc) → func_named entry ts ≡ Some g → unwrap_or (entry_number (funcs_of f ts) entry) 0 < length (funcs_of f ts)
entry_below entry f ts g h =
    let found = entry_at entry f ts g h in
    slice_get_within (funcs_of f ts) (unwrap_or (entry_number (funcs_of f ts) entry) 0) (func_in_file found.0 g) found.1

-- ---- inputs

length_params : (n : ℕ) (ls : List Local) → HasParams n ls → length (param_types n ls) ≡ n
length_params zero ls h = refl
length_params (suc n) [] h = absurd h
length_params (suc n) (l ∷ ls) h = ap suc (length_params n ls h.1)

-- as many as the entry has parameters
pub entry_inputs : (entry : List ℕ) (f : File) (ts : List RawTop) (g : RawFunc) → func_named entry ts ≡ Some g → length (entry_types (slice_get (funcs_of f ts) (unwrap_or (entry_number (funcs_of f ts) entry) 0))) ≡ length (param_inputs (func_named entry ts))
entry_inputs entry f ts g h =
    let found = entry_at entry f ts g h in
    let made = func_in_file found.0 g in
    ap (λ o. length (entry_types o)) found.1 ∙ length_params (length g.params) made.locals (func_params found.0 g)
    ∙ sym (length-map g.params (λ (p : RawParam). p.spot.at)) ∙ ap (λ o. length (param_inputs o)) (sym h)

outer_length : (t : Ty) (at : ℕ) (e : Option RawExpr) → length (types_of t (option_map (λ l. declared_length (Some l) None) e)) ≡ length (replicate (outer_count e) at)
outer_length t at None = refl
outer_length t at (Some e) =
    let n : ℕ = declared_length (Some e) None in length-replicate n t ∙ sym (length-replicate n at)

-- as many as the extern variables have numbers
pub outer_same : (ts : List RawTop) → length (outer_types (globals_of ts)) ≡ length (outer_inputs ts)
outer_same [] = refl
outer_same (top.Outer constant t x e ∷ ts) =
    let ns = types_of t (option_map (λ l. declared_length (Some l) None) e) in
    length-append ns (outer_types (globals_of ts)) ∙ (λ i. outer_length t x.at e i + outer_same ts i) ∙ sym (length-append (replicate (outer_count e) x.at) (outer_inputs ts))
outer_same (top.Global kept constant t x sh ∷ ts) = outer_same ts
outer_same (top.Func g ∷ ts) = outer_same ts

pub length_within : {A : Type 0} (xs : List A) (n : ℕ) → slice_get xs n ≡ None → length xs ≤ n
length_within [] n h = omega arith
length_within (x ∷ xs) zero h = absurd (cc)
length_within (x ∷ xs) (suc n) h = let rest = length_within xs n h in omega arith

pub none_listed : {A B : Type 0} (f : A → B) (o : Option A) → map f (option_to_list o) ≡ [] → o ≡ None
none_listed f None h = refl
none_listed f (Some x) h = absurd (cc)

pub named_some : (o : Option RawFunc) → is_none o ≡ false → (g : RawFunc) × (o ≡ Some g)
named_some None h = absurd (cc)
named_some (Some g) h = (g, refl)
