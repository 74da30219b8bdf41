-- In a unit without faults no name is declared twice at file scope, so the names of its program are different.
use Rattle.std.proofs.Common.{◌≡◌, ℕ, Bool, true, false, List, [], ◌∷◌, ◌++◌, map, Option, Some, None, refl, sym, ap, ◌∙◌, subst, append_assoc}
use Rattle.std.specs.Prelude.{unwrap_or}
use Rattle.std.proofs.lemmas.List.{map-append}
use Rattle.c_tree.specs.declared.unit.Spot.{Spot}
use Rattle.c_tree.specs.declared.unit.RawExpr.{RawExpr}
use Rattle.c_tree.specs.declared.unit.RawShape.{RawShape}
use Rattle.c_tree.specs.declared.unit.RawShape.TheVariants as shape
use Rattle.c_tree.specs.declared.unit.RawTop.{RawTop}
use Rattle.c_tree.specs.declared.unit.RawTop.TheVariants as top
use Rattle.c_tree.specs.Checking.Scopes.{Known, is_known_at}
use Rattle.c_tree.specs.Checking.Naming.{File, with_global, with_func, func_scope, body_scope, behind_top, globals_of, funcs_of}
use Rattle.c_tree.specs.Checking.Uses.{Use, Declared, length_uses, constant_uses, constants_uses, declared_at, sized_use, params_uses, stmts_uses, global_uses, outer_uses, top_uses, tops_uses}
use Rattle.c_tree.specs.Checking.Refusals.{faults_of}
use Rattle.print_laws.proofs.Again.FaultlessUses.{AreFaultless, faultless_parts, faultless_first}
use Rattle.print_laws.proofs.AtFileScope.DifferentNames.{IsNew, AreDifferent, AreNew, new_parts, new_append, are_new_parts, different_middle}
use Rattle.print_laws.proofs.AtFileScope.KnownNames.{AllKnown, IsAt, known_names, all_append, unknown_new}
use Rattle.print_laws.proofs.AtFileScope.FilesAgain.{global_names, func_names}

-- the name that a declaration declares
abbrev pub top_name : RawTop → List ℕ
top_name (top.Outer constant t x e) = x.name
top_name (top.Global kept constant t x sh) = x.name
top_name (top.Func g) = g.spot.name

-- the names that declarations declare
abbrev pub top_names : List RawTop → List (List ℕ)
top_names ts = map top_name ts

-- ---- each name is new

once : (at : ℕ) (again : Bool) → faults_of (Declared at again) ≡ [] → again ≡ false
once at true h = absurd (cc)
once at false h = refl

declared_new : (ks : List Known) (x : Spot) (us : List Use) → AreFaultless (declared_at ks 1 x ∷ us) → is_known_at ks 1 x.name ≡ false
declared_new ks x us h = once x.at (is_known_at ks 1 x.name) (faultless_first (declared_at ks 1 x) us h).0

global_once : (f : File) (constant : Bool) (x : Spot) (sh : RawShape) → AreFaultless (global_uses f constant x sh) → is_known_at f.known 1 x.name ≡ false
global_once f constant x (shape.Scalar None) h = declared_new f.known x [] h
global_once f constant x (shape.Scalar (Some e)) h = declared_new f.known x (constant_uses (with_global f constant x.name false).known e) h
global_once f constant x (shape.Array e es) h =
    let us : List Use = sized_use x e es false ∷ constants_uses (with_global f constant x.name true).known (unwrap_or es []) in
    declared_new f.known x us (faultless_parts (length_uses f.known e) (declared_at f.known 1 x ∷ us) h).1

outer_once : (f : File) (x : Spot) (e : Option RawExpr) → AreFaultless (outer_uses f x e) → is_known_at f.known 1 x.name ≡ false
outer_once f x None h = declared_new f.known x [] h
outer_once f x (Some e) h =
    let us : List Use = sized_use x (Some e) None false ∷ [] in
    declared_new f.known x us (faultless_parts (constant_uses f.known e) (declared_at f.known 1 x ∷ us) h).1

top_once : (f : File) (t : RawTop) → AreFaultless (top_uses f t) → is_known_at f.known 1 (top_name t) ≡ false
top_once f (top.Outer constant t x e) h = outer_once f x e h
top_once f (top.Global kept constant t x sh) h = global_once f constant x sh h
top_once f (top.Func g) h =
    declared_new f.known g.spot (params_uses (func_scope f g) g.params ++ stmts_uses (body_scope f g) g.body) h

-- ---- the names behind

-- what a declaration makes known
record Makes (f : File) (t : RawTop) : Type 0 where
  made : Known
  last : (behind_top f t).known ≡ f.known ++ made ∷ []
  named : made.name ≡ top_name t
  outermost : made.depth ≡ 1

makes : (f : File) (t : RawTop) → Makes f t
makes f (top.Outer constant t x e) = record { made = _; last = refl; named = refl; outermost = refl }
makes f (top.Global kept constant t x sh) = record { made = _; last = refl; named = refl; outermost = refl }
makes f (top.Func g) = record { made = _; last = refl; named = refl; outermost = refl }

pub names_different : (f : File) (ks ms : List Known) (ts : List RawTop) → f.known ≡ ks ++ ms → AllKnown (IsAt 0) ks → AllKnown (IsAt 1) ms → AreFaultless (tops_uses f ts) → AreDifferent (top_names ts) × AreNew (top_names ts) (known_names ms)
names_different f ks ms [] known h g faultless = (tt, tt)
names_different f ks ms (t ∷ ts) known h g faultless =
    let parts = faultless_parts (top_uses f t) (tops_uses (behind_top f t) ts) faultless in
    let new = unknown_new ks ms (top_name t) h g (ap (λ l. is_known_at l 1 (top_name t)) (sym known) ∙ top_once f t parts.0) in
    let m = makes f t in
    let more : List Known = ms ++ m.made ∷ [] in
    let all : (behind_top f t).known ≡ ks ++ more = m.last ∙ ap (λ l. l ++ m.made ∷ []) known ∙ append_assoc ks ms (m.made ∷ []) in
    let rest = names_different (behind_top f t) ks more ts all h (all_append (IsAt 1) ms (m.made ∷ []) g (m.outermost, tt)) parts.1 in
    let names : known_names more ≡ known_names ms ++ top_name t ∷ [] = map-append (λ (k : Known). k.name) ms (m.made ∷ []) ∙ ap (λ n. known_names ms ++ n ∷ []) m.named in
    let split = are_new_parts (top_names ts) (known_names ms) (top_name t) (subst (AreNew (top_names ts)) names rest.1) in
    ((split.1, rest.0), (new, split.0))

-- ---- the names of the program

new_among : (name : List ℕ) (f : File) (ts : List RawTop) → IsNew name (top_names ts) → IsNew name (global_names (globals_of ts) ++ func_names (funcs_of f ts))
new_among name f [] h = tt
new_among name f (top.Outer constant t x e ∷ ts) h = (h.0, new_among name (behind_top f (top.Outer constant t x e)) ts h.1)
new_among name f (top.Global kept constant t x sh ∷ ts) h = (h.0, new_among name (behind_top f (top.Global kept constant t x sh)) ts h.1)
new_among name f (top.Func g ∷ ts) h =
    let gs = global_names (globals_of ts) in
    let fs = func_names (funcs_of (with_func f g) ts) in
    let parts = new_parts name gs fs (new_among name (with_func f g) ts h.1) in
    new_append name gs (g.spot.name ∷ fs) parts.0 (h.0, parts.1)

pub program_different : (f : File) (ts : List RawTop) → AreDifferent (top_names ts) → AreDifferent (global_names (globals_of ts) ++ func_names (funcs_of f ts))
program_different f [] h = tt
program_different f (top.Outer constant t x e ∷ ts) h =
    let after = behind_top f (top.Outer constant t x e) in
    (new_among x.name after ts h.0, program_different after ts h.1)
program_different f (top.Global kept constant t x sh ∷ ts) h =
    let after = behind_top f (top.Global kept constant t x sh) in
    (new_among x.name after ts h.0, program_different after ts h.1)
program_different f (top.Func g ∷ ts) h =
    let after = with_func f g in
    different_middle g.spot.name (global_names (globals_of ts)) (func_names (funcs_of after ts)) (new_among g.spot.name after ts h.0) (program_different after ts h.1)
