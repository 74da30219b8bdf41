-- What is known at file scope in a printed text: the functions of the whole text, the globals, and the functions so far.
use Rattle.std.proofs.Common.{◌≡◌, ◌≤◌, ℕ, ◌+◌, false, List, [], ◌∷◌, ◌++◌, length, Some, refl, sym, ap, ◌∙◌, subst, arith, append_assoc, append-nil}
use Rattle.std.specs.Prelude.{is_some, slice_get}
use Rattle.std.proofs.lemmas.List.{map-append}
use Rattle.c_tree.specs.declared.tree.Var.TheVariants.{Local, Global}
use Rattle.c_tree.specs.declared.program.Global.{Global as Outside}
use Rattle.c_tree.specs.declared.program.Func.{Func}
use Rattle.c_tree.specs.declared.program.Program.{Program}
use Rattle.c_tree.specs.Checking.Scopes.{Entity, Variable, Function, Known}
use Rattle.c_tree.specs.Checking.Naming.{at_file_scope}
use Rattle.typed_laws.proofs.FileScope.{get_seam, length_more}
use Rattle.print_laws.proofs.AtFileScope.DifferentNames.{IsNew, new_parts, new_at}
use Rattle.print_laws.proofs.AtFileScope.KnownNames.{AllKnown, IsAt, IsShallow, known_names, all_append}
use Rattle.print_laws.proofs.AtFileScope.FilesAgain.{global_names, func_names, IsKnownOf, IsOf, IsPlain, HasNames}

-- a function of a number, known at a depth
abbrev pub func_known : ℕ → ℕ → Func → Known
func_known d n f = record { name = f.name; depth = d; entity = Function n f.params f.result }

-- functions numbered from n on
abbrev pub funcs_known : ℕ → ℕ → List Func → List Known
funcs_known d n [] = []
funcs_known d n (f ∷ fs) = func_known d n f ∷ funcs_known d (n + 1) fs

-- a global of a number
abbrev pub global_known : ℕ → Outside → Known
global_known n g = at_file_scope g.name (Variable (Global n) (is_some g.length) false)

-- globals numbered from n on
abbrev pub globals_known : ℕ → List Outside → List Known
globals_known n [] = []
globals_known n (g ∷ gs) = global_known n g ∷ globals_known (n + 1) gs

-- behind the globals and these functions of a program
abbrev pub file_known : Program → List Func → List Known
file_known p above = globals_known 0 p.globals ++ funcs_known 1 0 above

-- and before them the functions of the whole text
abbrev pub printed_known : Program → List Func → List Known
printed_known p above = funcs_known 0 0 p.funcs ++ file_known p above

-- ---- one more

pub funcs_known_more : (d n : ℕ) (fs : List Func) (f : Func) → funcs_known d n (fs ++ f ∷ []) ≡ funcs_known d n fs ++ func_known d (n + length fs) f ∷ []
funcs_known_more d n [] f = let e : n ≡ n + 0 = omega arith in (λ i. func_known d (e i) f ∷ [])
funcs_known_more d n (g ∷ fs) f =
    let e : n + 1 + length fs ≡ n + length (g ∷ fs) = omega arith in
    ap (λ ks. func_known d n g ∷ ks) (funcs_known_more d (n + 1) fs f) ∙ ap (λ k. func_known d n g ∷ (funcs_known d (n + 1) fs ++ func_known d k f ∷ [])) e

pub globals_known_more : (n : ℕ) (gs : List Outside) (g : Outside) → globals_known n (gs ++ g ∷ []) ≡ globals_known n gs ++ global_known (n + length gs) g ∷ []
globals_known_more n [] g = let e : n ≡ n + 0 = omega arith in (λ i. global_known (e i) g ∷ [])
globals_known_more n (h ∷ gs) g =
    let e : n + 1 + length gs ≡ n + length (h ∷ gs) = omega arith in
    ap (λ ks. global_known n h ∷ ks) (globals_known_more (n + 1) gs g) ∙ ap (λ k. global_known n h ∷ (globals_known (n + 1) gs ++ global_known k g ∷ [])) e

-- ---- names and depths

names_of_funcs : (d n : ℕ) (fs : List Func) → known_names (funcs_known d n fs) ≡ func_names fs
names_of_funcs d n [] = refl
names_of_funcs d n (f ∷ fs) = ap (λ ns. f.name ∷ ns) (names_of_funcs d (n + 1) fs)

pub names_of_globals : (n : ℕ) (gs : List Outside) → known_names (globals_known n gs) ≡ global_names gs
names_of_globals n [] = refl
names_of_globals n (g ∷ gs) = ap (λ ns. g.name ∷ ns) (names_of_globals (n + 1) gs)

pub names_of_file : (p : Program) (above : List Func) → known_names (file_known p above) ≡ global_names p.globals ++ func_names above
names_of_file p above =
    map-append (λ (k : Known). k.name) (globals_known 0 p.globals) (funcs_known 1 0 above) ∙ (λ i. names_of_globals 0 p.globals i ++ names_of_funcs 1 0 above i)

pub funcs_at : (d n : ℕ) (fs : List Func) → AllKnown (IsAt d) (funcs_known d n fs)
funcs_at d n [] = tt
funcs_at d n (f ∷ fs) = (refl, funcs_at d (n + 1) fs)

pub globals_at : (n : ℕ) (gs : List Outside) → AllKnown (IsAt 1) (globals_known n gs)
globals_at n [] = tt
globals_at n (g ∷ gs) = (refl, globals_at (n + 1) gs)

pub file_at : (p : Program) (above : List Func) → AllKnown (IsAt 1) (file_known p above)
file_at p above = all_append (IsAt 1) (globals_known 0 p.globals) (funcs_known 1 0 above) (globals_at 0 p.globals) (funcs_at 1 0 above)

pub shallow : (d : ℕ) (ks : List Known) → d ≤ 1 → AllKnown (IsAt d) ks → AllKnown IsShallow ks
shallow d [] low h = tt
shallow d (k ∷ ks) low h = (omega (arith, h.0, low), shallow d ks low h.1)

pub printed_shallow : (p : Program) (above : List Func) → AllKnown IsShallow (printed_known p above)
printed_shallow p above =
    all_append IsShallow (funcs_known 0 0 p.funcs) (file_known p above) (shallow 0 _ (omega arith) (funcs_at 0 0 p.funcs)) (shallow 1 _ (omega arith) (file_at p above))

-- ---- each is of the program

-- of the program, and not `const`
abbrev pub IsPlainOf : Program → Known → Type 0
IsPlainOf p k = IsKnownOf p k × IsPlain k

pub funcs_of_program : (p : Program) (d n : ℕ) (before fs after : List Func) → p.funcs ≡ before ++ (fs ++ after) → length before ≡ n → AllKnown (IsPlainOf p) (funcs_known d n fs)
funcs_of_program p d n before [] after all count = tt
funcs_of_program p d n before (f ∷ fs) after all count =
    let here : slice_get p.funcs n ≡ Some f = ap (λ gs. slice_get gs n) all ∙ ap (λ k. slice_get (before ++ f ∷ (fs ++ after)) k) (sym count) ∙ get_seam before f (fs ++ after) in
    ((record { func = f; there = here; named = refl; params_are = refl; result_is = refl }, refl), funcs_of_program p d (n + 1) (before ++ f ∷ []) fs after (all ∙ sym (append_assoc before (f ∷ []) (fs ++ after))) (length_more before f n count))

globals_of_program : (p : Program) (n : ℕ) (before gs : List Outside) → p.globals ≡ before ++ gs → length before ≡ n → AllKnown (IsPlainOf p) (globals_known n gs)
globals_of_program p n before [] all count = tt
globals_of_program p n before (g ∷ gs) all count =
    let here : slice_get p.globals n ≡ Some g = ap (λ hs. slice_get hs n) all ∙ ap (λ k. slice_get (before ++ g ∷ gs) k) (sym count) ∙ get_seam before g gs in
    ((record { global = g; there = here; named = refl; shaped = refl }, refl), globals_of_program p (n + 1) (before ++ g ∷ []) gs (all ∙ sym (append_assoc before (g ∷ []) gs)) (length_more before g n count))

pub printed_of : (p : Program) (above more : List Func) → p.funcs ≡ above ++ more → AllKnown (IsPlainOf p) (printed_known p above)
printed_of p above more all =
    let whole : p.funcs ≡ p.funcs ++ [] = sym (append-nil p.funcs) in
    all_append (IsPlainOf p) (funcs_known 0 0 p.funcs) (file_known p above) (funcs_of_program p 0 0 [] p.funcs [] whole refl)
    (all_append (IsPlainOf p) (globals_known 0 p.globals) (funcs_known 1 0 above) (globals_of_program p 0 [] p.globals refl refl) (funcs_of_program p 1 0 [] above more all refl))

-- ---- each name of the program is there

printed_names : (p : Program) (above : List Func) → known_names (printed_known p above) ≡ func_names p.funcs ++ (global_names p.globals ++ func_names above)
printed_names p above =
    map-append (λ (k : Known). k.name) (funcs_known 0 0 p.funcs) (file_known p above) ∙ (λ i. names_of_funcs 0 0 p.funcs i ++ names_of_file p above i)

no_name : (p : Program) (name : List ℕ) (e : Entity) → IsOf p name e → IsNew name (func_names p.funcs) → IsNew name (global_names p.globals) → ⊥
no_name p name (Variable (Local n) a c) h f g = h
no_name p name (Variable (Global n) a c) h f g = new_at (λ (o : Outside). o.name) name p.globals n h.global g h.there (sym h.named)
no_name p name (Function n c r) h f g = new_at (λ (k : Func). k.name) name p.funcs n h.func f h.there (sym h.named)

pub printed_has : (p : Program) (above : List Func) → HasNames p (printed_known p above)
printed_has p above name e is new =
    let parts = new_parts name (func_names p.funcs) (global_names p.globals ++ func_names above) (subst (IsNew name) (printed_names p above) new) in
    no_name p name e is parts.0 (new_parts name (global_names p.globals) (func_names above) parts.1).0
