-- The inputs of a program, declared one after the other.
use Rattle.std.proofs.Common.{◌≡◌, ◌<◌, ◌≤◌, ◌+◌, ℕ, zero, suc, Bool, true, false, if◌then◌else◌, List, [], ◌∷◌, ◌++◌, length, take, drop, get_or, Option, Some, None, refl, sym, ap, ◌∙◌, subst, arith, append-nil, length-append}
use Rattle.std.specs.Prelude.{map, replicate, slice_get}
use Rattle.std.proofs.lemmas.Option.{slice_get_read}
use Rattle.std.proofs.lemmas.List.{map-append, length-map, length-take}
use Rattle.c_tree.specs.declared.tree.Ty.{Ty}
use Rattle.c_tree.specs.declared.program.Local.{Local as Declared}
use Rattle.c_tree.specs.declared.program.Global.{Global as Outside}
use Rattle.c_tree.specs.declared.program.Func.{Func}
use Rattle.c_tree.specs.declared.program.Program.{Program}
use Rattle.c_tree.specs.Keeping.Layouts.{Shape, global_shapes}
use Rattle.c_tree.specs.Meaning.Runs.{types_of, param_types, outer_types, entry_types, input_types}
use Rattle.c_tree.specs.Keeping.WellFormed.{HasParams, WellFormed, WellFormedFuncs}
use Rattle.cond_laws.specs.TermPaths.{is_signed, width}

-- ---- globals

pub global_types : (g : Outside) (gs : List Outside) → outer_types (g ∷ gs) ≡ outer_types (g ∷ []) ++ outer_types gs
global_types g gs = by_outer g.outer
  where
    by_outer : (b : Bool) → (if b then types_of g.ty g.length ++ outer_types gs else outer_types gs) ≡ (if b then types_of g.ty g.length ++ [] else []) ++ outer_types gs
    by_outer true = ap (λ l. l ++ outer_types gs) (sym (append-nil (types_of g.ty g.length)))
    by_outer false = refl

pub globals_room : (gs : List Outside) (i : ℕ) (g : Outside) (xs ys : List Bool) → drop i gs ≡ g ∷ drop (i + 1) gs → ys ++ map is_signed (outer_types (drop i gs)) ≡ xs ++ map is_signed (outer_types gs) → length xs + length (outer_types gs) ≤ 64 → length ys + length (outer_types (g ∷ [])) ≤ 64
globals_room gs i g xs ys at h room =
    let rest = drop (i + 1) gs in
    omega (arith, ap length h, length-append ys (map is_signed (outer_types (drop i gs))), length-append xs (map is_signed (outer_types gs)), length-map (outer_types (drop i gs)) is_signed, length-map (outer_types gs) is_signed, ap (λ l. length (outer_types l)) at, ap length (global_types g rest), length-append (outer_types (g ∷ [])) (outer_types rest))

map_copies : (n : ℕ) (t : Ty) → map is_signed (replicate n t) ≡ replicate n (is_signed t)
map_copies zero t = refl
map_copies (suc n) t = ap (λ l. is_signed t ∷ l) (map_copies n t)

own_types : (t : Ty) (o : Option ℕ) → map is_signed (types_of t o ++ []) ≡ replicate (width o) (is_signed t)
own_types t None = refl
own_types t (Some n) = ap (map is_signed) (append-nil (replicate n t)) ∙ map_copies n t

-- what was declared for a global
pub outer_inputs : (g : Outside) (xs ys : List Bool) → g.outer ≡ true → ys ≡ xs ++ replicate (width g.length) (is_signed g.ty) → ys ≡ xs ++ map is_signed (outer_types (g ∷ []))
outer_inputs g xs ys outer e =
    e ∙ ap (λ l. xs ++ l) (sym (ap (λ b. map is_signed (if b then types_of g.ty g.length ++ [] else [])) outer ∙ own_types g.ty g.length))

-- ---- all inputs

pub func_params : (globals : List Shape) (above fs : List Func) (n : ℕ) (f : Func) → WellFormedFuncs globals above fs → slice_get fs n ≡ Some f → HasParams f.params f.locals
func_params globals above [] n f h is = absurd (cc is)
func_params globals above (x ∷ fs) zero f h is =
    let same : x ≡ f = cc is in
    subst (λ (f : Func). HasParams f.params f.locals) same h.0.params
func_params globals above (x ∷ fs) (suc n) f h is = func_params globals (above ++ x ∷ []) fs n f h.1 is

pub params_within : (n : ℕ) (ls : List Declared) → HasParams n ls → n ≤ length ls
params_within zero ls h = omega arith
params_within (suc n) [] h = absurd h
params_within (suc n) (l ∷ ls) h = omega (arith, params_within n ls h.1)

param_signs : (n : ℕ) (ls : List Declared) → map is_signed (param_types n ls) ≡ map (λ (l : Declared). is_signed l.ty) (take n ls)
param_signs zero ls = refl
param_signs (suc n) [] = refl
param_signs (suc n) (l ∷ ls) = ap (λ bs. is_signed l.ty ∷ bs) (param_signs n ls)

pub many_params : (n : ℕ) (ls : List Declared) → n ≤ length ls → length (param_types n ls) ≡ n
many_params zero ls h = refl
many_params (suc n) [] h = absurd (omega (arith, h))
many_params (suc n) (l ∷ ls) h = ap (λ k. suc k) (many_params n ls (omega arith))

pub inputs_are : (p : Program) (f : Func) → slice_get p.funcs p.entry ≡ Some f → map is_signed (input_types p) ≡ map (λ (l : Declared). is_signed l.ty) (take f.params f.locals) ++ map is_signed (outer_types p.globals)
inputs_are p f is =
    ap (λ o. map is_signed (entry_types o ++ outer_types p.globals)) is ∙ (map-append is_signed (param_types f.params f.locals) (outer_types p.globals) ∙ ap (λ l. l ++ map is_signed (outer_types p.globals)) (param_signs f.params f.locals))

pub inputs_count : (p : Program) (f : Func) → slice_get p.funcs p.entry ≡ Some f → HasParams f.params f.locals → length (input_types p) ≡ f.params + length (outer_types p.globals)
inputs_count p f is h =
    omega (arith, ap (λ o. length (entry_types o ++ outer_types p.globals)) is, length-append (param_types f.params f.locals) (outer_types p.globals), many_params f.params f.locals (params_within f.params f.locals h))

-- ---- the entry function

-- the function that was read at this place
pub read_func : (p q : Program) (fs : List Func) (f : Func) → q ≡ p → fs ≡ q.funcs → p.entry < length p.funcs → f ≡ get_or fs q.entry f → slice_get p.funcs p.entry ≡ Some f
read_func p q fs f view is lt at =
    let same : fs ≡ p.funcs = is ∙ ap (λ (x : Program). x.funcs) view in
    let read : f ≡ get_or p.funcs p.entry f = at ∙ (λ i. get_or (same i) ((view i).entry) f) in
    slice_get_read p.funcs (length p.funcs) p.entry f refl lt read

pub entry_params : (p : Program) (f : Func) → WellFormed p → slice_get p.funcs p.entry ≡ Some f → HasParams f.params f.locals
entry_params p f w is = func_params (global_shapes p.globals) [] p.funcs p.entry f w.funcs is

pub params_taken : (p : Program) (f : Func) (ls : List Declared) → WellFormed p → slice_get p.funcs p.entry ≡ Some f → ls ≡ f.locals → f.params ≡ length (take f.params ls)
params_taken p f ls w is same =
    omega (arith, length-take f.params ls, ap length same, params_within f.params f.locals (entry_params p f w is))

pub params_first : (p : Program) (f : Func) (ls : List Declared) (xs : List Bool) → WellFormed p → slice_get p.funcs p.entry ≡ Some f → ls ≡ f.locals → xs ≡ [] → length xs + length (take f.params ls) ≤ 64
params_first p f ls xs w is same none =
    omega (arith, ap length none, length-take f.params ls, inputs_count p f is (entry_params p f w is), w.inputs)

pub globals_then : (p : Program) (f : Func) (ls : List Declared) (gs : List Outside) (xs ys : List Bool) → WellFormed p → slice_get p.funcs p.entry ≡ Some f → ls ≡ f.locals → gs ≡ p.globals → xs ≡ [] → ys ≡ xs ++ map (λ (l : Declared). is_signed l.ty) (take f.params ls) → length ys + length (outer_types gs) ≤ 64
globals_then p f ls gs xs ys w is same there none e =
    omega (arith, ap length none, ap length e, length-append xs (map (λ (l : Declared). is_signed l.ty) (take f.params ls)), length-map (take f.params ls) (λ (l : Declared). is_signed l.ty), length-take f.params ls, ap (λ gs. length (outer_types gs)) there, inputs_count p f is (entry_params p f w is), w.inputs)

pub all_declared : (p : Program) (f : Func) (ls : List Declared) (gs : List Outside) (xs ys zs : List Bool) → slice_get p.funcs p.entry ≡ Some f → ls ≡ f.locals → gs ≡ p.globals → xs ≡ [] → ys ≡ xs ++ map (λ (l : Declared). is_signed l.ty) (take f.params ls) → zs ≡ ys ++ map is_signed (outer_types gs) → zs ≡ map is_signed (input_types p)
all_declared p f ls gs xs ys zs is same there none e d =
    let first : ys ≡ map (λ (l : Declared). is_signed l.ty) (take f.params f.locals) = e ∙ (λ i. none i ++ map (λ (l : Declared). is_signed l.ty) (take f.params (same i))) in
    d ∙ ((λ i. first i ++ map is_signed (outer_types (there i))) ∙ sym (inputs_are p f is))

-- the inputs of the parameters are declared, and those of the globals behind them
pub params_declared : (p : Program) (f : Func) (n : ℕ) → WellFormed p → slice_get p.funcs p.entry ≡ Some f → n ≡ length (input_types p) → 0 + f.params ≤ n
params_declared p f n w is e = omega (arith, inputs_count p f is (entry_params p f w is), e)

pub globals_declared : (p : Program) (f : Func) (gs : List Outside) (n : ℕ) → WellFormed p → slice_get p.funcs p.entry ≡ Some f → gs ≡ p.globals → n ≡ length (input_types p) → f.params + length (outer_types gs) ≤ n
globals_declared p f gs n w is there e =
    omega (arith, inputs_count p f is (entry_params p f w is), e, ap (λ gs. length (outer_types gs)) there)

pub few_inputs : (n m : ℕ) → n ≤ m → m ≤ 64 → n ≤ 64
few_inputs n m l h = omega arith
