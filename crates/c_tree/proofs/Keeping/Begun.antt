-- A run of a well-formed program on a fitting input begins with a store of the layout and with the arguments of the entry function.
use Rattle.std.proofs.Common.{◌≡◌, ◌≤◌, ℕ, zero, suc, ◌-◌, Bool, true, false, if◌then◌else◌, List, [], ◌∷◌, ◌++◌, length, take, drop, map, replicate, Option, Some, None, ℤ, pos, negsuc, refl, ap, ◌∙◌, arith, length-append}
use Rattle.std.specs.Prelude.{IsTrue, IsSome, IfSome, ◌&&◌, slice_get, unwrap_or}
use Rattle.std.proofs.lemmas.Bool.{and_parts}
use Rattle.c_tree.specs.declared.tree.Ty.{Ty}
use Rattle.c_tree.specs.declared.tree.Ty.TheVariants as ty
use Rattle.c_tree.specs.declared.program.Local.{Local as Declared}
use Rattle.c_tree.specs.declared.program.Global.{Global as Outside}
use Rattle.c_tree.specs.declared.program.Func.{Func}
use Rattle.c_tree.specs.declared.program.Program.{Program}
use Rattle.c_tree.specs.declared.program.Input.{Input}
use Rattle.c_tree.specs.Meaning.Values.{is_of, of_int, zero_of}
use Rattle.c_tree.specs.Meaning.Runs.{types_of, param_types, outer_types, entry_types, are_of, fits, global_slot, global_slots, arguments, callees}
use Rattle.c_tree.specs.Keeping.Layouts.{Shape, global_shapes, IsValueOf, AreValuesOf, IsSlotOf, EachSlot}
use Rattle.c_tree.specs.Keeping.WellFormed.{HasParams, AreNumbersOf, WellFormedGlobal, WellFormedGlobals, WellFormedFuncs, WellFormed}
use Rattle.c_tree.specs.Keeping.Kept.{AreValues}
use Rattle.c_tree.proofs.Keeping.Ranges.{zero_in}
use Rattle.c_tree.proofs.Keeping.SimpleKept.{replicate_are, length_replicate, append_are}
use Rattle.c_tree.proofs.Keeping.Called.{program_callees, callee_below}

-- ---- numbers

of_int_is : (t : Ty) (z : ℤ) → IsTrue (is_of t z) → IsValueOf t (of_int t z)
of_int_is ty.Int z h = record { same_type = refl; in_range = h }
of_int_is ty.Unsigned (pos n) h = record { same_type = refl; in_range = h }
of_int_is ty.Unsigned (negsuc n) h = absurd (cc)

numbers_are : (t : Ty) (zs : List ℤ) → AreNumbersOf t zs → AreValuesOf t (map (of_int t) zs)
numbers_are t [] h = tt
numbers_are t (z ∷ zs) h = (of_int_is t z h.0, numbers_are t zs h.1)

length_numbers : (t : Ty) (zs : List ℤ) → length (map (of_int t) zs) ≡ length zs
length_numbers t [] = refl
length_numbers t (z ∷ zs) = ap suc (length_numbers t zs)

slot_is : (t : Ty) (o : Option ℕ) (zs : List ℤ) → AreNumbersOf t zs → length zs ≤ unwrap_or o 1 → IsSlotOf t o (global_slot t o zs)
slot_is t None [] are count = zero_in t
slot_is t None (z ∷ zs) are count = of_int_is t z are.0
slot_is t (Some n) zs are count =
    let len : length (map (of_int t) zs ++ replicate (n - length zs) (zero_of t)) ≡ n = omega (arith, count, length-append (map (of_int t) zs) (replicate (n - length zs) (zero_of t)), length_numbers t zs, length_replicate (n - length zs) (zero_of t)) in
    (refl, (len, append_are t (map (of_int t) zs) (replicate (n - length zs) (zero_of t)) (numbers_are t zs are) (replicate_are t (n - length zs) (zero_of t) (zero_in t))))

-- ---- the numbers of an input

split_of : (ts us : List Ty) (zs : List ℤ) → are_of (ts ++ us) zs ≡ true → (are_of ts (take (length ts) zs) ≡ true) × (are_of us (drop (length ts) zs) ≡ true)
split_of [] us zs h = (refl, h)
split_of (t ∷ ts) us [] h = absurd (cc)
split_of (t ∷ ts) us (z ∷ zs) h =
    let parts = and_parts (is_of t z) (are_of (ts ++ us) zs) h in
    let rest = split_of ts us zs parts.1 in
    (both_true (is_of t z) (are_of ts (take (length ts) zs)) parts.0 rest.0, rest.1)
  where
    both_true : (a b : Bool) → a ≡ true → b ≡ true → (a && b) ≡ true
    both_true true b ha hb = hb
    both_true false b ha hb = absurd (cc)

arguments_are : (ts : List Ty) (zs : List ℤ) → are_of ts (take (length ts) zs) ≡ true → AreValues (arguments ts zs) × (length (arguments ts zs) ≡ length ts)
arguments_are [] zs h = (tt, refl)
arguments_are (t ∷ ts) [] h = absurd (cc)
arguments_are (t ∷ ts) (z ∷ zs) h =
    let parts = and_parts (is_of t z) (are_of ts (take (length ts) zs)) h in
    let rest = arguments_are ts zs parts.1 in
    (((of_int_is t z parts.0).in_range, rest.0), ap suc rest.1)

same_are : (n : ℕ) (t : Ty) (zs : List ℤ) → are_of (replicate n t) zs ≡ true → AreNumbersOf t zs × (length zs ≤ n)
same_are zero t [] h = (tt, omega arith)
same_are zero t (z ∷ zs) h = absurd (cc)
same_are (suc n) t [] h = absurd (cc)
same_are (suc n) t (z ∷ zs) h =
    let parts = and_parts (is_of t z) (are_of (replicate n t) zs) h in
    let rest = same_are n t zs parts.1 in
    ((parts.0, rest.0), omega (arith, rest.1))

outer_are : (t : Ty) (o : Option ℕ) (zs : List ℤ) → are_of (types_of t o) zs ≡ true → AreNumbersOf t zs × (length zs ≤ unwrap_or o 1)
outer_are t None [] h = absurd (cc)
outer_are t None (z ∷ []) h = ((h_of (is_of t z) h, tt), omega arith)
  where
    h_of : (a : Bool) → (a && true) ≡ true → a ≡ true
    h_of true e = refl
    h_of false e = e
outer_are t None (z ∷ y ∷ zs) h = let no : false ≡ true = (and_parts (is_of t z) false h).1 in absurd (cc)
outer_are t (Some n) zs h = same_are n t zs h

-- ---- globals

more_globals : (g : Outside) (gs : List Outside) (zs : List ℤ) → WellFormedGlobal g → ((ys : List ℤ) → are_of (outer_types gs) ys ≡ true → EachSlot IsSlotOf (global_shapes gs) (global_slots gs ys)) → (b : Bool) → are_of (if b then types_of g.ty g.length ++ outer_types gs else outer_types gs) zs ≡ true → EachSlot IsSlotOf (global_shapes (g ∷ gs)) (let w = length (types_of g.ty g.length) in if b then global_slot g.ty g.length (take w zs) ∷ global_slots gs (drop w zs) else global_slot g.ty g.length g.values ∷ global_slots gs zs)
more_globals g gs zs w rest true h =
    let parts = split_of (types_of g.ty g.length) (outer_types gs) zs h in
    let ys = take (length (types_of g.ty g.length)) zs in
    let numbers = outer_are g.ty g.length ys parts.0 in
    (slot_is g.ty g.length ys numbers.0 numbers.1, rest (drop (length (types_of g.ty g.length)) zs) parts.1)
more_globals g gs zs w rest false h = (slot_is g.ty g.length g.values w.numbers w.count, rest zs h)

globals_are : (gs : List Outside) (zs : List ℤ) → WellFormedGlobals gs → are_of (outer_types gs) zs ≡ true → EachSlot IsSlotOf (global_shapes gs) (global_slots gs zs)
globals_are [] zs w h = tt
globals_are (g ∷ gs) zs w h = more_globals g gs zs w.0 (λ ys. globals_are gs ys w.1) g.outer h

-- ---- runs

length_params : (n : ℕ) (ls : List Declared) → HasParams n ls → length (param_types n ls) ≡ n
length_params zero ls h = refl
length_params (suc n) [] h = absurd h
length_params (suc n) (l ∷ ls) h = ap suc (length_params n ls h.1)

params_at : (globals : List Shape) (above fs : List Func) (g : ℕ) → WellFormedFuncs globals above fs → IfSome (slice_get fs g) (λ f. HasParams f.params f.locals)
params_at globals above [] g w = tt
params_at globals above (f ∷ fs) zero w = w.0.params
params_at globals above (f ∷ fs) (suc g) w = params_at globals (above ++ f ∷ []) fs g w.1

entry_length : (o : Option Func) → IfSome o (λ f. HasParams f.params f.locals) → IfSome o (λ f. length (entry_types o) ≡ f.params)
entry_length None h = tt
entry_length (Some f) h = length_params f.params f.locals h

counted : (o : Option Func) (n m : ℕ) → n ≡ m → IfSome o (λ f. m ≡ f.params) → IfSome o (λ f. n ≡ f.params)
counted None n m e h = tt
counted (Some f) n m e h = e ∙ h

pub globals_begin : (p : Program) (i : Input) → WellFormed p → IsTrue (fits p i) → EachSlot IsSlotOf (global_shapes p.globals) (global_slots p.globals (drop (length (entry_types (slice_get p.funcs p.entry))) i.values))
globals_begin p i w h =
    let ts = entry_types (slice_get p.funcs p.entry) in
    globals_are p.globals (drop (length ts) i.values) w.globals (split_of ts (outer_types p.globals) i.values h).1

pub arguments_begin : (p : Program) (i : Input) → WellFormed p → IsTrue (fits p i) → AreValues (arguments (entry_types (slice_get p.funcs p.entry)) i.values)
arguments_begin p i w h =
    let ts = entry_types (slice_get p.funcs p.entry) in
    (arguments_are ts i.values (split_of ts (outer_types p.globals) i.values h).0).0

pub count_begins : (p : Program) (i : Input) → WellFormed p → IsTrue (fits p i) → IfSome (slice_get p.funcs p.entry) (λ f. length (arguments (entry_types (slice_get p.funcs p.entry)) i.values) ≡ f.params)
count_begins p i w h =
    let ts = entry_types (slice_get p.funcs p.entry) in
    let are = arguments_are ts i.values (split_of ts (outer_types p.globals) i.values h).0 in
    counted (slice_get p.funcs p.entry) (length (arguments ts i.values)) (length ts) are.1 (entry_length (slice_get p.funcs p.entry) (params_at (global_shapes p.globals) [] p.funcs p.entry w.funcs))

pub entry_begins : (p : Program) → WellFormed p → IsSome (slice_get (callees [] p.funcs) p.entry)
entry_begins p w =
    callee_below (global_shapes p.globals) p.funcs (callees [] p.funcs) (program_callees p w) p.entry w.entry
