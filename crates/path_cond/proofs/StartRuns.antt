-- The code of inputs and initialisers runs their scripts, up to the memory that a run begins with.
use Rattle.std.proofs.Common.{◌≡◌, ◌<◌, ◌≤◌, ◌+◌, ◌-◌, ◌^◌, ℕ, zero, suc, Bool, true, false, if◌then◌else◌, List, [], ◌∷◌, ◌++◌, length, get_or, Option, Some, None, ℤ, refl, sym, ap, ◌∙◌, subst, arith, length-append}
use Rattle.std.specs.Prelude.{slice_get}
use Rattle.std.proofs.lemmas.List.{length-replicate}
use Rattle.c_tree.specs.declared.tree.Ty.{Ty}
use Rattle.c_tree.specs.declared.program.Local.{Local as Declared}
use Rattle.c_tree.specs.declared.program.Global.{Global as Outside}
use Rattle.c_tree.specs.declared.program.Func.{Func}
use Rattle.c_tree.specs.declared.program.Program.{Program}
use Rattle.c_tree.specs.Meaning.Values.{is_of}
use Rattle.c_tree.specs.Meaning.Runs.{types_of, outer_types, entry_types}
use Rattle.c_tree.specs.Keeping.WellFormed.{HasParams, AreNumbersOf}
use Rattle.flow_laws.specs.Sites.{Copy}
use Rattle.flow_laws.specs.Graphs.{copies, copy_of}
use Rattle.bv_term.specs.declared.op.Op.TheVariants as op
use Rattle.bv_term.specs.Stores.{Terms}
use Rattle.bv_term.specs.Scripts.{Script, Done, put, ◌>>=◌}
use Rattle.cond_laws.specs.declared.store.TermSlot.{TermSlot}
use Rattle.cond_laws.specs.declared.store.TermSlot.TheVariants.{Numbers}
use Rattle.cond_laws.specs.Conditions.{AllBelow}
use Rattle.cond_laws.specs.Fits.{AsMany, Below, FitMemory, FitSlot, FitSlots}
use Rattle.cond_laws.specs.Sizes.{AreSmallLocals, IsSmallCopy}
use Rattle.cond_laws.specs.TermStores.{zero_terms}
use Rattle.cond_laws.specs.TermPaths as spec
use Rattle.cond_laws.specs.TermPaths.{TermMemory, term_memory}
use Rattle.cond_laws.proofs.Fitting.OperandFits.{below_more, below_append}
use Rattle.cond_laws.proofs.Fitting.ExpressionFits.{slot_more, slots_more}
use Rattle.term_steps.specs.Gives.{Gives}
use Rattle.term_steps.proofs.Runs.{Rest, rest_next, rest_goes, rest_joined, gives_then, gives_done, moved}
use Rattle.path_cond.specs.declared.memory.Memory.{Memory}
use Rattle.path_cond.specs.Memories.{memory_of}
use Rattle.path_cond.specs.Parts as part
use Rattle.path_cond.proofs.DeclaredInputs.{many_params, params_within}

-- ---- inputs

pub inputs_next : (first many k : ℕ) → k < many → spec.input_terms (first + k) (many - k) ≡ (put (op.Input (first + k)) >>= (λ x. spec.input_terms (first + (k + 1)) (many - (k + 1)) >>= (λ xs. Done (x ∷ xs))))
inputs_next first many k lt =
    let fewer : many - k ≡ suc (many - (k + 1)) = omega (arith, lt) in
    let next : first + k + 1 ≡ first + (k + 1) = omega arith in
    ap (spec.input_terms (first + k)) fewer ∙ ap (λ j. put (op.Input (first + k)) >>= (λ x. spec.input_terms j (many - (k + 1)) >>= (λ xs. Done (x ∷ xs)))) next

-- one more was put, and stands last
pub pushed : {all : Script (List ℕ)} {s : Script ℕ} {start now new : Terms} {y : ℕ} (more : Script (List ℕ)) (xs ys : List ℕ) → Rest all (s >>= (λ y. more >>= (λ r. Done (y ∷ r)))) (λ r. xs ++ r) start now → Gives Below s now new y → ys ≡ xs ++ y ∷ [] → Rest all more (λ r. ys ++ r) start new
pushed {y = y} more xs ys h k e = rest_joined (λ r. ys ++ r) (λ r. moved xs y r ∙ ap (λ l. l ++ r) (sym e)) (rest_next (λ y. more) (λ y r. y ∷ r) h k)

-- the same of a constant
pub word_pushed : {all : Script (List ℕ)} {start now new : Terms} {y : ℕ} (more : Script (List ℕ)) (w n : ℕ) (xs ys : List ℕ) → w ≡ n → Rest all (put (op.Const n) >>= (λ y. more >>= (λ r. Done (y ∷ r)))) (λ r. xs ++ r) start now → Gives Below (put (op.Const w)) now new y → ys ≡ xs ++ y ∷ [] → Rest all more (λ r. ys ++ r) start new
word_pushed {now = now} {new = new} {y = y} more w n xs ys is h k e = pushed more xs ys h (subst (λ n. Gives Below (put (op.Const n)) now new y) is k) e

-- ---- initialisers

pub number_at : (t : Ty) (zs : List ℤ) (i : ℕ) (d : ℤ) → AreNumbersOf t zs → i < length zs → is_of t (get_or zs i d) ≡ true
number_at t [] i d h lt = absurd (omega (arith, lt))
number_at t (z ∷ zs) zero d h lt = h.0
number_at t (z ∷ zs) (suc i) d h lt = number_at t zs i d h.1 (omega arith)

-- ---- globals

pub array_given : {old new : Terms} {more : List ℕ} (t : Ty) (n missing : ℕ) (given all : List ℕ) → missing ≡ n - length given → Gives (AsMany missing) (zero_terms missing) old new more → AllBelow (length old.ops) given → length given < 2 ^ 31 → n ≤ 64 → all ≡ given ++ more → Gives FitSlot (spec.global_term_slot t (Some n) given) old new (Numbers t all)
array_given {old = old} {new = new} {more = more} t n missing given all is h there few short e =
    let begun : Gives (AsMany missing) (zero_terms (n - length given)) old new more = subst (λ m. Gives (AsMany missing) (zero_terms m) old new more) is h in
    let fits : FitSlot (length new.ops) (Numbers t (given ++ more)) = (below_append (length new.ops) given more (below_more (length old.ops) (length new.ops) given h.grows there) h.fits.0, omega (arith, length-append given more, h.fits.1, is)) in
    subst (λ ns. Gives FitSlot (spec.global_term_slot t (Some n) given) old new (Numbers t ns)) (sym e) (gives_done FitSlot (λ zs. Numbers t (given ++ zs)) begun fits)

-- ---- one global more

pub globals_next : {all : Script (List TermSlot)} {start now mid new : Terms} {ns : List ℕ} {x : TermSlot} (gs : List Outside) (g : Outside) (k next : ℕ) (xs ys : List TermSlot) → next ≡ part.next_input g k → Rest all (spec.global_term_slots (g ∷ gs) k) (λ r. xs ++ r) start now → Gives AllBelow (part.global_terms g k) now mid ns → Gives FitSlot (spec.global_term_slot g.ty g.length ns) mid new x → ys ≡ xs ++ x ∷ [] → Rest all (spec.global_term_slots gs next) (λ r. ys ++ r) start new
globals_next {all} {start} {now} {mid} {new} {ns} {x} gs g k next xs ys behind begun terms slot e =
    rest_joined (λ r. ys ++ r) (λ r. moved xs x r ∙ ap (λ l. l ++ r) (sym e)) (subst (λ n. Rest all (spec.global_term_slots gs n) (λ r. xs ++ (x ∷ r)) start new) (sym behind) (by_outer g.outer begun terms))
  where
    by_outer : (b : Bool) → Rest all (if b then (spec.input_terms k (spec.width g.length) >>= (λ xs. spec.global_term_slot g.ty g.length xs >>= (λ x. spec.global_term_slots gs (k + spec.width g.length) >>= (λ rest. Done (x ∷ rest))))) else (spec.numbers g.ty g.values >>= (λ xs. spec.global_term_slot g.ty g.length xs >>= (λ x. spec.global_term_slots gs k >>= (λ rest. Done (x ∷ rest)))))) (λ r. xs ++ r) start now → Gives AllBelow (if b then spec.input_terms k (spec.width g.length) else spec.numbers g.ty g.values) now mid ns → Rest all (spec.global_term_slots gs (if b then k + spec.width g.length else k)) (λ r. xs ++ (x ∷ r)) start new
    by_outer true begun terms = rest_next (λ x. spec.global_term_slots gs (k + spec.width g.length)) (λ x rest. x ∷ rest) (rest_goes (λ xs. spec.global_term_slot g.ty g.length xs >>= (λ x. spec.global_term_slots gs (k + spec.width g.length) >>= (λ rest. Done (x ∷ rest)))) begun terms) slot
    by_outer false begun terms = rest_next (λ x. spec.global_term_slots gs k) (λ x rest. x ∷ rest) (rest_goes (λ xs. spec.global_term_slot g.ty g.length xs >>= (λ x. spec.global_term_slots gs k >>= (λ rest. Done (x ∷ rest)))) begun terms) slot

-- the inputs of the rest come behind
pub globals_left : (gs : List Outside) (g : Outside) (k : ℕ) → part.next_input g k + length (outer_types gs) ≡ k + length (outer_types (g ∷ gs))
globals_left gs g k = by_outer g.outer
  where
    wide : (t : Ty) (o : Option ℕ) → length (types_of t o) ≡ spec.width o
    wide t None = refl
    wide t (Some n) = length-replicate n t

    by_outer : (b : Bool) → (if b then k + spec.width g.length else k) + length (outer_types gs) ≡ k + length (if b then types_of g.ty g.length ++ outer_types gs else outer_types gs)
    by_outer true = omega (arith, length-append (types_of g.ty g.length) (outer_types gs), wide g.ty g.length)
    by_outer false = refl

-- one more slot stands last
pub slots_pushed : {k n : ℕ} (x : TermSlot) (xs ys : List TermSlot) → FitSlots k xs → k ≤ n → FitSlot n x → ys ≡ xs ++ x ∷ [] → FitSlots n ys
slots_pushed {k} {n} x xs ys h l f e = subst (FitSlots n) (sym e) (last xs h)
  where
    last : (xs : List TermSlot) → FitSlots k xs → FitSlots n (xs ++ x ∷ [])
    last [] h = (f, tt)
    last (y ∷ xs) h = (slot_more k n y l h.0, last xs h.1)

-- ---- the entry function

kept : (cs ds : List Copy) (i : ℕ) (c : Copy) → slice_get cs i ≡ Some c → slice_get (cs ++ ds) i ≡ Some c
kept [] ds i c is = absurd (cc is)
kept (x ∷ cs) ds zero c is = is
kept (x ∷ cs) ds (suc i) c is = kept cs ds i c is

stays : (fs : List Func) (cs : List Copy) (i : ℕ) (c : Copy) → slice_get cs i ≡ Some c → slice_get (copies cs fs) i ≡ Some c
stays [] cs i c is = is
stays (f ∷ fs) cs i c is = stays fs (cs ++ copy_of (length cs) f cs ∷ []) i c (kept cs (copy_of (length cs) f cs ∷ []) i c is)

last_at : (cs : List Copy) (c : Copy) (i : ℕ) → i ≡ length cs → slice_get (cs ++ c ∷ []) i ≡ Some c
last_at [] c i e = ap (slice_get (c ∷ [])) e
last_at (x ∷ cs) c zero e = absurd (omega (arith, e))
last_at (x ∷ cs) c (suc i) e = last_at cs c i (omega (arith, e))

-- a copy with the locals of the function
record HasCopy (o : Option Copy) (f : Func) : Type 0 where
  copy : Copy
  is : o ≡ Some copy
  locals_are : copy.locals ≡ f.locals

copy_at : (fs : List Func) (cs : List Copy) (n i : ℕ) (f : Func) → slice_get fs n ≡ Some f → i ≡ length cs + n → HasCopy (slice_get (copies cs fs) i) f
copy_at [] cs n i f is at = absurd (cc is)
copy_at (x ∷ fs) cs zero i f is at =
    let same : x ≡ f = cc is in
    let c : Copy = copy_of (length cs) x cs in
    record { copy = c; is = stays fs (cs ++ c ∷ []) i c (last_at cs c i (omega (arith, at))); locals_are = ap (λ (y : Func). y.locals) same }
copy_at (x ∷ fs) cs (suc n) i f is at =
    let c : Copy = copy_of (length cs) x cs in
    copy_at fs (cs ++ c ∷ []) n i f is (omega (arith, at, length-append cs (c ∷ [])))

entry_copy : (p : Program) (f : Func) → slice_get p.funcs p.entry ≡ Some f → HasCopy (slice_get (copies [] p.funcs) p.entry) f
entry_copy p f is = copy_at p.funcs [] p.entry p.entry f is (omega arith)

pub entry_locals : (p : Program) (f : Func) → slice_get p.funcs p.entry ≡ Some f → IsSmallCopy (slice_get (copies [] p.funcs) p.entry) → AreSmallLocals f.locals
entry_locals p f is small =
    let c = entry_copy p f is in
    subst AreSmallLocals c.locals_are (subst IsSmallCopy c.is small)

-- what a run of this function begins with
abbrev begun_with : Program → ℕ → (List ℕ → Script (List TermSlot)) → Script TermMemory
begun_with p n slots = spec.input_terms 0 n >>= (λ vs. slots vs >>= (λ ls. spec.global_term_slots p.globals n >>= (λ gs. Done (term_memory (record { locals = ls; globals = gs }) [] None))))

start_is : (p : Program) (f : Func) → slice_get p.funcs p.entry ≡ Some f → HasParams f.params f.locals → spec.start_term_memory p ≡ begun_with p f.params (λ vs. spec.entry_term_slots f.locals vs)
unfolding spec.start_term_memory
start_is p f is h =
    let c = entry_copy p f is in
    let many : length (entry_types (slice_get p.funcs p.entry)) ≡ f.params = ap (λ o. length (entry_types o)) is ∙ many_params f.params f.locals (params_within f.params f.locals h) in
    ap (λ n. begun_with p n (λ vs. spec.copy_term_slots (slice_get (copies [] p.funcs) p.entry) vs)) many ∙ (ap (λ o. begun_with p f.params (λ vs. spec.copy_term_slots o vs)) c.is ∙ ap (λ ls. begun_with p f.params (λ vs. spec.entry_term_slots ls vs)) c.locals_are)

pub started : {old mid far new : Terms} {vs given : List ℕ} {declared : List Declared} {outside : List Outside} {ls gs : List TermSlot} (p : Program) (f : Func) (m : Memory) → slice_get p.funcs p.entry ≡ Some f → HasParams f.params f.locals → given ≡ vs → declared ≡ f.locals → outside ≡ p.globals → Gives (AsMany f.params) (spec.input_terms 0 f.params) old mid vs → Gives FitSlots (spec.entry_term_slots declared given) mid far ls → Gives FitSlots (spec.global_term_slots outside f.params) far new gs → m ≡ record { store = record { locals = ls; globals = gs }; frames = []; result = None } → Gives FitMemory (spec.start_term_memory p) old new (memory_of m)
started {old} {mid} {far} {new} {vs} {given} {declared} {outside} {ls} {gs} p f m is h same_given same_locals same_globals first second third made =
    let after : TermMemory = term_memory (record { locals = ls; globals = gs }) [] None in
    let slots : Gives FitSlots (spec.entry_term_slots f.locals vs) mid far ls = subst (λ l. Gives FitSlots (spec.entry_term_slots l vs) mid far ls) same_locals (subst (λ ns. Gives FitSlots (spec.entry_term_slots declared ns) mid far ls) same_given second) in
    let globals : Gives FitSlots (spec.global_term_slots p.globals f.params) far new gs = subst (λ l. Gives FitSlots (spec.global_term_slots l f.params) far new gs) same_globals third in
    let fits : FitMemory (length new.ops) after = record { store = record { locals = slots_more (length far.ops) (length new.ops) ls third.grows second.fits; globals = third.fits }; frames = tt; result = tt } in
    let all : Gives FitMemory (begun_with p f.params (λ vs. spec.entry_term_slots f.locals vs)) old new after = gives_then (λ vs. spec.entry_term_slots f.locals vs >>= (λ ls. spec.global_term_slots p.globals f.params >>= (λ gs. Done (term_memory (record { locals = ls; globals = gs }) [] None)))) first (gives_then (λ ls. spec.global_term_slots p.globals f.params >>= (λ gs. Done (term_memory (record { locals = ls; globals = gs }) [] None))) slots (gives_done FitMemory (λ gs. term_memory (record { locals = ls; globals = gs }) [] None) globals fits)) in
    subst (λ m. Gives FitMemory (spec.start_term_memory p) old new (memory_of m)) (sym made) (subst (λ s. Gives FitMemory s old new after) (sym (start_is p f is h)) all)
