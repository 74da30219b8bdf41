-- The code of calls and landings runs their scripts.
use Rattle.std.proofs.Common.{◌≡◌, ◌<◌, ◌≤◌, ◌+◌, ◌^◌, ℕ, zero, suc, List, [], ◌∷◌, ◌++◌, length, drop, Option, Some, None, refl, sym, ap, ◌∙◌, subst, arith}
use Rattle.std.specs.Prelude.{reverse, slice_get}
use Rattle.std.proofs.lemmas.List.{reverse-append, drop-drop}
use Rattle.c_tree.specs.declared.tree.Ty.{Ty}
use Rattle.c_tree.specs.declared.tree.Var.{Var}
use Rattle.c_tree.specs.declared.tree.Var.TheVariants.{Local as LocalVar}
use Rattle.c_tree.specs.declared.tree.Expr.{Expr}
use Rattle.c_tree.specs.declared.tree.Target.{Target}
use Rattle.c_tree.specs.declared.tree.Target.TheVariants.{Nothing, Assign, Declare}
use Rattle.c_tree.specs.declared.program.Local.{Local as Declared}
use Rattle.bv_term.specs.Stores.{Terms}
use Rattle.bv_term.specs.Scripts.{Script, Done, ◌>>=◌}
use Rattle.cond_laws.specs.declared.store.TermSlot.{TermSlot}
use Rattle.cond_laws.specs.declared.store.TermSlot.TheVariants.{Number, Numbers}
use Rattle.cond_laws.specs.declared.store.TermStore.{TermStore}
use Rattle.cond_laws.specs.declared.value.Returned.{Returned}
use Rattle.cond_laws.specs.declared.value.Listed.{Listed}
use Rattle.cond_laws.specs.Conditions.{AllBelow}
use Rattle.cond_laws.specs.Fits.{AsMany, FitEffect, FitFrames, FitListed, FitMemory, FitReturned, FitSlot, FitSlots, FitStore}
use Rattle.cond_laws.specs.Sizes.{AreSmallLocals, HasSmallLength}
use Rattle.cond_laws.specs.TermExpressions.{all_exprs}
use Rattle.cond_laws.specs.TermStatements.{Effect, effect_with, nowhere}
use Rattle.cond_laws.specs.TermStores.{zero_terms, put_term}
use Rattle.cond_laws.specs.TermPaths as spec
use Rattle.cond_laws.specs.TermPaths.{TermMemory, term_memory}
use Rattle.cond_laws.proofs.Fitting.OperandFits.{below_more}
use Rattle.cond_laws.proofs.Fitting.ExpressionFits.{slots_more, store_more, unset_fits, put_term_fits}
use Rattle.term_steps.specs.Gives.{Gives}
use Rattle.term_steps.proofs.Runs.{Rest, rest_next, rest_joined, gives_then, gives_done, nothing_given, moved}
use Rattle.term_effects.specs.Parts.{zero_alone}
use Rattle.path_cond.specs.declared.memory.Memory.{Memory}
use Rattle.path_cond.specs.Memories.{memory_of, FitMove}
use Rattle.path_cond.specs.Parts as part
use Rattle.cond_laws.proofs.Fitting.PathFits.{frames_more, returned_more, memory_more}
use Rattle.term_effects.proofs.EffectRuns.{nowhere_runs}

-- ---- terms that are there stay there

-- the store is another one
pub memory_with : (k n : ℕ) (m : TermMemory) (s : TermStore) → k ≤ n → FitMemory k m → FitStore n s → FitMemory n (term_memory s m.frames m.result)
memory_with k n m s l h fits = record { store = fits; frames = frames_more k n m.frames l h.frames; result = returned_more k n m.result l h.result }

-- ---- the slots of a call

fresh_given : {old new : Terms} {zs : List ℕ} (t : Ty) (n : ℕ) → n ≤ 2 ^ 31 → Gives (AsMany n) (zero_terms n) old new zs → Gives FitSlot (spec.fresh_term_slot t (Some n)) old new (Numbers t zs)
fresh_given {new = new} {zs = zs} t n few h =
    let fits : FitSlot (length new.ops) (Numbers t zs) = (h.fits.0, omega (arith, h.fits.1, few)) in
    gives_done FitSlot (λ zs. Numbers t zs) h fits

pub fresh_is : {old new : Terms} {zs : List ℕ} (t : Ty) (n : ℕ) (o : Option ℕ) → o ≡ Some n → HasSmallLength o → Gives (AsMany n) (zero_terms n) old new zs → Gives FitSlot (spec.fresh_term_slot t o) old new (Numbers t zs)
fresh_is {old} {new} {zs} t n o is few h =
    let short : n ≤ 2 ^ 31 = subst HasSmallLength is few in
    subst (λ o. Gives FitSlot (spec.fresh_term_slot t o) old new (Numbers t zs)) (sym is) (fresh_given t n short h)

pub given_at : (k : ℕ) (vs : List ℕ) (n : ℕ) → AllBelow k vs → part.BelowIfGiven k (slice_get vs n)
given_at k [] n h = tt
given_at k (v ∷ vs) zero h = h.0
given_at k (v ∷ vs) (suc n) h = given_at k vs n h.1

pub given_more : (k n : ℕ) (o : Option ℕ) → k ≤ n → part.BelowIfGiven k o → part.BelowIfGiven n o
given_more k n None l h = tt
given_more k n (Some v) l h = omega arith

first_at : (vs : List ℕ) (n : ℕ) → slice_get (drop n vs) 0 ≡ slice_get vs n
first_at vs zero = refl
first_at [] (suc n) = refl
first_at (v ∷ vs) (suc n) = first_at vs n

-- one local more
one_entry : {all : Script (List TermSlot)} {start now new : Terms} {x : TermSlot} (ls : List Declared) (l : Declared) (vs : List ℕ) (join : List TermSlot → List TermSlot) → Rest all (spec.entry_term_slots (l ∷ ls) vs) join start now → Gives FitSlot (part.entry_slot l (slice_get vs 0)) now new x → Rest all (spec.entry_term_slots ls (drop 1 vs)) (λ r. join (x ∷ r)) start new
one_entry ls l [] join h g = rest_next (λ x. spec.entry_term_slots ls []) (λ x r. x ∷ r) h g
one_entry ls l (v ∷ vs) join h g = rest_next {s = Done (Number l.ty v)} (λ x. spec.entry_term_slots ls vs) (λ x r. x ∷ r) h g

pub entry_next : {all : Script (List TermSlot)} {start now new : Terms} {x : TermSlot} (ls : List Declared) (l : Declared) (i : ℕ) (vs : List ℕ) (o : Option ℕ) (xs ys : List TermSlot) → drop i ls ≡ l ∷ drop (i + 1) ls → o ≡ slice_get vs i → Rest all (spec.entry_term_slots (drop i ls) (drop i vs)) (λ r. xs ++ r) start now → Gives FitSlot (part.entry_slot l o) now new x → ys ≡ xs ++ x ∷ [] → Rest all (spec.entry_term_slots (drop (i + 1) ls) (drop (i + 1) vs)) (λ r. ys ++ r) start new
entry_next {all} {start} {now} {new} {x} ls l i vs o xs ys at is h g e =
    let begun : Rest all (spec.entry_term_slots (l ∷ drop (i + 1) ls) (drop i vs)) (λ r. xs ++ r) start now = subst (λ d. Rest all (spec.entry_term_slots d (drop i vs)) (λ r. xs ++ r) start now) at h in
    let slot : Gives FitSlot (part.entry_slot l (slice_get (drop i vs) 0)) now new x = subst (λ o. Gives FitSlot (part.entry_slot l o) now new x) (is ∙ sym (first_at vs i)) g in
    let next : Rest all (spec.entry_term_slots (drop (i + 1) ls) (drop (i + 1) vs)) (λ r. xs ++ (x ∷ r)) start new = subst (λ d. Rest all (spec.entry_term_slots (drop (i + 1) ls) d) (λ r. xs ++ (x ∷ r)) start new) (drop-drop 1 i vs) (one_entry (drop (i + 1) ls) l (drop i vs) (λ r. xs ++ r) begun slot) in
    rest_joined (λ r. ys ++ r) (λ r. moved xs x r ∙ ap (λ l. l ++ r) (sym e)) next

pub small_next : (ls : List Declared) (i : ℕ) (l : Declared) → drop i ls ≡ l ∷ drop (i + 1) ls → AreSmallLocals (drop i ls) → HasSmallLength l.length × AreSmallLocals (drop (i + 1) ls)
small_next ls i l at h = subst AreSmallLocals at h

-- ---- calls

target_fits : (k : ℕ) (t : Target) (s : TermStore) → FitStore k s → FitStore k (spec.unset_target_term t s)
target_fits k Nothing s h = h
target_fits k (Assign x) s h = h
target_fits k (Declare l) s h = unset_fits k l s h

pub target_unset : (k : ℕ) (t : Target) (m : Memory) (s : TermStore) → s ≡ spec.unset_target_term t m.store → FitMemory k (memory_of m) → FitStore k s
target_unset k t m s is h = subst (FitStore k) (sym is) (target_fits k t m.store h.store)

-- a memory whose function was called from one with these locals
pub called : (fs : List (List TermSlot)) (ls : List TermSlot) → reverse (fs ++ ls ∷ []) ≡ ls ∷ reverse fs
called fs ls = reverse-append fs (ls ∷ [])

pub entered : {old mid new : Terms} {vs : Listed} {given : List ℕ} {xs : List TermSlot} (t : Target) (ls : List Declared) (es : List Expr) (m : Memory) (s : TermStore) (callers locals : List TermSlot) (frames : List (List TermSlot)) → s ≡ spec.unset_target_term t m.store → FitMemory (length old.ops) (memory_of m) → Gives FitListed (all_exprs es s) old mid vs → given ≡ vs.terms → Gives FitSlots (spec.entry_term_slots ls given) mid new xs → callers ≡ s.locals → locals ≡ xs → frames ≡ m.frames ++ callers ∷ [] → Gives FitMove (spec.entry_effect t ls es (memory_of m)) old new (effect_with (memory_of (record { store = record { locals = locals; globals = s.globals }; frames = frames; result = None })) vs.conditions)
entered {old} {mid} {new} {vs} {given} {xs} t ls es m s callers locals frames is h exprs same slots caller begins framed =
    let o : TermStore = spec.unset_target_term t m.store in
    let begun : Gives FitListed (all_exprs es o) old mid vs = subst (λ s. Gives FitListed (all_exprs es s) old mid vs) is exprs in
    let entries : Gives FitSlots (spec.entry_term_slots ls vs.terms) mid new xs = subst (λ ns. Gives FitSlots (spec.entry_term_slots ls ns) mid new xs) same slots in
    let there : FitStore (length new.ops) o = store_more (length old.ops) (length new.ops) o (omega (arith, exprs.grows, slots.grows)) (target_fits (length old.ops) t m.store h.store) in
    let after : TermMemory = term_memory (record { locals = xs; globals = o.globals }) (o.locals ∷ reverse m.frames) None in
    let fits : FitMove (length new.ops) (effect_with after vs.conditions) = record { now = record { store = record { locals = slots.fits; globals = there.globals }; frames = (there.locals, frames_more (length old.ops) (length new.ops) (reverse m.frames) (omega (arith, exprs.grows, slots.grows)) h.frames); result = tt }; conditions = below_more (length mid.ops) (length new.ops) vs.conditions slots.grows exprs.fits.conditions } in
    let whole : Gives FitMove (spec.entry_effect t ls es (memory_of m)) old new (effect_with after vs.conditions) = gives_then (λ (vs : Listed). spec.entry_term_slots ls vs.terms >>= (λ xs. Done (effect_with (term_memory (record { locals = xs; globals = o.globals }) (o.locals ∷ reverse m.frames) None) vs.conditions))) begun (gives_done FitMove (λ xs. effect_with (term_memory (record { locals = xs; globals = o.globals }) (o.locals ∷ reverse m.frames) None) vs.conditions) entries fits) in
    let turned : reverse frames ≡ o.locals ∷ reverse m.frames = ap reverse framed ∙ (called m.frames callers ∙ (ap (λ ls. ls ∷ reverse m.frames) (caller ∙ ap (λ (s : TermStore). s.locals) is))) in
    let looks : memory_of (record { store = record { locals = locals; globals = s.globals }; frames = frames; result = None }) ≡ after = λ j. term_memory (record { locals = begins j; globals = (is j).globals }) (turned j) None in
    subst (λ a. Gives FitMove (spec.entry_effect t ls es (memory_of m)) old new (effect_with a vs.conditions)) (sym looks) whole

-- ---- landings

gives_missing : (t : Target) (x : Var) (s : TermStore) → part.variable_of t ≡ Some x → spec.result_effect t None s ≡ nowhere s
gives_missing Nothing x s e = absurd (cc e)
gives_missing (Assign y) x s e = refl
gives_missing (Declare l) x s e = refl

gives_value : (t : Target) (x : Var) (r : Returned) (s : TermStore) → part.variable_of t ≡ Some x → spec.result_effect t (Some r) s ≡ Done (effect_with (put_term s x r.term) [])
gives_value Nothing x r s e = absurd (cc e)
gives_value (Assign y) x r s e =
    let same : y ≡ x = cc e in
    ap (λ y. Done (effect_with (put_term s y r.term) [])) same
gives_value (Declare l) x r s e =
    let same : LocalVar l ≡ x = cc e in
    ap (λ y. Done (effect_with (put_term s y r.term) [])) same

pub given_missing : {old new : Terms} {cs : List ℕ} (t : Target) (x : Var) (r : Option Returned) (s : TermStore) → part.variable_of t ≡ Some x → r ≡ None → FitStore (length old.ops) s → Gives AllBelow zero_alone old new cs → Gives FitEffect (spec.result_effect t r s) old new (effect_with s cs)
given_missing {old} {new} {cs} t x r s e none h g =
    subst (λ p. Gives FitEffect p old new (effect_with s cs)) (sym (ap (λ r. spec.result_effect t r s) none ∙ gives_missing t x s e)) (nowhere_runs s h g)

pub given_value : (old : Terms) (t : Target) (x : Var) (o : Option Returned) (r : Returned) (s n : TermStore) (cs : List ℕ) → cs ≡ [] → part.variable_of t ≡ Some x → o ≡ Some r → FitReturned (length old.ops) o → FitStore (length old.ops) s → n ≡ put_term s x r.term → Gives FitEffect (spec.result_effect t o s) old old (effect_with n cs)
given_value old t x o r s n cs none e some there h made =
    let below : r.term < length old.ops = subst (FitReturned (length old.ops)) some there in
    let fits : FitEffect (length old.ops) (effect_with (put_term s x r.term) []) = record { now = put_term_fits (length old.ops) s x r.term below h; conditions = tt } in
    subst (λ (f : Effect TermStore). Gives FitEffect (spec.result_effect t o s) old old f) (λ i. effect_with (sym made i) (sym none i)) (subst (λ p. Gives FitEffect p old old (effect_with (put_term s x r.term) [])) (sym (ap (λ r. spec.result_effect t r s) some ∙ gives_value t x r s e)) (nothing_given FitEffect old (effect_with (put_term s x r.term) []) fits))

-- what moves nowhere
pub lost_move : {old new : Terms} {cs : List ℕ} (m : TermMemory) → FitMemory (length old.ops) m → Gives AllBelow zero_alone old new cs → Gives FitMove (nowhere m) old new (effect_with m cs)
lost_move {old} {new} {cs} m h g =
    let fits : FitMove (length new.ops) (effect_with m cs) = record { now = memory_more (length old.ops) (length new.ops) m g.grows h; conditions = g.fits } in
    gives_done FitMove (λ cs. effect_with m cs) g fits

-- no caller waits
pub landed_nowhere : {old new : Terms} {cs : List ℕ} (t : Target) (u : Option Ty) (m : Memory) (frames : List (List TermSlot)) → m.frames ≡ [] → frames ≡ [] → FitMemory (length old.ops) (memory_of m) → Gives AllBelow zero_alone old new cs → Gives FitMove (spec.landing_effect t u (memory_of m).frames (memory_of m)) old new (effect_with (memory_of (record { store = m.store; frames = frames; result = m.result })) cs)
landed_nowhere {old} {new} {cs} t u m frames none left h g =
    let same : m.frames ≡ frames = none ∙ sym left in
    let stays : Gives FitMove (spec.landing_effect t u (reverse m.frames) (memory_of m)) old new (effect_with (memory_of m) cs) = subst (λ (fs : List (List TermSlot)). Gives FitMove (spec.landing_effect t u (reverse fs) (memory_of m)) old new (effect_with (memory_of m) cs)) (sym none) (lost_move (memory_of m) h g) in
    subst (λ (fs : List (List TermSlot)). Gives FitMove (spec.landing_effect t u (reverse m.frames) (memory_of m)) old new (effect_with (term_memory m.store (reverse fs) m.result) cs)) same stays

-- by a script that is that of nowhere
pub lost_by : {old new : Terms} {cs : List ℕ} {s : Script (Effect TermMemory)} (m : TermMemory) → s ≡ nowhere m → FitMemory (length old.ops) m → Gives AllBelow zero_alone old new cs → Gives FitMove s old new (effect_with m cs)
lost_by {old} {new} {cs} m is h g = subst (λ s. Gives FitMove s old new (effect_with m cs)) (sym is) (lost_move m h g)

pub landed : {old new : Terms} {s : TermStore} {cs : List ℕ} (t : Target) (u : Option Ty) (m n : Memory) (fs : List (List TermSlot)) (ls : List TermSlot) (r : Option Returned) → m.frames ≡ fs ++ ls ∷ [] → r ≡ spec.result_term u m.result → FitMemory (length old.ops) (memory_of m) → Gives FitEffect (spec.result_effect t r (record { locals = ls; globals = m.store.globals })) old new (effect_with s cs) → n ≡ record { store = s; frames = fs; result = None } → Gives FitMove (spec.landing_effect t u (memory_of m).frames (memory_of m)) old new (effect_with (memory_of n) cs)
landed {old} {new} {s} {cs} t u m n fs ls r e is h g made =
    let turned : reverse m.frames ≡ ls ∷ reverse fs = ap reverse e ∙ called fs ls in
    let frames : FitFrames (length old.ops) (ls ∷ reverse fs) = subst (FitFrames (length old.ops)) turned h.frames in
    let back : TermStore = record { locals = ls; globals = m.store.globals } in
    let given : Gives FitEffect (spec.result_effect t (spec.result_term u m.result) back) old new (effect_with s cs) = subst (λ r. Gives FitEffect (spec.result_effect t r back) old new (effect_with s cs)) is g in
    let fits : FitMove (length new.ops) (effect_with (term_memory s (reverse fs) None) cs) = record { now = record { store = g.fits.now; frames = frames_more (length old.ops) (length new.ops) (reverse fs) g.grows frames.1; result = tt }; conditions = g.fits.conditions } in
    let whole : Gives FitMove (spec.landing_effect t u (ls ∷ reverse fs) (memory_of m)) old new (effect_with (term_memory s (reverse fs) None) cs) = gives_done FitMove (λ (e : Effect TermStore). effect_with (term_memory e.now (reverse fs) None) e.conditions) given fits in
    subst (λ n. Gives FitMove (spec.landing_effect t u (reverse m.frames) (memory_of m)) old new (effect_with (memory_of n) cs)) (sym made) (subst (λ l. Gives FitMove (spec.landing_effect t u l (memory_of m)) old new (effect_with (term_memory s (reverse fs) None) cs)) (sym turned) whole)
