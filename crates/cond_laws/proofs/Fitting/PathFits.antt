-- The terms of statements, of nodes and of lists of edges fit.
use Rattle.std.proofs.Common.{◌≡◌, ℕ, zero, suc, ◌+◌, ◌-◌, ◌^◌, ◌<◌, ◌≤◌, Bool, true, false, if◌then◌else◌, List, [], ◌∷◌, ◌++◌, Option, Some, None, ℤ, pos, negsuc, refl, ap, subst, arith}
use Rattle.std.proofs.lemmas.Bool.{ltb-true}
use Rattle.c_tree.specs.declared.tree.Ty.{Ty}
use Rattle.c_tree.specs.declared.tree.Ty.TheVariants as ty
use Rattle.bv_term.specs.declared.op.Op.TheVariants as op
use Rattle.bv_term.specs.Scripts.{Done, Put, ◌>>=◌}
pub use Rattle.cond_laws.specs.Fits.{AsMany, FitEffect, FitFrames, FitReturned, FitMemory}
use Rattle.cond_laws.specs.Judged.{Judged}
use Rattle.cond_laws.specs.TermOperators as spec
use Rattle.std.specs.Prelude.{length, slice_get}
use Rattle.c_tree.specs.declared.tree.BinOp.{BinOp}
use Rattle.c_tree.specs.declared.tree.Var.{Var}
use Rattle.c_tree.specs.declared.tree.Var.TheVariants.{Local}
use Rattle.c_tree.specs.declared.tree.Expr.{Expr}
use Rattle.c_tree.specs.declared.tree.Place.{Place}
use Rattle.c_tree.specs.declared.tree.Place.TheVariants.{Scalar as PlainPlace, Elem as ElemPlace}
use Rattle.c_tree.specs.declared.tree.Stmt.{Stmt}
use Rattle.c_tree.specs.declared.tree.Stmt.TheVariants as stmt
use Rattle.bv_term.specs.Scripts.{Fitting}
use Rattle.bv_term.proofs.FitLaws.{fitting_then}
use Rattle.cond_laws.specs.declared.store.TermSlot.{TermSlot}
use Rattle.cond_laws.specs.declared.store.TermSlot.TheVariants.{Unset, Number, Numbers}
use Rattle.cond_laws.specs.TermStores.{TermStore, held_at, held_ty, held_length, index_condition, with_term_slot, unset_local_term, put_term, elements_after, zero_terms, put_term_list}
use Rattle.cond_laws.specs.TermExpressions.{expr_term, all_exprs}
use Rattle.cond_laws.specs.TermStatements as ts
use Rattle.cond_laws.specs.TermStatements.{Effect, effect_with, nowhere}
use Rattle.cond_laws.specs.Conditions.{AllBelow}
use Rattle.cond_laws.proofs.Fitting.OperandFits.{below_more, below_append, FitJudged, judged_more, operated_fits}
use Rattle.c_tree.specs.declared.tree.Target.{Target}
use Rattle.c_tree.specs.declared.tree.Target.TheVariants.{Nothing, Assign, Declare}
use Rattle.c_tree.specs.declared.program.Local.{Local as Declared}
use Rattle.c_tree.specs.declared.program.Global.{Global as Outside}
use Rattle.c_tree.specs.declared.program.Program.{Program}
use Rattle.c_tree.specs.Meaning.Runs.{outer_types, types_of, entry_types, input_types}
use Rattle.c_tree.specs.Keeping.WellFormed.{WellFormedGlobals, AreNumbersOf, IsLength}
use Rattle.c_tree.specs.Meaning.Values.{is_of}
use Rattle.std.specs.Prelude.{unwrap_or}
use Rattle.flow_laws.specs.declared.graph.Way.{Way}
use Rattle.flow_laws.specs.declared.graph.Way.TheVariants.{Next, True, False}
use Rattle.flow_laws.specs.declared.graph.Edge.{Edge}
use Rattle.flow_laws.specs.Sites.{Content, Entry, Exit, Simple, Test, Jump, Give, Enter, Missing, Land, Site, Copy}
use Rattle.flow_laws.specs.Graphs.{copies, graph, edges, loops}
use Rattle.flow_laws.specs.Paths.{keeps_each}
use Rattle.cond_laws.specs.TermPaths as tp
use Rattle.cond_laws.specs.TermPaths.{Returned, TermMemory, term_memory}
use Rattle.std.proofs.lemmas.List.{length-append, length-replicate}
use Rattle.cond_laws.proofs.Stores.StatementTerms.{HasSmallList, HaveSmallLists}
use Rattle.cond_laws.proofs.Paths.StartTerms.{IsSmallCopy, as_wide}
use Rattle.cond_laws.proofs.Paths.MoveTerms.{HasSmallLength, AreSmallLocals, IsSmallContent}
use Rattle.cond_laws.proofs.Fitting.ExpressionFits.{HasWords, HaveWords, FitSlot, FitSlots, FitHeld, FitStore, slot_more, slots_more, store_more, held_fits, get_fits, with_fits, unset_fits, put_term_fits, within_fits, named_fits, elem_fit, expr_fits, FitList, all_fit, Below}

-- ---- statements whose numbers are words and whose lists are small

abbrev pub IsPlainPlace : Place → Type 0
IsPlainPlace (PlainPlace x) = Unit {0}
IsPlainPlace (ElemPlace x i) = HasWords i

abbrev pub IsPlainOptional : Option Expr → Type 0
IsPlainOptional None = Unit {0}
IsPlainOptional (Some e) = HasWords e

abbrev pub IsPlain : Stmt → Type 0
IsPlain (stmt.Scalar l e) = IsPlainOptional e
IsPlain (stmt.Array l es) = HaveWords es × (length es ≤ 2 ^ 31)
IsPlain (stmt.Assign p o e) = IsPlainPlace p × HasWords e
IsPlain _ = Unit {0}

abbrev pub ArePlain : List Stmt → Type 0
ArePlain [] = Unit {0}
ArePlain (st ∷ rest) = IsPlain st × ArePlain rest

abbrev pub IsPlainContent : Content → Type 0
IsPlainContent (Simple ss) = ArePlain ss
IsPlainContent (Test l e) = HasWords e
IsPlainContent (Give e) = IsPlainOptional e
IsPlainContent (Enter t ls es) = AreSmallLocals ls × HaveWords es
IsPlainContent _ = Unit {0}

pub small_list : (st : Stmt) → IsPlain st → HasSmallList st
small_list stmt.Empty h = tt
small_list (stmt.Scalar l e) h = tt
small_list (stmt.Array l es) h = h.1
small_list (stmt.Assign p o e) h = tt
small_list _ h = tt

pub small_lists : (ss : List Stmt) → ArePlain ss → HaveSmallLists ss
small_lists [] h = tt
small_lists (st ∷ rest) h = (small_list st h.0, small_lists rest h.1)

pub small_content : (k : Content) → IsPlainContent k → IsSmallContent k
small_content Entry h = tt
small_content Exit h = tt
small_content (Simple ss) h = small_lists ss h
small_content (Test l e) h = tt
small_content Jump h = tt
small_content (Give e) h = tt
small_content (Enter t ls es) h = h.0
small_content Missing h = tt
small_content (Land t u b) h = tt

-- ---- effects

nowhere_fits : (i k : ℕ) (s : TermStore) → FitStore k s → Fitting i k (nowhere s) FitEffect
nowhere_fits i k s h = (omega arith, λ z n hz l. record { now = store_more k n s l h; conditions = (hz, tt) })

place_fits : (i k : ℕ) (p : Place) (s : TermStore) → FitStore k s → IsPlainPlace p → Fitting i k (ts.place_term p s) FitJudged
place_fits i k (PlainPlace x) s h w = named_fits i k (held_at s x) (held_fits k s x h)
place_fits i k (ElemPlace x j) s h w = elem_fit i k (held_at s x) (expr_term j s) (held_fits k s x h) (expr_fits i k j s h w)

assigned_fits : (i k : ℕ) (p : Place) (o : Option BinOp) (e : Expr) (s : TermStore) → FitStore k s → IsPlainPlace p → HasWords e → Fitting i k (ts.assigned_term p o e s) FitJudged
assigned_fits i k p None e s h w we = expr_fits i k e s h we
assigned_fits i k p (Some o) e s h w we = fitting_then FitJudged FitJudged i k (ts.place_term p s) (λ a. expr_term e s >>= (λ b. spec.operation_term o a b)) (place_fits i k p s h w) (λ n a l ha. fitting_then FitJudged FitJudged i n (expr_term e s) (λ b. spec.operation_term o a b) (expr_fits i n e s (store_more k n s l h) we) (λ m b l2 hb. operated_fits i m o a b (judged_more n m a l2 ha) hb))

replaced_fits : (i k e j v : ℕ) (ns : List ℕ) → e < k → v < k → AllBelow k ns → j + length ns ≤ 2 ^ 32 → Fitting i k (elements_after e j v ns) (AsMany (length ns))
replaced_fits i k e j v [] he hv h l = (tt, refl)
replaced_fits i k e j v (n ∷ ns) he hv h l = (omega arith, λ d k1 hd l1. ((omega arith, omega arith), λ c k2 hc l2. ((omega arith, omega arith, omega (arith, h.0)), λ y k3 hy l3. fitting_then (AsMany (length ns)) (AsMany (length (n ∷ ns))) i k3 (elements_after e (j + 1) v ns) (λ ys. Done (y ∷ ys)) (replaced_fits i k3 e (j + 1) v ns (omega arith) (omega arith) (below_more k k3 ns (omega arith) h.1) (omega arith)) (λ k4 ys l4 hys. ((omega arith, hys.0), ap (λ n. suc n) hys.1)))))

element_put_fits : (i k : ℕ) (s : TermStore) (x : Var) (o : Option TermSlot) (e v : Judged) → FitStore k s → FitHeld k o → FitJudged k e → FitJudged k v → Fitting i k (ts.put_element s x o e v) FitEffect
element_put_fits i k s x None e v h ho he hv = nowhere_fits i k s h
element_put_fits i k s x (Some (Unset t)) e v h ho he hv = nowhere_fits i k s h
element_put_fits i k s x (Some (Number t n)) e v h ho he hv = nowhere_fits i k s h
element_put_fits i k s x (Some (Numbers t ns)) e v h ho he hv = fitting_then Below FitEffect i k (index_condition e.term (length ns)) (λ c. elements_after e.term 0 v.term ns >>= (λ ms. Done (effect_with (with_term_slot s x (Numbers t ms)) (e.conditions ++ (v.conditions ++ c ∷ []))))) (within_fits i k e.term (length ns) he.term ho.1) (λ n c l hc. fitting_then (AsMany (length ns)) FitEffect i n (elements_after e.term 0 v.term ns) (λ ms. Done (effect_with (with_term_slot s x (Numbers t ms)) (e.conditions ++ (v.conditions ++ c ∷ [])))) (replaced_fits i n e.term 0 v.term ns (omega (arith, he.term)) (omega (arith, hv.term)) (below_more k n ns l ho.0) (omega (arith, ho.1))) (λ m ms l2 hms. record {
  now = with_fits m s x (Numbers t ms) (hms.0, omega (arith, hms.1, ho.1)) (store_more k m s (omega arith) h);
  conditions = below_append m e.conditions (v.conditions ++ c ∷ []) (below_more k m e.conditions (omega arith) he.conditions) (below_append m v.conditions (c ∷ []) (below_more k m v.conditions (omega arith) hv.conditions) (omega (arith, hc), tt));
}))

assign_fits : (i k : ℕ) (p : Place) (o : Option BinOp) (e : Expr) (s : TermStore) → FitStore k s → IsPlainPlace p → HasWords e → Fitting i k (ts.assignment_effect p o e s) FitEffect
assign_fits i k (PlainPlace x) o e s h w we = fitting_then FitJudged FitEffect i k (ts.assigned_term (PlainPlace x) o e s) (λ v. Done (effect_with (put_term s x v.term) v.conditions)) (assigned_fits i k (PlainPlace x) o e s h w we) (λ n v l hv. record { now = put_term_fits n s x v.term hv.term (store_more k n s l h); conditions = hv.conditions })
assign_fits i k (ElemPlace x j) o e s h w we = fitting_then FitJudged FitEffect i k (expr_term j s) (λ a. ts.assigned_term (ElemPlace x j) o e s >>= (λ v. ts.put_element s x (held_at s x) a v)) (expr_fits i k j s h w) (λ n a l ha. fitting_then FitJudged FitEffect i n (ts.assigned_term (ElemPlace x j) o e s) (λ v. ts.put_element s x (held_at s x) a v) (assigned_fits i n (ElemPlace x j) o e s (store_more k n s l h) w we) (λ m v l2 hv. element_put_fits i m s x (held_at s x) a v (store_more k m s (omega arith) h) (held_fits m s x (store_more k m s (omega arith) h)) (judged_more n m a l2 ha) hv))

pub zeros_fit : (i k n : ℕ) → Fitting i k (zero_terms n) (AsMany n)
zeros_fit i k zero = (tt, refl)
zeros_fit i k (suc n) = (omega arith, λ z k1 hz l1. fitting_then (AsMany n) (AsMany (suc n)) i k1 (zero_terms n) (λ zs. Done (z ∷ zs)) (zeros_fit i k1 n) (λ m zs l hzs. ((omega arith, hzs.0), ap (λ n. suc n) hzs.1)))

pub held_short : (k : ℕ) (o : Option TermSlot) → FitHeld k o → held_length o < 2 ^ 32
held_short k None h = omega arith
held_short k (Some (Unset t)) h = omega arith
held_short k (Some (Number t n)) h = omega arith
held_short k (Some (Numbers t ns)) h = h.1

put_list_fits : (i k : ℕ) (s : TermStore) (l : ℕ) (o : Option TermSlot) (ns : List ℕ) → FitStore k s → held_length o < 2 ^ 32 → AllBelow k ns → length ns < 2 ^ 32 → Fitting i k (put_term_list s l o ns) FitStore
put_list_fits i k s l o ns h ho hn few = fitting_then (AsMany (held_length o - length ns)) FitStore i k (zero_terms (held_length o - length ns)) (λ zs. Done (with_term_slot s (Local l) (Numbers (held_ty o) (ns ++ zs)))) (zeros_fit i k (held_length o - length ns)) (λ m zs lm hz. with_fits m s (Local l) (Numbers (held_ty o) (ns ++ zs)) (below_append m ns zs (below_more k m ns lm hn) hz.0, omega (arith, length-append ns zs, hz.1)) (store_more k m s lm h))

simple_fits : (i k : ℕ) (st : Stmt) (s : TermStore) → FitStore k s → IsPlain st → Fitting i k (ts.simple_effect st s) FitEffect
simple_fits i k stmt.Empty s h w = record { now = h; conditions = tt }
simple_fits i k (stmt.Scalar l None) s h w = record { now = unset_fits k l s h; conditions = tt }
simple_fits i k (stmt.Scalar l (Some e)) s h w = fitting_then FitJudged FitEffect i k (expr_term e (unset_local_term l s)) (λ v. Done (effect_with (put_term (unset_local_term l s) (Local l) v.term) v.conditions)) (expr_fits i k e (unset_local_term l s) (unset_fits k l s h) w) (λ n v ln hv. record { now = put_term_fits n (unset_local_term l s) (Local l) v.term hv.term (store_more k n (unset_local_term l s) ln (unset_fits k l s h)); conditions = hv.conditions })
simple_fits i k (stmt.Array l es) s h w = fitting_then (FitList (length es)) FitEffect i k (all_exprs es (unset_local_term l s)) (λ vs. put_term_list s l (slice_get s.locals l) vs.terms >>= (λ now. Done (effect_with now vs.conditions))) (all_fit i k es (unset_local_term l s) (unset_fits k l s h) w.0) (λ n vs ln hv. fitting_then FitStore FitEffect i n (put_term_list s l (slice_get s.locals l) vs.terms) (λ now. Done (effect_with now vs.conditions)) (put_list_fits i n s l (slice_get s.locals l) vs.terms (store_more k n s ln h) (held_short k (slice_get s.locals l) (get_fits k s.locals l h.locals)) hv.0.terms (omega (arith, hv.1, w.1))) (λ m now lm hn. record { now = hn; conditions = below_more n m vs.conditions lm hv.0.conditions }))
simple_fits i k (stmt.Assign p o e) s h w = assign_fits i k p o e s h w.0 w.1
simple_fits i k _ s h w = nowhere_fits i k s h

all_simple_fit : (i k : ℕ) (ss : List Stmt) (s : TermStore) → FitStore k s → ArePlain ss → Fitting i k (ts.simple_effects ss s) FitEffect
all_simple_fit i k [] s h w = record { now = h; conditions = tt }
all_simple_fit i k (st ∷ rest) s h w = fitting_then FitEffect FitEffect i k (ts.simple_effect st s) (λ a. ts.simple_effects rest a.now >>= (λ b. Done (effect_with b.now (a.conditions ++ b.conditions)))) (simple_fits i k st s h w.0) (λ n a l ha. fitting_then FitEffect FitEffect i n (ts.simple_effects rest a.now) (λ b. Done (effect_with b.now (a.conditions ++ b.conditions))) (all_simple_fit i n rest a.now ha.now w.1) (λ m b l2 hb. record { now = hb.now; conditions = below_append m a.conditions b.conditions (below_more n m a.conditions l2 ha.conditions) hb.conditions }))

-- ---- nodes

pub frames_more : (k n : ℕ) (fs : List (List TermSlot)) → k ≤ n → FitFrames k fs → FitFrames n fs
frames_more k n [] l h = tt
frames_more k n (ys ∷ fs) l h = (slots_more k n ys l h.0, frames_more k n fs l h.1)

pub returned_more : (k n : ℕ) (r : Option Returned) → k ≤ n → FitReturned k r → FitReturned n r
returned_more k n None l h = tt
returned_more k n (Some r) l h = omega arith

pub memory_more : (k n : ℕ) (m : TermMemory) → k ≤ n → FitMemory k m → FitMemory n m
memory_more k n m l h = record { store = store_more k n m.store l h.store; frames = frames_more k n m.frames l h.frames; result = returned_more k n m.result l h.result }

pub record FitMove (k : ℕ) (e : Effect TermMemory) : Type 0 where
  pub now : FitMemory k e.now
  pub conditions : AllBelow k e.conditions

nowhere_move : (i k : ℕ) (m : TermMemory) → FitMemory k m → Fitting i k (nowhere m) FitMove
nowhere_move i k m h = (omega arith, λ z n hz l. record { now = memory_more k n m l h; conditions = (hz, tt) })

sure_move : (k : ℕ) (m : TermMemory) → FitMemory k m → FitMove k (effect_with m [])
sure_move k m h = record { now = h; conditions = tt }

fresh_fits : (i k : ℕ) (t : Ty) (n : Option ℕ) → HasSmallLength n → Fitting i k (tp.fresh_term_slot t n) FitSlot
fresh_fits i k t None few = tt
fresh_fits i k t (Some n) few = fitting_then (AsMany n) FitSlot i k (zero_terms n) (λ zs. Done (Numbers t zs)) (zeros_fit i k n) (λ m zs l hz. (hz.0, omega (arith, hz.1, few)))

pub entry_fits : (i k : ℕ) (ls : List Declared) (ns : List ℕ) → AreSmallLocals ls → AllBelow k ns → Fitting i k (tp.entry_term_slots ls ns) FitSlots
entry_fits i k [] ns few h = tt
entry_fits i k (l ∷ ls) [] few h = fitting_then FitSlot FitSlots i k (tp.fresh_term_slot l.ty l.length) (λ x. tp.entry_term_slots ls [] >>= (λ xs. Done (x ∷ xs))) (fresh_fits i k l.ty l.length few.0) (λ n x ln hx. fitting_then FitSlots FitSlots i n (tp.entry_term_slots ls []) (λ xs. Done (x ∷ xs)) (entry_fits i n ls [] few.1 tt) (λ m xs lm hxs. (slot_more n m x lm hx, hxs)))
entry_fits i k (l ∷ ls) (v ∷ ns) few h = fitting_then FitSlots FitSlots i k (tp.entry_term_slots ls ns) (λ xs. Done (Number l.ty v ∷ xs)) (entry_fits i k ls ns few.1 h.1) (λ n xs ln hxs. (omega (arith, h.0), hxs))

target_fits : (k : ℕ) (t : Target) (s : TermStore) → FitStore k s → FitStore k (tp.unset_target_term t s)
target_fits k Nothing s h = h
target_fits k (Assign x) s h = h
target_fits k (Declare l) s h = unset_fits k l s h

enter_fits : (i k : ℕ) (t : Target) (ls : List Declared) (es : List Expr) (m : TermMemory) → FitMemory k m → AreSmallLocals ls → HaveWords es → Fitting i k (tp.entry_effect t ls es m) FitMove
enter_fits i k t ls es m h few w =
    let s : TermStore = tp.unset_target_term t m.store in
    fitting_then (FitList (length es)) FitMove i k (all_exprs es s) (λ vs. tp.entry_term_slots ls vs.terms >>= (λ xs. Done (effect_with (term_memory (record { locals = xs; globals = s.globals }) (s.locals ∷ m.frames) None) vs.conditions))) (all_fit i k es s (target_fits k t m.store h.store) w) (λ n vs ln hv. fitting_then FitSlots FitMove i n (tp.entry_term_slots ls vs.terms) (λ xs. Done (effect_with (term_memory (record { locals = xs; globals = s.globals }) (s.locals ∷ m.frames) None) vs.conditions)) (entry_fits i n ls vs.terms few hv.0.terms) (λ j xs lj hxs.
    let hs : FitStore j s = store_more k j s (omega arith) (target_fits k t m.store h.store) in
    record { now = record { store = record { locals = hxs; globals = hs.globals }; frames = (hs.locals, frames_more k j m.frames (omega arith) h.frames); result = tt }; conditions = below_more n j vs.conditions lj hv.0.conditions }))

give_fits : (i k : ℕ) (t : Target) (r : Option Returned) (s : TermStore) → FitReturned k r → FitStore k s → Fitting i k (tp.result_effect t r s) FitEffect
give_fits i k Nothing r s hr h = record { now = h; conditions = tt }
give_fits i k (Assign x) None s hr h = nowhere_fits i k s h
give_fits i k (Assign x) (Some r) s hr h = record { now = put_term_fits k s x r.term hr h; conditions = tt }
give_fits i k (Declare l) None s hr h = nowhere_fits i k s h
give_fits i k (Declare l) (Some r) s hr h = record { now = put_term_fits k s (Local l) r.term hr h; conditions = tt }

result_fits : (k : ℕ) (u : Option Ty) (r : Option Returned) → FitReturned k r → FitReturned k (tp.result_term u r)
result_fits k (Some t) (Some r) h = h
result_fits k (Some t) None h = tt
result_fits k None r h = tt

land_fits : (i k : ℕ) (t : Target) (u : Option Ty) (fs : List (List TermSlot)) (m : TermMemory) → FitMemory k m → FitFrames k fs → Fitting i k (tp.landing_effect t u fs m) FitMove
land_fits i k t u [] m h hf = nowhere_move i k m h
land_fits i k t u (ls ∷ fs) m h hf = fitting_then FitEffect FitMove i k (tp.result_effect t (tp.result_term u m.result) (record { locals = ls; globals = m.store.globals })) (λ e. Done (effect_with (term_memory e.now fs None) e.conditions)) (give_fits i k t (tp.result_term u m.result) (record { locals = ls; globals = m.store.globals }) (result_fits k u m.result h.result) (record { locals = hf.0; globals = h.store.globals })) (λ n e l he. record { now = record { store = he.now; frames = frames_more k n fs l hf.1; result = tt }; conditions = he.conditions })

act_fits : (i k : ℕ) (c : Content) (w : Way) (m : TermMemory) → FitMemory k m → IsPlainContent c → Fitting i k (tp.content_effect c w m) FitMove
act_fits i k Entry Next m h p = sure_move k m h
act_fits i k (Simple ss) Next m h p = fitting_then FitEffect FitMove i k (ts.simple_effects ss m.store) (λ e. Done (tp.with_store m e)) (all_simple_fit i k ss m.store h.store p) (λ n e l he. record { now = record { store = he.now; frames = frames_more k n m.frames l h.frames; result = returned_more k n m.result l h.result }; conditions = he.conditions })
act_fits i k (Test t e) True m h p = fitting_then FitJudged FitMove i k (expr_term e m.store) (λ j. Done (effect_with m (j.conditions ++ j.term ∷ []))) (expr_fits i k e m.store h.store p) (λ n j l hj. record { now = memory_more k n m l h; conditions = below_append n j.conditions (j.term ∷ []) hj.conditions (hj.term, tt) })
act_fits i k (Test t e) False m h p = fitting_then FitJudged FitMove i k (expr_term e m.store) (λ j. Put (op.Const 0) (λ z. Put (op.Eq j.term z) (λ c. Done (effect_with m (j.conditions ++ c ∷ []))))) (expr_fits i k e m.store h.store p) (λ n j l hj. (omega arith, λ z n1 hz l1. ((omega (arith, hj.term), omega arith), λ c n2 hc l2. record { now = memory_more k n2 m (omega arith) h; conditions = below_append n2 j.conditions (c ∷ []) (below_more n n2 j.conditions (omega arith) hj.conditions) (hc, tt) })))
act_fits i k Jump Next m h p = sure_move k m h
act_fits i k (Give None) Next m h p = sure_move k (term_memory m.store m.frames None) (record { store = h.store; frames = h.frames; result = tt })
act_fits i k (Give (Some e)) Next m h p = fitting_then FitJudged FitMove i k (expr_term e m.store) (λ j. Done (effect_with (term_memory m.store m.frames (Some (record { ty = j.ty; term = j.term }))) j.conditions)) (expr_fits i k e m.store h.store p) (λ n j l hj. record { now = record { store = store_more k n m.store l h.store; frames = frames_more k n m.frames l h.frames; result = hj.term }; conditions = hj.conditions })
act_fits i k (Enter t ls es) Next m h p = enter_fits i k t ls es m h p.0 p.1
act_fits i k (Land t u b) Next m h p = land_fits i k t u m.frames m h h.frames
act_fits i k _ _ m h p = nowhere_move i k m h

-- ---- lists of edges

-- the numbers in the graph's statements are words, and their lists are small
abbrev pub IsPlainGraph : List Site → Type 0
IsPlainGraph g = (n : ℕ) (s : Site) → slice_get g n ≡ Some s → IsPlainContent s.content

site_fits : (i k : ℕ) (o : Option Site) (w : Way) (m : TermMemory) → FitMemory k m → ((s : Site) → o ≡ Some s → IsPlainContent s.content) → Fitting i k (tp.act_at o w m) FitMove
site_fits i k None w m h p = nowhere_move i k m h
site_fits i k (Some s) w m h p = act_fits i k s.content w m h (p s refl)

pass_fits : (i k : ℕ) (g : List Site) (o : Option Edge) (m : TermMemory) → FitMemory k m → IsPlainGraph g → Fitting i k (tp.pass g o m) FitMove
pass_fits i k g None m h p = nowhere_move i k m h
pass_fits i k g (Some d) m h p = site_fits i k (slice_get g d.from) d.way m h (p d.from)

walk_fits : (i k : ℕ) (g : List Site) (q : List ℕ) (m : TermMemory) → FitMemory k m → IsPlainGraph g → Fitting i k (tp.walk g q m) AllBelow
walk_fits i k g [] m h p = tt
walk_fits i k g (j ∷ q) m h p = fitting_then FitMove AllBelow i k (tp.pass g (slice_get (edges g) j) m) (λ e. tp.walk g q e.now >>= (λ cs. Done (e.conditions ++ cs))) (pass_fits i k g (slice_get (edges g) j) m h p) (λ n e l he. fitting_then AllBelow AllBelow i n (tp.walk g q e.now) (λ cs. Done (e.conditions ++ cs)) (walk_fits i n g q e.now he.now p) (λ r cs l2 hc. below_append r e.conditions cs (below_more n r e.conditions l2 he.conditions) hc))

-- ---- the store of an input

inputs_fit : (i k j n : ℕ) → j + n ≤ i → Fitting i k (tp.input_terms j n) (AsMany n)
inputs_fit i k j zero h = (tt, refl)
inputs_fit i k j (suc n) h = (omega arith, λ x k1 hx l1. fitting_then (AsMany n) (AsMany (suc n)) i k1 (tp.input_terms (j + 1) n) (λ xs. Done (x ∷ xs)) (inputs_fit i k1 (j + 1) n (omega arith)) (λ m xs l hxs. ((omega arith, hxs.0), ap (λ n. suc n) hxs.1)))

word_small : (t : Ty) (z : ℤ) → is_of t z ≡ true → tp.word_in t z < 2 ^ 32
word_small ty.Int (pos n) h = omega (arith, ltb-true n (2 ^ 31) h)
word_small ty.Int (negsuc n) h = omega arith
word_small ty.Unsigned (pos n) h = ltb-true n (2 ^ 32) h
word_small ty.Unsigned (negsuc n) h = absurd (cc h)

numbers_fit : (i k : ℕ) (t : Ty) (zs : List ℤ) → AreNumbersOf t zs → Fitting i k (tp.numbers t zs) (AsMany (length zs))
numbers_fit i k t [] h = (tt, refl)
numbers_fit i k t (z ∷ zs) h = (word_small t z h.0, λ x k1 hx l1. fitting_then (AsMany (length zs)) (AsMany (length (z ∷ zs))) i k1 (tp.numbers t zs) (λ xs. Done (x ∷ xs)) (numbers_fit i k1 t zs h.1) (λ m xs l hxs. ((omega arith, hxs.0), ap (λ n. suc n) hxs.1)))

global_fits : (i k : ℕ) (t : Ty) (o : Option ℕ) (xs : List ℕ) → IsLength o → AllBelow k xs → length xs < 2 ^ 31 → Fitting i k (tp.global_term_slot t o xs) FitSlot
global_fits i k t None [] l h few = (omega arith, λ z n hz lz. hz)
global_fits i k t None (x ∷ xs) l h few = h.0
global_fits i k t (Some n) xs l h few = fitting_then (AsMany (n - length xs)) FitSlot i k (zero_terms (n - length xs)) (λ zs. Done (Numbers t (xs ++ zs))) (zeros_fit i k (n - length xs)) (λ m zs lm hz. (below_append m xs zs (below_more k m xs lm h) hz.0, omega (arith, length-append xs zs, hz.1, l.1)))

short : (o : Option ℕ) → IsLength o → tp.width o ≤ 64
short None h = omega arith
short (Some n) h = h.1

few_values : (o : Option ℕ) (n : ℕ) → IsLength o → n ≤ unwrap_or o 1 → n < 2 ^ 31
few_values None n h l = omega (arith, l)
few_values (Some m) n h l = omega (arith, l, h.1)

globals_fit : (i k j : ℕ) (gs : List Outside) → WellFormedGlobals gs → j + length (outer_types gs) ≤ i → Fitting i k (tp.global_term_slots gs j) FitSlots
globals_fit i k j [] w h = tt
globals_fit i k j (g ∷ gs) w h = by_outer (λ k j h. globals_fit i k j gs w.1 h) g.outer h
  where
    after : (k n : ℕ) (xs : List ℕ) → ((k j : ℕ) → j + length (outer_types gs) ≤ i → Fitting i k (tp.global_term_slots gs j) FitSlots) → j + n + length (outer_types gs) ≤ i → AllBelow k xs → length xs < 2 ^ 31 → Fitting i k (tp.global_term_slot g.ty g.length xs >>= (λ x. tp.global_term_slots gs (j + n) >>= (λ rest. Done (x ∷ rest)))) FitSlots
    after k n xs again h hx few = fitting_then FitSlot FitSlots i k (tp.global_term_slot g.ty g.length xs) (λ x. tp.global_term_slots gs (j + n) >>= (λ rest. Done (x ∷ rest))) (global_fits i k g.ty g.length xs w.0.array hx few) (λ m x lm hy. fitting_then FitSlots FitSlots i m (tp.global_term_slots gs (j + n)) (λ rest. Done (x ∷ rest)) (again m (j + n) h) (λ r xs lr hr. (slot_more m r x lr hy, hr)))

    plain : (n : ℕ) → n + 0 ≡ n
    plain n = omega arith

    by_outer : ((k j : ℕ) → j + length (outer_types gs) ≤ i → Fitting i k (tp.global_term_slots gs j) FitSlots) → (b : Bool) → j + length (if b then types_of g.ty g.length ++ outer_types gs else outer_types gs) ≤ i → Fitting i k (if b then (tp.input_terms j (tp.width g.length) >>= (λ xs. tp.global_term_slot g.ty g.length xs >>= (λ x. tp.global_term_slots gs (j + tp.width g.length) >>= (λ rest. Done (x ∷ rest))))) else (tp.numbers g.ty g.values >>= (λ xs. tp.global_term_slot g.ty g.length xs >>= (λ x. tp.global_term_slots gs j >>= (λ rest. Done (x ∷ rest)))))) FitSlots
    by_outer again true h =
        let n : ℕ = tp.width g.length in
        let fits : j + n + length (outer_types gs) ≤ i = omega (arith, length-append (types_of g.ty g.length) (outer_types gs), as_wide g.ty g.length) in
        fitting_then (AsMany n) FitSlots i k (tp.input_terms j n) (λ xs. tp.global_term_slot g.ty g.length xs >>= (λ x. tp.global_term_slots gs (j + n) >>= (λ rest. Done (x ∷ rest)))) (inputs_fit i k j n (omega arith)) (λ m xs lm hx. after m n xs again fits hx.0 (omega (arith, hx.1, short g.length w.0.array)))
    by_outer again false h = fitting_then (AsMany (length g.values)) FitSlots i k (tp.numbers g.ty g.values) (λ xs. tp.global_term_slot g.ty g.length xs >>= (λ x. tp.global_term_slots gs j >>= (λ rest. Done (x ∷ rest)))) (numbers_fit i k g.ty g.values w.0.numbers) (λ m xs lm hx. subst (λ n. Fitting i m (tp.global_term_slot g.ty g.length xs >>= (λ x. tp.global_term_slots gs n >>= (λ rest. Done (x ∷ rest)))) FitSlots) (plain j) (after m 0 xs again (omega arith) hx.0 (omega (arith, hx.1, few_values g.length (length g.values) w.0.array w.0.count))))

locals_fit : (i k : ℕ) (o : Option Copy) (ns : List ℕ) → IsSmallCopy o → AllBelow k ns → Fitting i k (tp.copy_term_slots o ns) FitSlots
locals_fit i k None ns few h = tt
locals_fit i k (Some c) ns few h = entry_fits i k c.locals ns few h

start_fits : (p : Program) → WellFormedGlobals p.globals → IsSmallCopy (slice_get (copies [] p.funcs) p.entry) → Fitting (length (input_types p)) 0 (tp.start_term_memory p) FitMemory
unfolding tp.start_term_memory
start_fits p w few =
    let i : ℕ = length (input_types p) in
    let ts : List Ty = entry_types (slice_get p.funcs p.entry) in
    let o : Option Copy = slice_get (copies [] p.funcs) p.entry in
    let all : length ts + length (outer_types p.globals) ≤ i = omega (arith, length-append ts (outer_types p.globals)) in
    fitting_then (AsMany (length ts)) FitMemory i 0 (tp.input_terms 0 (length ts)) (λ vs. tp.copy_term_slots o vs >>= (λ ls. tp.global_term_slots p.globals (length ts) >>= (λ gs. Done (term_memory (record { locals = ls; globals = gs }) [] None)))) (inputs_fit i 0 0 (length ts) (omega arith)) (λ n vs ln hv. fitting_then FitSlots FitMemory i n (tp.copy_term_slots o vs) (λ ls. tp.global_term_slots p.globals (length ts) >>= (λ gs. Done (term_memory (record { locals = ls; globals = gs }) [] None))) (locals_fit i n o vs few hv.0) (λ m ls lm hl. fitting_then FitSlots FitMemory i m (tp.global_term_slots p.globals (length ts)) (λ gs. Done (term_memory (record { locals = ls; globals = gs }) [] None)) (globals_fit i m (length ts) p.globals w all) (λ r gs lr hg. record { store = record { locals = slots_more m r ls lr hl; globals = hg }; frames = tt; result = tt })))

broken_fits : (i k : ℕ) (b : Bool) → Fitting i k (tp.bound_conditions b) AllBelow
broken_fits i k true = tt
broken_fits i k false = (omega arith, λ z n hz l. (hz, tt))

pub conditions_fit : (p : Program) (q : List ℕ) → WellFormedGlobals p.globals → IsSmallCopy (slice_get (copies [] p.funcs) p.entry) → IsPlainGraph (graph p) → Fitting (length (input_types p)) 0 (tp.conditions_of p q) AllBelow
unfolding tp.conditions_of
conditions_fit p q w few plain =
    let i : ℕ = length (input_types p) in
    let g : List Site = graph p in
    let b : Bool = keeps_each (loops g) q in
    fitting_then FitMemory AllBelow i 0 (tp.start_term_memory p) (λ m. tp.walk g q m >>= (λ cs. tp.bound_conditions b >>= (λ bs. Done (cs ++ bs)))) (start_fits p w few) (λ n m ln hm. fitting_then AllBelow AllBelow i n (tp.walk g q m) (λ cs. tp.bound_conditions b >>= (λ bs. Done (cs ++ bs))) (walk_fits i n g q m hm plain) (λ r cs lr hc. fitting_then AllBelow AllBelow i r (tp.bound_conditions b) (λ bs. Done (cs ++ bs)) (broken_fits i r b) (λ s bs ls hb. below_append s cs bs (below_more r s cs ls hc) hb)))
