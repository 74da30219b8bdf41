-- The scripts of a statement's parts, one after the other, are the script of the statement.
use Rattle.std.proofs.Common.{◌≡◌, ◌-◌, ◌<◌, ◌≤◌, ◌^◌, ℕ, zero, suc, List, [], ◌∷◌, ◌++◌, length, get_or, slice_get, slice_set, Option, Some, None, refl, sym, ap, subst, ◌∙◌, arith, length-append}
use Rattle.c_tree.specs.declared.tree.Ty.{Ty}
use Rattle.c_tree.specs.declared.tree.Var.{Var}
use Rattle.c_tree.specs.declared.tree.Var.TheVariants.{Local}
use Rattle.c_tree.specs.declared.tree.BinOp.{BinOp}
use Rattle.c_tree.specs.declared.tree.Expr.{Expr}
use Rattle.c_tree.specs.declared.tree.Place.{Place}
use Rattle.c_tree.specs.declared.tree.Place.TheVariants.{Scalar as PlainPlace, Elem as ElemPlace}
use Rattle.c_tree.specs.declared.tree.Stmt.{Stmt}
use Rattle.c_tree.specs.declared.tree.Stmt.TheVariants.{Empty, Scalar, Array, Assign}
use Rattle.bv_term.specs.declared.op.Op.{Op}
use Rattle.bv_term.specs.Stores.{Terms}
use Rattle.bv_term.specs.Scripts.{Script, Done, ◌>>=◌, ops_after, outcome}
use Rattle.bv_term.proofs.ScriptLaws.{outcome_then}
use Rattle.cond_laws.specs.declared.value.Judged.{Judged}
use Rattle.cond_laws.specs.declared.value.Listed.{Listed}
use Rattle.cond_laws.specs.declared.store.TermSlot.{TermSlot}
use Rattle.cond_laws.specs.declared.store.TermSlot.TheVariants.{Unset, Number, Numbers}
use Rattle.cond_laws.specs.Conditions.{AllBelow}
use Rattle.cond_laws.specs.TermOperators.{operation_term}
use Rattle.cond_laws.specs.declared.store.TermStore.{TermStore}
use Rattle.cond_laws.specs.TermStores.{held_at, held_ty, held_length, element_term, index_condition, elements_after, zero_terms, with_local_terms, with_term_slot, unset_local_term, put_term, put_term_list}
use Rattle.cond_laws.specs.TermExpressions.{listed_terms, expr_term, all_exprs}
use Rattle.cond_laws.specs.TermStatements.{Effect, effect_with, nowhere, place_term, assigned_term, put_element, assignment_effect, simple_effect}
use Rattle.cond_laws.specs.Fits.{AsMany, Below, FitEffect, FitHeld, FitJudged, FitListed, FitStore}
use Rattle.cond_laws.specs.Sizes.{HasSmallList, HaveSmallLists}
use Rattle.cond_laws.proofs.Fitting.OperandFits.{below_append}
use Rattle.cond_laws.proofs.Fitting.ExpressionFits.{held_fits, with_fits, unset_fits, put_term_fits}
use Rattle.term_steps.specs.Gives.{Gives}
use Rattle.term_steps.specs.Parts.{array_in}
use Rattle.term_steps.proofs.Runs.{gives_then, gives_done, nothing_given}
use Rattle.term_steps.proofs.Growing.{held_read, store_stays, below_stays}
use Rattle.term_steps.proofs.OperandRuns.{array_is, array_there}
use Rattle.term_effects.specs.Parts.{zero_alone}
use Rattle.cond_laws.proofs.Fitting.PathFits.{held_short}

-- ---- what is read as equal

pub store_is : {k : ℕ} {s t : TermStore} → t ≡ s → FitStore k s → FitStore k t
store_is {k} e h = subst (λ (s : TermStore). FitStore k s) (sym e) h

-- the same of an equal script, and of an equal effect
same_script : {A : Type 0} {P : ℕ → A → Type 0} {s u : Script A} {old new : Terms} {x : A} → u ≡ s → Gives P s old new x → Gives P u old new x
same_script {A = A} {P = P} {old = old} {new = new} {x = x} e h = subst (λ (s : Script A). Gives P s old new x) (sym e) h

same_effect : {s : Script (Effect TermStore)} {old new : Terms} {t u : TermStore} {cs ds : List ℕ} → u ≡ t → ds ≡ cs → Gives FitEffect s old new (effect_with t cs) → Gives FitEffect s old new (effect_with u ds)
same_effect {s = s} {old = old} {new = new} {t = t} {u = u} {cs = cs} {ds = ds} e d h =
    subst (λ (u : TermStore). Gives FitEffect s old new (effect_with u ds)) (sym e) (subst (λ (ds : List ℕ). Gives FitEffect s old new (effect_with t ds)) (sym d) h)

-- ---- what is defined nowhere

pub nowhere_runs : {old new : Terms} {cs : List ℕ} (s : TermStore) → FitStore (length old.ops) s → Gives AllBelow zero_alone old new cs → Gives FitEffect (nowhere s) old new (effect_with s cs)
nowhere_runs s f h = gives_done FitEffect (λ cs. effect_with s cs) h (record { now = store_stays f h.grows; conditions = h.fits })

-- ---- assignments

pub place_elem_runs : {p : Place} {i : Expr} (s : TermStore) {old mid new : Terms} {e j : Judged} (x : Var) (o : Option TermSlot) → o ≡ held_at s x → p ≡ ElemPlace x i → Gives FitJudged (expr_term i s) old mid e → Gives FitJudged (element_term o e) mid new j → Gives FitJudged (place_term p s) old new j
place_elem_runs s {e = j} x o is e h k = same_script (ap (λ p. place_term p s) e) (gives_then (λ e. element_term (held_at s x) e) h (same_script (ap (λ o. element_term o j) (sym is)) k))

pub compound_runs : {q : Option BinOp} (p : Place) (e : Expr) (s : TermStore) {old mid far new : Terms} {a b j : Judged} (o : BinOp) → q ≡ Some o → Gives FitJudged (place_term p s) old mid a → Gives FitJudged (expr_term e s) mid far b → Gives FitJudged (operation_term o a b) far new j → Gives FitJudged (assigned_term p q e s) old new j
compound_runs p e s {a = a} o is h k l = same_script (ap (λ q. assigned_term p q e s) is) (gives_then (λ a. expr_term e s >>= (λ b. operation_term o a b)) h (gives_then (λ b. operation_term o a b) k l))

-- an assignment to a scalar
pub scalar_assigned : {p : Place} {old new : Terms} {v : Judged} (q : Option BinOp) (e : Expr) (s t : TermStore) (x : Var) → p ≡ PlainPlace x → t ≡ put_term s x v.term → FitStore (length old.ops) s → Gives FitJudged (assigned_term p q e s) old new v → Gives FitEffect (assignment_effect p q e s) old new (effect_with t v.conditions)
scalar_assigned {v = v} q e s t x is now f h =
    same_effect now refl (same_script (ap (λ p. assignment_effect p q e s) is) (gives_done FitEffect (λ v. effect_with (put_term s x v.term) v.conditions) (same_script (ap (λ p. assigned_term p q e s) (sym is)) h) (record { now = put_term_fits _ s x v.term h.fits.term (store_stays f h.grows); conditions = h.fits.conditions })))

-- an assignment to an element
pub element_assigned : {p : Place} {i : Expr} {old mid far new : Terms} {j v : Judged} {t : Effect TermStore} (q : Option BinOp) (e : Expr) (s : TermStore) (x : Var) → p ≡ ElemPlace x i → Gives FitJudged (expr_term i s) old mid j → Gives FitJudged (assigned_term p q e s) mid far v → Gives FitEffect (put_element s x (held_at s x) j v) far new t → Gives FitEffect (assignment_effect p q e s) old new t
element_assigned {i = i} {j = j} q e s x is h k l =
    same_script (ap (λ p. assignment_effect p q e s) is) (gives_then (λ j. assigned_term (ElemPlace x i) q e s >>= (λ v. put_element s x (held_at s x) j v)) h (gives_then (λ v. put_element s x (held_at s x) j v) (same_script (ap (λ p. assigned_term p q e s) (sym is)) k) l))

-- what is assigned to is no array that has elements
nowhere_put : (o : Option TermSlot) (s : TermStore) (x : Var) (e v : Judged) → array_in o ≡ None → put_element s x o e v ≡ nowhere s
nowhere_put None s x e v h = refl
nowhere_put (Some (Unset t)) s x e v h = refl
nowhere_put (Some (Number t n)) s x e v h = refl
nowhere_put (Some (Numbers t ns)) s x e v h = absurd (cc h)

pub no_element_put : {old new : Terms} {cs : List ℕ} (o : Option TermSlot) (s : TermStore) (x : Var) (e v : Judged) → o ≡ held_at s x → array_in o ≡ None → FitStore (length old.ops) s → Gives AllBelow zero_alone old new cs → Gives FitEffect (put_element s x (held_at s x) e v) old new (effect_with s cs)
no_element_put o s x e v is none f h = same_script (ap (λ o. put_element s x o e v) (sym is) ∙ nowhere_put o s x e v none) (nowhere_runs s f h)

-- ---- declarations of scalars

pub declared : {q : Option Expr} {t : TermStore} {cs : List ℕ} (l : ℕ) (s : TermStore) (terms : Terms) → q ≡ None → t ≡ unset_local_term l s → cs ≡ [] → FitStore (length terms.ops) s → Gives FitEffect (simple_effect (Scalar l q) s) terms terms (effect_with t cs)
declared l s terms is now none f = same_effect now none (same_script (ap (λ q. simple_effect (Scalar l q) s) is) (nothing_given FitEffect terms (effect_with (unset_local_term l s) []) (record { now = unset_fits _ l s f; conditions = tt })))

pub initialised : {q : Option Expr} {e : Expr} {t u : TermStore} {old new : Terms} {v : Judged} (l : ℕ) (s : TermStore) → q ≡ Some e → t ≡ unset_local_term l s → u ≡ put_term t (Local l) v.term → FitStore (length old.ops) s → Gives FitJudged (expr_term e t) old new v → Gives FitEffect (simple_effect (Scalar l q) s) old new (effect_with u v.conditions)
initialised {e = e} {v = v} l s is unset now f h =
    same_effect (now ∙ ap (λ t. put_term t (Local l) v.term) unset) refl (same_script (ap (λ q. simple_effect (Scalar l q) s) is) (gives_done FitEffect (λ v. effect_with (put_term (unset_local_term l s) (Local l) v.term) v.conditions) (same_script (ap (λ t. expr_term e t) (sym unset)) h) (record { now = put_term_fits _ (unset_local_term l s) (Local l) v.term h.fits.term (store_stays (unset_fits _ l s f) h.grows); conditions = h.fits.conditions })))

-- ---- arrays

-- the elements of an array are there, and few
pub held_array : {k : ℕ} {s : TermStore} {o : Option TermSlot} (ns : List ℕ) (x : Var) → o ≡ held_at s x → array_in o ≡ Some ns → FitStore k s → (AllBelow k ns) × (length ns < 2 ^ 32)
held_array {k = k} {o = o} ns x is there f = array_there k o ns there (held_read x is f (omega arith))

pub element_put : {o : Option TermSlot} {t : Ty} {u : TermStore} {old mid new : Terms} {n c : ℕ} {xs ms ds all : List ℕ} (s : TermStore) (ns : List ℕ) (x : Var) (e v : Judged) → o ≡ held_at s x → array_in o ≡ Some ns → t ≡ held_ty o → n ≡ length ns → xs ≡ ns → Gives Below (index_condition e.term n) old mid c → Gives (AsMany (length xs)) (elements_after e.term 0 v.term xs) mid new ms → u ≡ with_term_slot s x (Numbers t ms) → ds ≡ v.conditions ++ c ∷ [] → all ≡ e.conditions ++ ds → FitStore (length old.ops) s → FitJudged (length old.ops) e → FitJudged (length old.ops) v → Gives FitEffect (put_element s x (held_at s x) e v) old new (effect_with u all)
element_put {o = o} {old = old} {mid = mid} {new = new} {c = c} {ms = ms} s ns x e v is there type many are h g now more conditions f fe fv =
    let type' : Ty = held_ty o in
    let few = (held_array ns x is there f).1 in
    let inside : Gives Below (index_condition e.term (length ns)) old mid c = same_script (ap (λ n. index_condition e.term n) (sym many)) h in
    let after : Gives (AsMany (length ns)) (elements_after e.term 0 v.term ns) mid new ms = subst (λ (ns : List ℕ). Gives (AsMany (length ns)) (elements_after e.term 0 v.term ns) mid new ms) are g in
    let all : AllBelow (length new.ops) (e.conditions ++ (v.conditions ++ c ∷ [])) = below_append (length new.ops) e.conditions (v.conditions ++ c ∷ []) (below_stays e.conditions fe.conditions (omega (arith, h.grows, g.grows))) (below_append (length new.ops) v.conditions (c ∷ []) (below_stays v.conditions fv.conditions (omega (arith, h.grows, g.grows))) (omega (arith, h.fits, g.grows), tt)) in
    let fits : FitEffect (length new.ops) (effect_with (with_term_slot s x (Numbers type' ms)) (e.conditions ++ (v.conditions ++ c ∷ []))) = record { now = with_fits (length new.ops) s x (Numbers type' ms) (g.fits.0, omega (arith, after.fits.1, few)) (store_stays f (omega (arith, h.grows, g.grows))); conditions = all } in
    let whole : Gives FitEffect (put_element s x (Some (Numbers type' ns)) e v) old new (effect_with (with_term_slot s x (Numbers type' ms)) (e.conditions ++ (v.conditions ++ c ∷ []))) = gives_then (λ c. elements_after e.term 0 v.term ns >>= (λ ms. Done (effect_with (with_term_slot s x (Numbers type' ms)) (e.conditions ++ (v.conditions ++ c ∷ []))))) inside (gives_done FitEffect (λ ms. effect_with (with_term_slot s x (Numbers type' ms)) (e.conditions ++ (v.conditions ++ c ∷ []))) after fits) in
    same_effect (now ∙ ap (λ t. with_term_slot s x (Numbers t ms)) type) (conditions ∙ ap (λ ds. e.conditions ++ ds) more) (same_script (ap (λ o. put_element s x o e v) (sym is ∙ array_is o ns there)) whole)

-- ---- declarations of arrays

-- what is set last stays
set_twice : (xs : List TermSlot) (n : ℕ) (x y : TermSlot) → slice_set (slice_set xs n x) n y ≡ slice_set xs n y
set_twice [] n x y = refl
set_twice (z ∷ xs) zero x y = refl
set_twice (z ∷ xs) (suc n) x y = ap (λ xs. z ∷ xs) (set_twice xs n x y)

unset_then : (l : ℕ) (s : TermStore) (y : TermSlot) → with_term_slot (unset_local_term l s) (Local l) y ≡ with_term_slot s (Local l) y
unset_then l s y = ap (λ ls. with_local_terms s ls) (set_twice s.locals l (Unset (held_ty (slice_get s.locals l))) y)

-- as many values as expressions
values_many : (es : List Expr) (s : TermStore) (ops : List Op) → length (outcome (all_exprs es s) ops).terms ≡ length es
values_many [] s ops = refl
values_many (e ∷ es) s ops =
    let j : Judged = outcome (expr_term e s) ops in
    let after : List Op = ops_after (expr_term e s) ops in
    ap (λ l. length l.terms) (outcome_then (expr_term e s) (λ j. all_exprs es s >>= (λ more. Done (listed_terms (j.term ∷ more.terms) (j.conditions ++ more.conditions)))) ops ∙ outcome_then (all_exprs es s) (λ more. Done (listed_terms (j.term ∷ more.terms) (j.conditions ++ more.conditions))) after) ∙ ap suc (values_many es s after)

pub array_declared : {o : Option TermSlot} {t : Ty} {u w : TermStore} {old mid new : Terms} {m : ℕ} {vs : Listed} {zs all : List ℕ} (l : ℕ) (es : List Expr) (s : TermStore) → o ≡ held_at s (Local l) → t ≡ held_ty o → u ≡ unset_local_term l s → m ≡ held_length o - length vs.terms → Gives FitListed (all_exprs es u) old mid vs → Gives (AsMany m) (zero_terms m) mid new zs → all ≡ vs.terms ++ zs → w ≡ with_term_slot u (Local l) (Numbers t all) → FitStore (length old.ops) s → length es ≤ 2 ^ 31 → Gives FitEffect (simple_effect (Array l es) s) old new (effect_with w vs.conditions)
array_declared {o = o} {t = t} {u = u} {w = w} {old = old} {mid = mid} {new = new} {m = m} {vs = vs} {zs = zs} {all = all} l es s is type unset missing h g elements now f few =
    let held : Option TermSlot = slice_get s.locals l in
    let short : held_length held < 2 ^ 32 = held_short (length old.ops) held (held_fits (length old.ops) s (Local l) f) in
    let many : length vs.terms ≡ length es = ap (λ l. length l.terms) h.done ∙ values_many es u old.ops in
    let least : m ≡ held_length held - length vs.terms = missing ∙ ap (λ o. held_length o - length vs.terms) is in
    let values : Gives FitListed (all_exprs es (unset_local_term l s)) old mid vs = same_script (ap (λ u. all_exprs es u) (sym unset)) h in
    let rest : Gives (AsMany m) (zero_terms (held_length held - length vs.terms)) mid new zs = same_script (ap zero_terms (sym least)) g in
    let fits_list : FitStore (length new.ops) (with_term_slot s (Local l) (Numbers (held_ty held) (vs.terms ++ zs))) = with_fits (length new.ops) s (Local l) (Numbers (held_ty held) (vs.terms ++ zs)) (below_append (length new.ops) vs.terms zs (below_stays vs.terms h.fits.terms g.grows) g.fits.0, omega (arith, length-append vs.terms zs, g.fits.1, least, many, few, short)) (store_stays f (omega (arith, h.grows, g.grows))) in
    let put : Gives FitStore (put_term_list s l held vs.terms) mid new (with_term_slot s (Local l) (Numbers (held_ty held) (vs.terms ++ zs))) = gives_done FitStore (λ zs. with_term_slot s (Local l) (Numbers (held_ty held) (vs.terms ++ zs))) rest fits_list in
    let last : Gives FitEffect (put_term_list s l held vs.terms >>= (λ now. Done (effect_with now vs.conditions))) mid new (effect_with (with_term_slot s (Local l) (Numbers (held_ty held) (vs.terms ++ zs))) vs.conditions) = gives_done FitEffect (λ now. effect_with now vs.conditions) put (record { now = fits_list; conditions = below_stays vs.conditions h.fits.conditions g.grows }) in
    let final : w ≡ with_term_slot s (Local l) (Numbers (held_ty held) (vs.terms ++ zs)) = now ∙ (ap (λ u. with_term_slot u (Local l) (Numbers t all)) unset ∙ (unset_then l s (Numbers t all) ∙ (ap (λ t. with_term_slot s (Local l) (Numbers t all)) (type ∙ ap held_ty is) ∙ ap (λ ns. with_term_slot s (Local l) (Numbers (held_ty held) ns)) elements))) in
    same_effect final refl (gives_then (λ vs. put_term_list s l held vs.terms >>= (λ now. Done (effect_with now vs.conditions))) values last)

-- ---- statements

-- any other statement is defined nowhere
other_statement : (st : Stmt) (s : TermStore) → (st ≡ Empty → ⊥) → ((l : ℕ) (q : Option Expr) → st ≡ Scalar l q → ⊥) → ((l : ℕ) (es : List Expr) → st ≡ Array l es → ⊥) → ((p : Place) (q : Option BinOp) (e : Expr) → st ≡ Assign p q e → ⊥) → simple_effect st s ≡ nowhere s
other_statement Empty s h k l m = absurd (h refl)
other_statement (Scalar n q) s h k l m = absurd (k n q refl)
other_statement (Array n es) s h k l m = absurd (l n es refl)
other_statement (Assign p q e) s h k l m = absurd (m p q e refl)
other_statement _ s h k l m = refl

pub other_runs : {old new : Terms} {cs : List ℕ} (st : Stmt) (s : TermStore) → (st ≡ Empty → ⊥) → ((l : ℕ) (q : Option Expr) → st ≡ Scalar l q → ⊥) → ((l : ℕ) (es : List Expr) → st ≡ Array l es → ⊥) → ((p : Place) (q : Option BinOp) (e : Expr) → st ≡ Assign p q e → ⊥) → FitStore (length old.ops) s → Gives AllBelow zero_alone old new cs → Gives FitEffect (simple_effect st s) old new (effect_with s cs)
other_runs st s h k l m f g = same_script (other_statement st s h k l m) (nowhere_runs s f g)

pub small_at : (ss : List Stmt) (i : ℕ) (st : Stmt) → HaveSmallLists ss → i < length ss → st ≡ get_or ss i st → HasSmallList st
small_at [] i st h l e = absurd (omega arith)
small_at (x ∷ ss) zero st h l e = subst (λ (st : Stmt). HasSmallList st) (sym e) h.0
small_at (x ∷ ss) (suc i) st h l e = small_at ss i st h.1 (omega arith) e
