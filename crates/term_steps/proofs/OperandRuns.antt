-- Operators over operands that have conditions: these come before those of the operator.
use Rattle.std.proofs.Common.{◌≡◌, ◌<◌, ◌≤◌, ◌^◌, ℕ, List, [], ◌∷◌, ◌++◌, Option, Some, None, length, refl, sym, ap, subst, arith}
use Rattle.c_tree.specs.declared.tree.Ty.{Ty}
use Rattle.c_tree.specs.declared.tree.Ty.TheVariants as ty
use Rattle.c_tree.specs.Meaning.Values.{common}
use Rattle.bv_term.specs.declared.op.Op.TheVariants as op
use Rattle.bv_term.specs.Stores.{Terms}
use Rattle.bv_term.specs.Scripts.{Script, Done, put, ◌>>=◌}
use Rattle.cond_laws.specs.declared.store.TermSlot.{TermSlot}
use Rattle.cond_laws.specs.declared.store.TermSlot.TheVariants.{Unset, Number, Numbers}
use Rattle.cond_laws.specs.declared.value.Judged.{Judged}
use Rattle.cond_laws.specs.Judged.{judged_term, also}
use Rattle.cond_laws.specs.TermOperators as spec
use Rattle.cond_laws.specs.TermStores.{held_ty, element_choice, index_condition, element_term}
use Rattle.cond_laws.specs.Conditions.{AllBelow}
use Rattle.cond_laws.specs.Fits.{Below, FitHeld, FitJudged}
use Rattle.cond_laws.proofs.Fitting.OperandFits.{below_append}
use Rattle.term_steps.specs.Gives.{Gives}
use Rattle.term_steps.proofs.Runs.{gives_then, gives_done}
use Rattle.term_steps.specs.Parts.{array_in, both_value, either_value, array_element, no_element}
use Rattle.term_steps.proofs.Growing.{below_stays}

pub also_given : {k : ℕ} {s : Script Judged} {old new : Terms} {value : Judged} (cs ds : List ℕ) → Gives FitJudged s old new value → AllBelow k cs → k ≤ length old.ops → ds ≡ cs ++ value.conditions → Gives FitJudged (s >>= (λ j. Done (also cs j))) old new (record { ty = value.ty; term = value.term; conditions = ds })
also_given {s = s} {old = old} {new = new} {value = value} cs ds h f l e =
    let fits : FitJudged (length new.ops) (also cs value) = record { term = h.fits.term; conditions = below_append (length new.ops) cs value.conditions (below_stays cs f (omega (arith, l, h.grows))) h.fits.conditions } in
    subst (λ (ds : List ℕ). Gives FitJudged (s >>= (λ j. Done (also cs j))) old new (record { ty = value.ty; term = value.term; conditions = ds })) (sym e) (gives_done FitJudged (λ j. also cs j) h fits)

-- ---- operands that are not always evaluated

-- a value, then conditions that are chosen, after those that were there
chosen_after : {k : ℕ} {s : Script ℕ} {u : Script (List ℕ)} {old mid new : Terms} {r : ℕ} {more : List ℕ} (t : Ty) (cs ds : List ℕ) → Gives Below s old mid r → Gives AllBelow u mid new more → AllBelow k cs → k ≤ length old.ops → ds ≡ cs ++ more → Gives FitJudged (s >>= (λ r. u >>= (λ ms. Done (judged_term t r (cs ++ ms))))) old new (judged_term t r ds)
chosen_after {s = s} {u = u} {old = old} {mid = mid} {new = new} {r = r} {more = more} t cs ds h g f l e =
    let all : AllBelow (length new.ops) (cs ++ more) = below_append (length new.ops) cs more (below_stays cs f (omega (arith, l, h.grows, g.grows))) g.fits in
    let last : Gives FitJudged (u >>= (λ ms. Done (judged_term t r (cs ++ ms)))) mid new (judged_term t r (cs ++ more)) = gives_done FitJudged (λ ms. judged_term t r (cs ++ ms)) g (record { term = omega (arith, h.fits, g.grows); conditions = all }) in
    subst (λ (ds : List ℕ). Gives FitJudged (s >>= (λ r. u >>= (λ ms. Done (judged_term t r (cs ++ ms))))) old new (judged_term t r ds)) (sym e) (gives_then (λ r. u >>= (λ ms. Done (judged_term t r (cs ++ ms)))) h last)

pub both_given : {old mid new : Terms} {r : ℕ} {more : List ℕ} (p q : Judged) (xs ds : List ℕ) → xs ≡ q.conditions → Gives Below (both_value p.term q.term) old mid r → Gives AllBelow (spec.conditions_where_true p.term xs) mid new more → AllBelow (length old.ops) p.conditions → ds ≡ p.conditions ++ more → Gives FitJudged (spec.both_term p q) old new (judged_term ty.Int r ds)
both_given {mid = mid} {new = new} {more = more} p q xs ds is h g f e =
    let right : Gives AllBelow (spec.conditions_where_true p.term q.conditions) mid new more = subst (λ (ns : List ℕ). Gives AllBelow (spec.conditions_where_true p.term ns) mid new more) is g in
    chosen_after ty.Int p.conditions ds h right f (omega arith) e

pub either_given : {old mid new : Terms} {r : ℕ} {more : List ℕ} (p q : Judged) (xs ds : List ℕ) → xs ≡ q.conditions → Gives Below (either_value p.term q.term) old mid r → Gives AllBelow (spec.conditions_where_false p.term xs) mid new more → AllBelow (length old.ops) p.conditions → ds ≡ p.conditions ++ more → Gives FitJudged (spec.either_term p q) old new (judged_term ty.Int r ds)
either_given {mid = mid} {new = new} {more = more} p q xs ds is h g f e =
    let right : Gives AllBelow (spec.conditions_where_false p.term q.conditions) mid new more = subst (λ (ns : List ℕ). Gives AllBelow (spec.conditions_where_false p.term ns) mid new more) is g in
    chosen_after ty.Int p.conditions ds h right f (omega arith) e

pub chosen_given : {old mid far new : Terms} {r : ℕ} {ms ns : List ℕ} {t : Ty} (c p q : Judged) (xs ys sides ds : List ℕ) → t ≡ common p.ty q.ty → xs ≡ p.conditions → ys ≡ q.conditions → Gives Below (put (op.Ite c.term p.term q.term)) old mid r → Gives AllBelow (spec.conditions_where_true c.term xs) mid far ms → Gives AllBelow (spec.conditions_where_false c.term ys) far new ns → AllBelow (length old.ops) c.conditions → sides ≡ ms ++ ns → ds ≡ c.conditions ++ sides → Gives FitJudged (spec.choice_term c p q) old new (judged_term t r ds)
chosen_given {old = old} {mid = mid} {far = far} {new = new} {r = r} {ms = ms} {ns = ns} {t = type} c p q xs ys sides ds same is are h g k f es e =
    let first : Gives AllBelow (spec.conditions_where_true c.term p.conditions) mid far ms = subst (λ (l : List ℕ). Gives AllBelow (spec.conditions_where_true c.term l) mid far ms) is g in
    let second : Gives AllBelow (spec.conditions_where_false c.term q.conditions) far new ns = subst (λ (l : List ℕ). Gives AllBelow (spec.conditions_where_false c.term l) far new ns) are k in
    let u : Script (List ℕ) = spec.conditions_where_true c.term p.conditions in
    let v : Script (List ℕ) = spec.conditions_where_false c.term q.conditions in
    let t : Ty = common p.ty q.ty in
    let all : AllBelow (length new.ops) (c.conditions ++ (ms ++ ns)) = below_append (length new.ops) c.conditions (ms ++ ns) (below_stays c.conditions f (omega (arith, h.grows, g.grows, k.grows))) (below_append (length new.ops) ms ns (below_stays ms g.fits k.grows) k.fits) in
    let last : Gives FitJudged (v >>= (λ ys. Done (judged_term t r (c.conditions ++ (ms ++ ys))))) far new (judged_term t r (c.conditions ++ (ms ++ ns))) = gives_done FitJudged (λ ys. judged_term t r (c.conditions ++ (ms ++ ys))) second (record { term = omega (arith, h.fits, g.grows, k.grows); conditions = all }) in
    let rest : Gives FitJudged (u >>= (λ xs. v >>= (λ ys. Done (judged_term t r (c.conditions ++ (xs ++ ys)))))) mid new (judged_term t r (c.conditions ++ (ms ++ ns))) = gives_then (λ xs. v >>= (λ ys. Done (judged_term t r (c.conditions ++ (xs ++ ys))))) first last in
    let whole : Gives FitJudged (spec.choice_term c p q) old new (judged_term t r (c.conditions ++ (ms ++ ns))) = gives_then (λ r. u >>= (λ xs. v >>= (λ ys. Done (judged_term t r (c.conditions ++ (xs ++ ys)))))) h rest in
    subst (λ (t : Ty). Gives FitJudged (spec.choice_term c p q) old new (judged_term t r ds)) (sym same) (subst (λ (ds : List ℕ). Gives FitJudged (spec.choice_term c p q) old new (judged_term t r ds)) (sym e) (subst (λ (l : List ℕ). Gives FitJudged (spec.choice_term c p q) old new (judged_term t r (c.conditions ++ l))) (sym es) whole))

-- ---- elements

pub element_given : {old one mid new : Terms} {z x c : ℕ} (t : Ty) (e : Judged) (xs ns ds : List ℕ) (n : ℕ) → n ≡ length ns → xs ≡ ns → Gives Below (put (op.Const 0)) old one z → Gives Below (element_choice e.term 0 z xs) one mid x → Gives Below (index_condition e.term n) mid new c → FitJudged (length old.ops) e → ds ≡ e.conditions ++ c ∷ [] → Gives FitJudged (array_element t ns e) old new (judged_term t x ds)
element_given {old = old} {one = one} {mid = mid} {new = new} {z = z} {x = x} {c = c} t e xs ns ds n many is h g l f es =
    let k : Gives Below (index_condition e.term (length ns)) mid new c = subst (λ (n : ℕ). Gives Below (index_condition e.term n) mid new c) many l in
    let picks : Gives Below (element_choice e.term 0 z ns) one mid x = subst (λ (l : List ℕ). Gives Below (element_choice e.term 0 z l) one mid x) is g in
    let all : AllBelow (length new.ops) (e.conditions ++ c ∷ []) = below_append (length new.ops) e.conditions (c ∷ []) (below_stays e.conditions f.conditions (omega (arith, h.grows, g.grows, k.grows))) (k.fits, tt) in
    let last : Gives FitJudged (index_condition e.term (length ns) >>= (λ c. Done (judged_term t x (e.conditions ++ c ∷ [])))) mid new (judged_term t x (e.conditions ++ c ∷ [])) = gives_done FitJudged (λ c. judged_term t x (e.conditions ++ c ∷ [])) k (record { term = omega (arith, g.fits, k.grows); conditions = all }) in
    let rest : Gives FitJudged (element_choice e.term 0 z ns >>= (λ x. index_condition e.term (length ns) >>= (λ c. Done (judged_term t x (e.conditions ++ c ∷ []))))) one new (judged_term t x (e.conditions ++ c ∷ [])) = gives_then (λ x. index_condition e.term (length ns) >>= (λ c. Done (judged_term t x (e.conditions ++ c ∷ [])))) picks last in
    let whole : Gives FitJudged (array_element t ns e) old new (judged_term t x (e.conditions ++ c ∷ [])) = gives_then (λ z. element_choice e.term 0 z ns >>= (λ x. index_condition e.term (length ns) >>= (λ c. Done (judged_term t x (e.conditions ++ c ∷ []))))) h rest in
    subst (λ (ds : List ℕ). Gives FitJudged (array_element t ns e) old new (judged_term t x ds)) (sym es) whole

pub no_element_given : {old new : Terms} {z : ℕ} (t : Ty) (e : Judged) (ds : List ℕ) → Gives Below (put (op.Const 0)) old new z → FitJudged (length old.ops) e → ds ≡ e.conditions ++ z ∷ [] → Gives FitJudged (no_element t e) old new (judged_term t z ds)
no_element_given {old = old} {new = new} {z = z} t e ds h f es =
    let all : AllBelow (length new.ops) (e.conditions ++ z ∷ []) = below_append (length new.ops) e.conditions (z ∷ []) (below_stays e.conditions f.conditions h.grows) (h.fits, tt) in
    subst (λ (ds : List ℕ). Gives FitJudged (no_element t e) old new (judged_term t z ds)) (sym es) (gives_done FitJudged (λ z. judged_term t z (e.conditions ++ z ∷ [])) h (record { term = h.fits; conditions = all }))

-- an array that has elements, and what is none
pub array_is : (o : Option TermSlot) (ns : List ℕ) → array_in o ≡ Some ns → o ≡ Some (Numbers (held_ty o) ns)
array_is None ns h = absurd (cc h)
array_is (Some (Unset t)) ns h = absurd (cc h)
array_is (Some (Number t n)) ns h = absurd (cc h)
array_is (Some (Numbers t ms)) ns h = cc h

-- its elements are there, and few
pub array_there : (k : ℕ) (o : Option TermSlot) (ns : List ℕ) → array_in o ≡ Some ns → FitHeld k o → (AllBelow k ns) × (length ns < 2 ^ 32)
array_there k o ns e h = subst (λ (o : Option TermSlot). FitHeld k o) (array_is o ns e) h

pub element_read : {t : Ty} {old new : Terms} {j : Judged} (o : Option TermSlot) (ns : List ℕ) (e : Judged) → array_in o ≡ Some ns → t ≡ held_ty o → Gives FitJudged (array_element t ns e) old new j → Gives FitJudged (element_term o e) old new j
element_read {old = old} {new = new} {j = j} o ns e is same h =
    subst (λ (o : Option TermSlot). Gives FitJudged (element_term o e) old new j) (sym (array_is o ns is)) (subst (λ (t : Ty). Gives FitJudged (array_element t ns e) old new j) same h)

none_is : (o : Option TermSlot) (e : Judged) → array_in o ≡ None → element_term o e ≡ no_element (held_ty o) e
none_is None e h = refl
none_is (Some (Unset t)) e h = refl
none_is (Some (Number t n)) e h = refl
none_is (Some (Numbers t ns)) e h = absurd (cc h)

pub no_element_read : {t : Ty} {old new : Terms} {j : Judged} (o : Option TermSlot) (e : Judged) → array_in o ≡ None → t ≡ held_ty o → Gives FitJudged (no_element t e) old new j → Gives FitJudged (element_term o e) old new j
no_element_read {old = old} {new = new} {j = j} o e is same h =
    subst (λ (s : Script Judged). Gives FitJudged s old new j) (sym (none_is o e is)) (subst (λ (t : Ty). Gives FitJudged (no_element t e) old new j) same h)
