-- Slots of terms: what is written there, and that arrays stay small.
use Rattle.std.proofs.Common.{◌≡◌, ℕ, zero, suc, ◌^◌, ◌<◌, ◌≤◌, List, [], ◌∷◌, Some, refl, sym, ap, ◌∙◌, arith}
use Rattle.c_tree.specs.declared.tree.Ty.{Ty}
use Rattle.c_tree.specs.Meaning.Values.{of_word}
use Rattle.std.specs.Prelude.{map, slice_get, slice_set}
use Rattle.c_tree.specs.declared.tree.Var.{Var}
use Rattle.c_tree.specs.declared.tree.Var.TheVariants.{Local, Global}
use Rattle.c_tree.specs.declared.value.Slot.TheVariants as slot
use Rattle.c_tree.specs.Meaning.Values.{convert}
use Rattle.c_tree.specs.Meaning.Stores as cs
use Rattle.c_tree.specs.Meaning.Stores.{slot_ty}
use Rattle.std.proofs.lemmas.Option.{slice_get-map}
use Rattle.cond_laws.specs.declared.store.TermSlot.{TermSlot}
use Rattle.cond_laws.specs.declared.store.TermSlot.TheVariants.{Unset, Number}
use Rattle.cond_laws.specs.TermStores.{TermStore, slot_at, slots_at, store_at, held_at, held_ty, held_length, with_term_slot, unset_local_term, put_term}
use Rattle.cond_laws.proofs.Stores.ElementTerms.{held_is, held_ty_is}
use Rattle.cond_laws.proofs.Operators.OperandTerms.{convert_word}

-- ---- small arrays

-- each array has at most 2^31 elements, so that an index that is negative is outside as a word too
abbrev pub AreSmall : List TermSlot → Type 0
AreSmall [] = Unit {0}
AreSmall (y ∷ ys) = (held_length (Some y) ≤ 2 ^ 31) × AreSmall ys

pub record IsSmall (s : TermStore) : Type 0 where
  pub locals : AreSmall s.locals
  pub globals : AreSmall s.globals

pub get_small : (ys : List TermSlot) (n : ℕ) → AreSmall ys → held_length (slice_get ys n) ≤ 2 ^ 31
get_small [] n h = omega arith
get_small (y ∷ ys) zero h = h.0
get_small (y ∷ ys) (suc n) h = get_small ys n h.1

pub set_small : (ys : List TermSlot) (n : ℕ) (y : TermSlot) → held_length (Some y) ≤ 2 ^ 31 → AreSmall ys → AreSmall (slice_set ys n y)
set_small [] n y l h = tt
set_small (x ∷ ys) zero y l h = (l, h.1)
set_small (x ∷ ys) (suc n) y l h = (h.0, set_small ys n y l h.1)

pub small_at : (s : TermStore) → IsSmall s → (x : Var) → held_length (held_at s x) ≤ 2 ^ 31
small_at s h (Local n) = get_small s.locals n h.locals
small_at s h (Global n) = get_small s.globals n h.globals

pub with_small : (s : TermStore) (x : Var) (y : TermSlot) → held_length (Some y) ≤ 2 ^ 31 → IsSmall s → IsSmall (with_term_slot s x y)
with_small s (Local n) y l h = record { locals = set_small s.locals n y l h.locals; globals = h.globals }
with_small s (Global n) y l h = record { locals = h.locals; globals = set_small s.globals n y l h.globals }

pub unset_small : (l : ℕ) (s : TermStore) → IsSmall s → IsSmall (unset_local_term l s)
unset_small l s h = with_small s (Local l) (Unset (held_ty (slice_get s.locals l))) (omega arith) h

pub put_small : (s : TermStore) (x : Var) (n : ℕ) → IsSmall s → IsSmall (put_term s x n)
put_small s x n h = with_small s x (Number (held_ty (held_at s x)) n) (omega arith) h

-- ---- what is written

pub map_set : {A B : Type 0} (f : A → B) (xs : List A) (n : ℕ) (y : A) → map f (slice_set xs n y) ≡ slice_set (map f xs) n (f y)
map_set f [] n y = refl
map_set f (x ∷ xs) zero y = refl
map_set f (x ∷ xs) (suc n) y = ap (λ l. f x ∷ l) (map_set f xs n y)

pub with_slot_is : (at : ℕ → ℕ) (s : TermStore) (x : Var) (y : TermSlot) → store_at at (with_term_slot s x y) ≡ cs.with_slot (store_at at s) x (slot_at at y)
with_slot_is at s (Local n) y = ap (λ ls. record { locals = ls; globals = slots_at at s.globals }) (map_set (slot_at at) s.locals n y)
with_slot_is at s (Global n) y = ap (λ gs. record { locals = slots_at at s.locals; globals = gs }) (map_set (slot_at at) s.globals n y)

pub unset_is : (at : ℕ → ℕ) (l : ℕ) (s : TermStore) → store_at at (unset_local_term l s) ≡ cs.unset_local l (store_at at s)
unset_is at l s =
    with_slot_is at s (Local l) (Unset (held_ty (slice_get s.locals l))) ∙ ap (λ t. cs.with_slot (store_at at s) (Local l) (slot.Unset t)) (sym (ap slot_ty (slice_get-map (slot_at at) s.locals l) ∙ held_ty_is at (slice_get s.locals l)))

pub put_is : (at : ℕ → ℕ) → ((n : ℕ) → at n < 2 ^ 32) → (s : TermStore) (x : Var) (t : Ty) (n : ℕ) → store_at at (put_term s x n) ≡ cs.put_number (store_at at s) x (of_word t (at n))
put_is at small s x t n =
    with_slot_is at s x (Number (held_ty (held_at s x)) n) ∙ ap (λ v. cs.with_slot (store_at at s) x (slot.Number v)) (sym (convert_word (held_ty (held_at s x)) t (at n) (small n)) ∙ ap (λ u. convert u (of_word t (at n))) (sym (ap slot_ty (held_is at s x) ∙ held_ty_is at (held_at s x))))
