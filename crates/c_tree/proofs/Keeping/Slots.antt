-- Slots of a layout: what is read there, and what a write keeps.
use Rattle.std.proofs.Common.{◌≡◌, ℕ, zero, suc, Bool, true, false, List, [], ◌∷◌, length, Option, Some, None, refl, sym, subst, ◌∙◌}
use Rattle.std.specs.Prelude.{IsTrue, IfSome, if◌then◌else◌, nat_lt, slice_get, slice_set, is_none, is_some, pos, negsuc}
use Rattle.c_tree.specs.declared.tree.Ty.{Ty}
use Rattle.c_tree.specs.declared.tree.Var.{Var}
use Rattle.c_tree.specs.declared.tree.Var.TheVariants.{Local, Global}
use Rattle.c_tree.specs.declared.value.Value.{Value}
use Rattle.c_tree.specs.declared.value.Value.TheVariants.{Int, Unsigned}
use Rattle.c_tree.specs.declared.value.Slot.{Slot}
use Rattle.c_tree.specs.declared.value.Slot.TheVariants.{Unset, Number, Numbers}
use Rattle.c_tree.specs.declared.value.Store.{Store}
use Rattle.std.proofs.lemmas.List.{length-set}
use Rattle.c_tree.specs.Meaning.Values.{convert, is_value}
use Rattle.c_tree.specs.Meaning.Stores.{slot, slot_ty, number_in, number_at, with_slot, unset_local, put_number, put_at}
use Rattle.c_tree.specs.Meaning.Expressions.{element}
use Rattle.c_tree.specs.Keeping.Layouts.{Shape, Layout, shape, is_scalar, is_array, IsValueOf, AreValuesOf, IsSlotOf, IsReadSlotOf, EachSlot, HasLayout, HasReadLayout}
use Rattle.c_tree.specs.Keeping.Asked.{has_scalar, has_array}
use Rattle.c_tree.proofs.Keeping.Ranges.{convert_in}

-- ---- one slot of many

-- a slot is there exactly where a shape is, and suits it
abbrev pub SlotFor : (Ty → Option ℕ → Slot → Type 0) → Option Shape → Option Slot → Type 0
SlotFor R None None = Unit {0}
SlotFor R None (Some y) = ⊥
SlotFor R (Some x) None = ⊥
SlotFor R (Some x) (Some y) = R x.ty x.length y

pub each_at : (R : Ty → Option ℕ → Slot → Type 0) (xs : List Shape) (ys : List Slot) (n : ℕ) → EachSlot R xs ys → SlotFor R (slice_get xs n) (slice_get ys n)
each_at R [] [] n h = tt
each_at R [] (y ∷ ys) n h = absurd h
each_at R (x ∷ xs) [] n h = absurd h
each_at R (x ∷ xs) (y ∷ ys) zero h = h.0
each_at R (x ∷ xs) (y ∷ ys) (suc n) h = each_at R xs ys n h.1

pub each_set : (R : Ty → Option ℕ → Slot → Type 0) (xs : List Shape) (ys : List Slot) (n : ℕ) (y : Slot) → EachSlot R xs ys → IfSome (slice_get xs n) (λ x. R x.ty x.length y) → EachSlot R xs (slice_set ys n y)
each_set R [] [] n y h suits = tt
each_set R [] (z ∷ ys) n y h suits = absurd h
each_set R (x ∷ xs) [] n y h suits = absurd h
each_set R (x ∷ xs) (z ∷ ys) zero y h suits = (suits, h.1)
each_set R (x ∷ xs) (z ∷ ys) (suc n) y h suits = (h.0, each_set R xs ys n y h.1 suits)

pub each_weaker : (R Q : Ty → Option ℕ → Slot → Type 0) → ((t : Ty) (o : Option ℕ) (y : Slot) → R t o y → Q t o y) → (xs : List Shape) (ys : List Slot) → EachSlot R xs ys → EachSlot Q xs ys
each_weaker R Q w [] [] h = tt
each_weaker R Q w [] (y ∷ ys) h = absurd h
each_weaker R Q w (x ∷ xs) [] h = absurd h
each_weaker R Q w (x ∷ xs) (y ∷ ys) h = (w x.ty x.length y h.0, each_weaker R Q w xs ys h.1)

read_slot : (t : Ty) (o : Option ℕ) (y : Slot) → IsSlotOf t o y → IsReadSlotOf t o y
read_slot t None (Unset u) h = h
read_slot t None (Number v) h = h
read_slot t None (Numbers u vs) h = h
read_slot t (Some n) (Unset u) h = absurd h
read_slot t (Some n) (Number v) h = h
read_slot t (Some n) (Numbers u vs) h = (h.0, h.1.1)

pub read_layout : (l : Layout) (s : Store) → HasLayout l s → HasReadLayout l s
read_layout l s h = record {
  locals_of = each_weaker IsSlotOf IsReadSlotOf read_slot l.locals s.locals h.locals_of;
  globals_of = each_weaker IsSlotOf IsReadSlotOf read_slot l.globals s.globals h.globals_of;
}

pub slot_at : (l : Layout) (s : Store) → HasLayout l s → (v : Var) → SlotFor IsSlotOf (shape l v) (slot s v)
slot_at l s h (Local n) = each_at IsSlotOf l.locals s.locals n h.locals_of
slot_at l s h (Global n) = each_at IsSlotOf l.globals s.globals n h.globals_of

pub read_at : (l : Layout) (s : Store) → HasReadLayout l s → (v : Var) → SlotFor IsReadSlotOf (shape l v) (slot s v)
read_at l s h (Local n) = each_at IsReadSlotOf l.locals s.locals n h.locals_of
read_at l s h (Global n) = each_at IsReadSlotOf l.globals s.globals n h.globals_of

pub written : (l : Layout) (s : Store) (v : Var) (y : Slot) → HasLayout l s → IfSome (shape l v) (λ x. IsSlotOf x.ty x.length y) → HasLayout l (with_slot s v y)
written l s (Local n) y h suits = record {
  locals_of = each_set IsSlotOf l.locals s.locals n y h.locals_of suits;
  globals_of = h.globals_of;
}
written l s (Global n) y h suits = record {
  locals_of = h.locals_of;
  globals_of = each_set IsSlotOf l.globals s.globals n y h.globals_of suits;
}

-- ---- what a slot gives

number_of : (t : Ty) (o : Option ℕ) (y : Slot) → IsReadSlotOf t o y → IfSome (number_in (Some y)) (IsValueOf (slot_ty (Some y)))
number_of t o (Unset u) h = tt
number_of t None (Number v) h = record { same_type = refl; in_range = h.in_range }
number_of t (Some n) (Number v) h = absurd h
number_of t o (Numbers u vs) h = tt

pub number_gives : (o : Option Shape) (p : Option Slot) → SlotFor IsReadSlotOf o p → IfSome (number_in p) (IsValueOf (slot_ty p))
number_gives o None h = tt
number_gives None (Some y) h = absurd h
number_gives (Some x) (Some y) h = number_of x.ty x.length y h

value_at : (t : Ty) (vs : List Value) (n : ℕ) → AreValuesOf t vs → IfSome (slice_get vs n) (IsValueOf t)
value_at t [] n h = tt
value_at t (v ∷ vs) zero h = h.0
value_at t (v ∷ vs) (suc n) h = value_at t vs n h.1

value_in : (t u : Ty) (vs : List Value) (n : ℕ) → u ≡ t → AreValuesOf t vs → IfSome (slice_get vs n) (IsValueOf u)
value_in t u vs n e h = subst (λ t. IfSome (slice_get vs n) (IsValueOf t)) (sym e) (value_at t vs n h)

number_at_of : (t : Ty) (o : Option ℕ) (y : Slot) (n : ℕ) → IsReadSlotOf t o y → IfSome (number_at (Some y) n) (IsValueOf (slot_ty (Some y)))
number_at_of t o (Unset u) n h = tt
number_at_of t o (Number v) n h = tt
number_at_of t None (Numbers u vs) n h = absurd h
number_at_of t (Some m) (Numbers u vs) n h = value_in t u vs n h.0 h.1

number_at_gives : (o : Option Shape) (p : Option Slot) (n : ℕ) → SlotFor IsReadSlotOf o p → IfSome (number_at p n) (IsValueOf (slot_ty p))
number_at_gives o None n h = tt
number_at_gives None (Some y) n h = absurd h
number_at_gives (Some x) (Some y) n h = number_at_of x.ty x.length y n h

pub element_gives : (o : Option Shape) (p : Option Slot) (v : Option Value) → SlotFor IsReadSlotOf o p → IfSome (element p v) (IsValueOf (slot_ty p))
element_gives o p None h = tt
element_gives o p (Some (Int (pos n))) h = number_at_gives o p n h
element_gives o p (Some (Int (negsuc n))) h = tt
element_gives o p (Some (Unsigned n)) h = number_at_gives o p n h

-- ---- what is there

scalar_is : (t : Ty) (o : Option ℕ) (y : Slot) → IsReadSlotOf t o y → IsTrue (is_none o) → IsTrue (has_scalar (Some y))
scalar_is t o (Unset u) h none = refl
scalar_is t o (Number v) h none = refl
scalar_is t None (Numbers u vs) h none = absurd h
scalar_is t (Some n) (Numbers u vs) h none = absurd (cc)

pub scalar_there : (o : Option Shape) (p : Option Slot) → SlotFor IsReadSlotOf o p → IsTrue (is_scalar o) → IsTrue (has_scalar p)
scalar_there None p h is = absurd (cc)
scalar_there (Some x) None h is = absurd h
scalar_there (Some x) (Some y) h is = scalar_is x.ty x.length y h is

array_is : (t : Ty) (o : Option ℕ) (y : Slot) → IsReadSlotOf t o y → IsTrue (is_some o) → IsTrue (has_array (Some y))
array_is t o (Unset u) h some = refl
array_is t None (Number v) h some = absurd (cc)
array_is t (Some n) (Number v) h some = absurd h
array_is t o (Numbers u vs) h some = refl

pub array_there : (o : Option Shape) (p : Option Slot) → SlotFor IsReadSlotOf o p → IsTrue (is_array o) → IsTrue (has_array p)
array_there None p h is = absurd (cc)
array_there (Some x) None h is = absurd h
array_there (Some x) (Some y) h is = array_is x.ty x.length y h is

-- ---- what a write leaves

type_is : (t : Ty) (o : Option ℕ) (y : Slot) → IsSlotOf t o y → slot_ty (Some y) ≡ t
type_is t None (Unset u) h = h
type_is t None (Number v) h = h.same_type
type_is t None (Numbers u vs) h = absurd h
type_is t (Some n) (Unset u) h = absurd h
type_is t (Some n) (Number v) h = absurd h
type_is t (Some n) (Numbers u vs) h = h.0

unset_suits : (o : Option Shape) (p : Option Slot) → SlotFor IsSlotOf o p → IfSome o (λ x. IsReadSlotOf x.ty x.length (Unset (slot_ty p)))
unset_suits None p h = tt
unset_suits (Some x) None h = absurd h
unset_suits (Some x) (Some y) h = type_is x.ty x.length y h

-- an initialiser may read a store in which its local is unset
pub unset_reads : (l : Layout) (s : Store) (n : ℕ) → HasLayout l s → HasReadLayout l (unset_local n s)
unset_reads l s n h = record {
  locals_of = each_set IsReadSlotOf l.locals s.locals n (Unset (slot_ty (slice_get s.locals n))) (read_layout l s h).locals_of (unset_suits (slice_get l.locals n) (slice_get s.locals n) (slot_at l s h (Local n)));
  globals_of = (read_layout l s h).globals_of;
}

scalar_slot : (t : Ty) (o : Option ℕ) (y z : Slot) → IsTrue (is_none o) → IsSlotOf t None z → IsSlotOf t o z
scalar_slot t None y z none h = h
scalar_slot t (Some n) y z none h = absurd (cc)

unset_scalar : (o : Option Shape) (p : Option Slot) → SlotFor IsSlotOf o p → IsTrue (is_scalar o) → IfSome o (λ x. IsSlotOf x.ty x.length (Unset (slot_ty p)))
unset_scalar None p h is = tt
unset_scalar (Some x) None h is = absurd h
unset_scalar (Some x) (Some y) h is =
    scalar_slot x.ty x.length y (Unset (slot_ty (Some y))) is (type_is x.ty x.length y h)

pub unset_keeps : (l : Layout) (s : Store) (n : ℕ) → HasLayout l s → IsTrue (is_scalar (shape l (Local n))) → HasLayout l (unset_local n s)
unset_keeps l s n h is =
    written l s (Local n) (Unset (slot_ty (slice_get s.locals n))) h (unset_scalar (slice_get l.locals n) (slice_get s.locals n) (slot_at l s h (Local n)) is)

number_suits : (o : Option Shape) (p : Option Slot) (v : Value) → SlotFor IsSlotOf o p → IsTrue (is_scalar o) → IsTrue (is_value v) → IfSome o (λ x. IsSlotOf x.ty x.length (Number (convert (slot_ty p) v)))
number_suits None p v h is in_range = tt
number_suits (Some x) None v h is in_range = absurd h
number_suits (Some x) (Some y) v h is in_range =
    scalar_slot x.ty x.length y (Number (convert (slot_ty (Some y)) v)) is (subst (λ t. IsValueOf t (convert (slot_ty (Some y)) v)) (type_is x.ty x.length y h) (convert_in (slot_ty (Some y)) v in_range))

pub put_keeps : (l : Layout) (s : Store) (x : Var) (v : Value) → HasLayout l s → IsTrue (is_scalar (shape l x)) → IsTrue (is_value v) → HasLayout l (put_number s x v)
put_keeps l s x v h is in_range =
    written l s x (Number (convert (slot_ty (slot s x)) v)) h (number_suits (shape l x) (slot s x) v (slot_at l s h x) is in_range)

-- ---- arrays

set_are : (t : Ty) (vs : List Value) (n : ℕ) (v : Value) → AreValuesOf t vs → IsValueOf t v → AreValuesOf t (slice_set vs n v)
set_are t [] n v h is = tt
set_are t (w ∷ vs) zero v h is = (is, h.1)
set_are t (w ∷ vs) (suc n) v h is = (h.0, set_are t vs n v h.1 is)

array_suits : (t u : Ty) (o : Option ℕ) (vs : List Value) (n : ℕ) (v : Value) → IsSlotOf t o (Numbers u vs) → IsTrue (is_value v) → IsSlotOf t o (Numbers u (slice_set vs n (convert u v)))
array_suits t u None vs n v h in_range = absurd h
array_suits t u (Some m) vs n v h in_range =
    (h.0, (length-set vs n (convert u v) ∙ h.1.0, set_are t vs n (convert u v) h.1.1 (subst (λ t. IsValueOf t (convert u v)) h.0 (convert_in u v in_range))))

array_set : (o : Option Shape) (u : Ty) (vs : List Value) (n : ℕ) (v : Value) → SlotFor IsSlotOf o (Some (Numbers u vs)) → IsTrue (is_value v) → IfSome o (λ x. IsSlotOf x.ty x.length (Numbers u (slice_set vs n (convert u v))))
array_set None u vs n v h in_range = tt
array_set (Some x) u vs n v h in_range = array_suits x.ty u x.length vs n v h in_range

if_keeps : (l : Layout) (b : Bool) (s : Store) → HasLayout l s → IfSome (if b then Some s else None) (HasLayout l)
if_keeps l true s h = h
if_keeps l false s h = tt

pub put_at_keeps : (l : Layout) (s : Store) (x : Var) (p : Option Slot) (n : ℕ) (v : Value) → slot s x ≡ p → HasLayout l s → IsTrue (is_value v) → IfSome (put_at s x p n v) (HasLayout l)
put_at_keeps l s x None n v e h in_range = tt
put_at_keeps l s x (Some (Unset t)) n v e h in_range = tt
put_at_keeps l s x (Some (Number w)) n v e h in_range = tt
put_at_keeps l s x (Some (Numbers t vs)) n v e h in_range =
    let suits = array_set (shape l x) t vs n v (subst (SlotFor IsSlotOf (shape l x)) e (slot_at l s h x)) in_range in
    if_keeps l (nat_lt n (length vs)) (with_slot s x (Numbers t (slice_set vs n (convert t v)))) (written l s x (Numbers t (slice_set vs n (convert t v))) h suits)
