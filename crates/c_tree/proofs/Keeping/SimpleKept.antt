-- A well-formed simple statement keeps the layout of the store.
use Rattle.std.proofs.Common.{◌≡◌, ◌≤◌, ℕ, zero, suc, ◌-◌, List, [], ◌∷◌, ◌++◌, length, replicate, Option, Some, None, refl, sym, subst, ap, ◌∙◌, arith, length-append}
use Rattle.std.specs.Prelude.{IsTrue, IfSome, slice_get, option_and_then, option_map}
use Rattle.c_tree.specs.declared.tree.Ty.{Ty}
use Rattle.c_tree.specs.declared.tree.Var.TheVariants.{Local}
use Rattle.c_tree.specs.declared.tree.BinOp.{BinOp}
use Rattle.c_tree.specs.declared.tree.Expr.{Expr}
use Rattle.c_tree.specs.declared.tree.Place.{Place}
use Rattle.c_tree.specs.declared.tree.Place.TheVariants.{Scalar as PlainPlace, Elem as ElemPlace}
use Rattle.c_tree.specs.declared.value.Value.{Value}
use Rattle.c_tree.specs.declared.value.Slot.{Slot}
use Rattle.c_tree.specs.declared.value.Slot.TheVariants.{Unset, Number, Numbers}
use Rattle.c_tree.specs.declared.value.Store.{Store}
use Rattle.c_tree.specs.Meaning.Values.{converted_values, zero_of, is_value}
use Rattle.c_tree.specs.Meaning.Operators.{operation_value}
use Rattle.c_tree.specs.Meaning.Stores.{slot, slot_ty, slot_length, index, padded_list, unset_local, put_number, put_at, put_list}
use Rattle.c_tree.specs.Meaning.Expressions.{type_of, val, all_values, bin_ty}
use Rattle.c_tree.specs.Meaning.Statements.{place_value, assigned_value, assign_at}
use Rattle.c_tree.specs.Keeping.Layouts.{Shape, Layout, shape, is_scalar, IsValueOf, AreValuesOf, IsSlotOf, HasLayout, HasReadLayout}
use Rattle.c_tree.specs.Keeping.WellFormed.{WellFormedExpr, WellFormedExprs, WellFormedPlace, FitsLength, FitsArray}
use Rattle.c_tree.specs.Keeping.Kept.{AreValues}
use Rattle.c_tree.proofs.Keeping.Ranges.{convert_in, zero_in, operated_gives}
use Rattle.c_tree.proofs.Keeping.Slots.{SlotFor, slot_at, read_at, read_layout, written, number_gives, element_gives, unset_reads, unset_keeps, put_keeps, put_at_keeps}
use Rattle.c_tree.proofs.Keeping.Evaluated.{val_gives}

-- ---- lists of values

pub values_give : (l : Layout) (s : Store) → HasReadLayout l s → (es : List Expr) → WellFormedExprs l es → IfSome (all_values es s) (λ vs. (length vs ≡ length es) × AreValues vs)
values_give l s h [] w = (refl, tt)
values_give l s h (e ∷ es) w =
    by_value (type_of e s) (val e s) (all_values es s) (val_gives l s h e w.0) (values_give l s h es w.1)
  where
    by_value : (t : Ty) (o : Option Value) (p : Option (List Value)) → IfSome o (IsValueOf t) → IfSome p (λ vs. (length vs ≡ length es) × AreValues vs) → IfSome (option_and_then (λ v. option_map (λ vs. v ∷ vs) p) o) (λ vs. (length vs ≡ length (e ∷ es)) × AreValues vs)
    by_value t None p ho hp = tt
    by_value t (Some v) None ho hp = tt
    by_value t (Some v) (Some vs) ho hp = (ap suc hp.0, (ho.in_range, hp.1))

converted_are : (t : Ty) (vs : List Value) → AreValues vs → AreValuesOf t (converted_values t vs)
converted_are t [] h = tt
converted_are t (v ∷ vs) h = (convert_in t v h.0, converted_are t vs h.1)

length_converted : (t : Ty) (vs : List Value) → length (converted_values t vs) ≡ length vs
length_converted t [] = refl
length_converted t (v ∷ vs) = ap suc (length_converted t vs)

pub replicate_are : (t : Ty) (n : ℕ) (v : Value) → IsValueOf t v → AreValuesOf t (replicate n v)
replicate_are t zero v h = tt
replicate_are t (suc n) v h = (h, replicate_are t n v h)

pub length_replicate : (n : ℕ) (v : Value) → length (replicate n v) ≡ n
length_replicate zero v = refl
length_replicate (suc n) v = ap suc (length_replicate n v)

pub append_are : (t : Ty) (vs ws : List Value) → AreValuesOf t vs → AreValuesOf t ws → AreValuesOf t (vs ++ ws)
append_are t [] ws h k = k
append_are t (v ∷ vs) ws h k = (h.0, append_are t vs ws h.1 k)

length_padded : (t : Ty) (n : ℕ) (vs : List Value) → length vs ≤ n → length (padded_list t n vs) ≡ n
length_padded t n vs h =
    omega (arith, h, length-append (converted_values t vs) (replicate (n - length vs) (zero_of t)), length_converted t vs, length_replicate (n - length vs) (zero_of t))

padded_are : (t : Ty) (n : ℕ) (vs : List Value) → AreValues vs → AreValuesOf t (padded_list t n vs)
padded_are t n vs h =
    append_are t (converted_values t vs) (replicate (n - length vs) (zero_of t)) (converted_are t vs h) (replicate_are t (n - length vs) (zero_of t) (zero_in t))

-- ---- declarations

pub declared_keeps : (l : Layout) (s : Store) → HasLayout l s → (n : ℕ) (e : Expr) → IsTrue (is_scalar (shape l (Local n))) → WellFormedExpr l e → IfSome (option_map (put_number (unset_local n s) (Local n)) (val e (unset_local n s))) (HasLayout l)
declared_keeps l s h n e is w =
    by_value (type_of e (unset_local n s)) (val e (unset_local n s)) (val_gives l (unset_local n s) (unset_reads l s n h) e w)
  where
    by_value : (t : Ty) (o : Option Value) → IfSome o (IsValueOf t) → IfSome (option_map (put_number (unset_local n s) (Local n)) o) (HasLayout l)
    by_value t None ho = tt
    by_value t (Some v) ho = put_keeps l (unset_local n s) (Local n) v (unset_keeps l s n h is) is ho.in_range

list_suits : (t : Ty) (o : Option ℕ) (y : Slot) (vs : List Value) → IsSlotOf t o y → FitsLength o (length vs) → AreValues vs → IsSlotOf t o (Numbers (slot_ty (Some y)) (padded_list (slot_ty (Some y)) (slot_length (Some y)) vs))
list_suits t None y vs h fits are = absurd fits
list_suits t (Some n) (Unset u) vs h fits are = absurd h
list_suits t (Some n) (Number v) vs h fits are = absurd h
list_suits t (Some n) (Numbers u ws) vs h fits are =
    (h.0, (length_padded u (length ws) vs (omega (arith, h.1.0, fits.1)) ∙ h.1.0, subst (λ t. AreValuesOf t (padded_list u (length ws) vs)) h.0 (padded_are u (length ws) vs are)))

put_suits : (o : Option Shape) (p : Option Slot) (vs : List Value) → SlotFor IsSlotOf o p → FitsArray o (length vs) → AreValues vs → IfSome o (λ x. IsSlotOf x.ty x.length (Numbers (slot_ty p) (padded_list (slot_ty p) (slot_length p) vs)))
put_suits None p vs h fits are = tt
put_suits (Some x) None vs h fits are = absurd h
put_suits (Some x) (Some y) vs h fits are = list_suits x.ty x.length y vs h fits are

pub list_keeps : (l : Layout) (s : Store) → HasLayout l s → (n : ℕ) (es : List Expr) → FitsArray (shape l (Local n)) (length es) → WellFormedExprs l es → IfSome (option_map (put_list s n (slice_get s.locals n)) (all_values es (unset_local n s))) (HasLayout l)
list_keeps l s h n es fits w =
    by_values (all_values es (unset_local n s)) (values_give l (unset_local n s) (unset_reads l s n h) es w)
  where
    by_values : (o : Option (List Value)) → IfSome o (λ vs. (length vs ≡ length es) × AreValues vs) → IfSome (option_map (put_list s n (slice_get s.locals n)) o) (HasLayout l)
    by_values None ho = tt
    by_values (Some vs) ho =
        written l s (Local n) (Numbers (slot_ty (slice_get s.locals n)) (padded_list (slot_ty (slice_get s.locals n)) (slot_length (slice_get s.locals n)) vs)) h (put_suits (slice_get l.locals n) (slice_get s.locals n) vs (slot_at l s h (Local n)) (subst (FitsArray (slice_get l.locals n)) (sym ho.0) fits) ho.1)

-- ---- assignments

pub in_range_of : (t : Ty) (o : Option Value) → IfSome o (IsValueOf t) → IfSome o (λ v. IsTrue (is_value v))
in_range_of t None h = tt
in_range_of t (Some v) h = h.in_range

place_gives : (l : Layout) (s : Store) → HasLayout l s → (p : Place) → WellFormedPlace l p → (t : Ty) × IfSome (place_value p s) (IsValueOf t)
place_gives l s h (PlainPlace x) w =
    (slot_ty (slot s x), number_gives (shape l x) (slot s x) (read_at l s (read_layout l s h) x))
place_gives l s h (ElemPlace x i) w =
    (slot_ty (slot s x), element_gives (shape l x) (slot s x) (val i s) (read_at l s (read_layout l s h) x))

assigned_gives : (l : Layout) (s : Store) → HasLayout l s → (p : Place) (op : Option BinOp) (e : Expr) → WellFormedPlace l p → WellFormedExpr l e → IfSome (assigned_value p op e s) (λ v. IsTrue (is_value v))
assigned_gives l s h p None e wp we =
    in_range_of (type_of e s) (val e s) (val_gives l s (read_layout l s h) e we)
assigned_gives l s h p (Some op) e wp we =
    let at = place_gives l s h p wp in
    in_range_of (bin_ty op at.0 (type_of e s)) (operation_value op (place_value p s) (val e s)) (operated_gives op at.0 (type_of e s) (place_value p s) (val e s) at.1 (val_gives l s (read_layout l s h) e we))

assign_keeps : (l : Layout) (s : Store) → HasLayout l s → (p : Place) (v : Value) → WellFormedPlace l p → IsTrue (is_value v) → IfSome (assign_at p v s) (HasLayout l)
assign_keeps l s h (PlainPlace x) v w in_range = put_keeps l s x v h w in_range
assign_keeps l s h (ElemPlace x i) v w in_range = by_index (option_and_then index (val i s))
  where
    by_index : (o : Option ℕ) → IfSome (option_and_then (λ n. put_at s x (slot s x) n v) o) (HasLayout l)
    by_index None = tt
    by_index (Some n) = put_at_keeps l s x (slot s x) n v refl h in_range

pub assignment_keeps : (l : Layout) (s : Store) → HasLayout l s → (p : Place) (op : Option BinOp) (e : Expr) → WellFormedPlace l p → WellFormedExpr l e → IfSome (option_and_then (λ v. assign_at p v s) (assigned_value p op e s)) (HasLayout l)
assignment_keeps l s h p op e wp we = by_value (assigned_value p op e s) (assigned_gives l s h p op e wp we)
  where
    by_value : (o : Option Value) → IfSome o (λ v. IsTrue (is_value v)) → IfSome (option_and_then (λ v. assign_at p v s) o) (HasLayout l)
    by_value None ho = tt
    by_value (Some v) ho = assign_keeps l s h p v wp ho
