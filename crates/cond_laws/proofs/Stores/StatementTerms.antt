-- The effects of simple statements on stores of terms.
use Rattle.std.proofs.Common.{◌≡◌, ℕ, zero, suc, ◌+◌, ◌-◌, ◌^◌, ◌<◌, ◌≤◌, Bool, true, false, if◌then◌else◌, List, [], ◌∷◌, ◌++◌, Option, Some, None, refl, sym, ap, ◌∙◌, subst, arith}
use Rattle.std.specs.Prelude.{◌==◌, ◌&&◌, not, nat_lt}
use Rattle.std.specs.Int.{cast_signed, w32}
use Rattle.std.proofs.lemmas.Bool.Decides.{nat_tests}
use Rattle.c_tree.specs.declared.tree.Ty.{Ty}
use Rattle.c_tree.specs.declared.tree.Ty.TheVariants as ty
use Rattle.c_tree.specs.declared.value.Value.TheVariants.{Int, Unsigned}
use Rattle.c_tree.specs.declared.value.Value.{Value}
use Rattle.c_tree.specs.Meaning.Values.{of_word}
use Rattle.bv_term.specs.Words.{flag, choice as chosen}
use Rattle.bv_term.specs.Scripts.{Script, Done, ◌>>=◌, Always}
pub use Rattle.cond_laws.specs.Sizes.{HasSmallList, HaveSmallLists}
use Rattle.cond_laws.specs.Judged.{Judged, judged_value}
use Rattle.cond_laws.specs.TermOperators as spec
use Rattle.cond_laws.proofs.Judging.{Stands}
use Rattle.std.specs.Prelude.{map, length, replicate, slice_get, slice_set, option_map, option_and_then}
use Rattle.std.proofs.lemmas.List.{map-append, length-append}
use Rattle.std.proofs.lemmas.Option.{slice_get-map}
use Rattle.c_tree.specs.declared.tree.BinOp.{BinOp}
use Rattle.c_tree.specs.declared.tree.Var.{Var}
use Rattle.c_tree.specs.declared.tree.Var.TheVariants.{Local}
use Rattle.c_tree.specs.declared.tree.Expr.{Expr}
use Rattle.c_tree.specs.declared.tree.Place.{Place}
use Rattle.c_tree.specs.declared.tree.Place.TheVariants.{Scalar as PlainPlace, Elem as ElemPlace}
use Rattle.c_tree.specs.declared.tree.Stmt.{Stmt}
use Rattle.c_tree.specs.declared.tree.Stmt.TheVariants as stmt
use Rattle.c_tree.specs.declared.value.Slot.{Slot}
use Rattle.c_tree.specs.declared.value.Slot.TheVariants as slot
use Rattle.c_tree.specs.declared.value.Store.{Store}
use Rattle.c_tree.specs.Meaning.Values.{convert, converted_values, zero_of}
use Rattle.c_tree.specs.Meaning.Stores as cs
use Rattle.c_tree.specs.Meaning.Stores.{slot_ty, index, padded_list, slot_length}
use Rattle.c_tree.specs.Meaning.Expressions.{val, type_of, bin_ty, all_values}
use Rattle.c_tree.specs.Meaning.Statements as cst
use Rattle.flow_laws.specs.Driving as drive
use Rattle.bv_term.proofs.ScriptLaws.{always_then, always_more}
use Rattle.cond_laws.specs.declared.store.TermSlot.{TermSlot}
use Rattle.cond_laws.specs.declared.store.TermSlot.TheVariants.{Unset, Number, Numbers}
use Rattle.cond_laws.specs.Judged.{all_hold, when_all}
use Rattle.cond_laws.specs.TermStores.{TermStore, slot_at, slots_at, store_at, held_at, held_ty, held_length, index_condition, with_term_slot, unset_local_term, put_term, elements_after, zero_terms, put_term_list}
use Rattle.cond_laws.specs.TermExpressions.{expr_term, Listed, listed_terms, all_exprs}
use Rattle.cond_laws.specs.TermStatements as ts
use Rattle.cond_laws.specs.TermStatements.{Effect, effect_with, nowhere}
use Rattle.cond_laws.proofs.Operators.OperandTerms.{hold_append, convert_word, operated_stands}
use Rattle.cond_laws.proofs.Stores.ElementTerms.{held_is, held_ty_is, index_of, within_is, never_holds, hold_last, named_stands, element_stands}
use Rattle.cond_laws.proofs.Stores.SlotTerms.{IsSmall, small_at, get_small, with_small, unset_small, put_small, with_slot_is, unset_is, put_is}
use Rattle.cond_laws.proofs.Stores.ExpressionTerms.{expr_stands}

-- the store after a statement, where all conditions hold; and its arrays are small in any case
pub record Acts (at : ℕ → ℕ) (o : Option Store) (e : Effect TermStore) : Type 0 where
  pub value : o ≡ when_all at e.conditions (store_at at e.now)
  pub small : IsSmall e.now

pub nowhere_acts : (input at : ℕ → ℕ) (s : TermStore) → IsSmall s → Always input at (nowhere s) (Acts at None)
nowhere_acts input at s h z ez = record { value = sym (ap (λ b. if b then Some (store_at at s) else None) (never_holds at [] z ez)); small = h }

-- ---- lists of values

-- the values are those of the words, in their types
abbrev pub AreWords : (ℕ → ℕ) → List Value → List ℕ → Type 0
AreWords at [] [] = Unit {0}
AreWords at [] (n ∷ ns) = ⊥
AreWords at (v ∷ vs) [] = ⊥
AreWords at (v ∷ vs) (n ∷ ns) = (t : Ty) × (v ≡ of_word t (at n)) × AreWords at vs ns

pub record ListStands (at : ℕ → ℕ) (o : Option (List Value)) (count : ℕ) (l : Listed) : Type 0 where
  pub values : List Value
  pub value : o ≡ when_all at l.conditions values
  pub are_words : AreWords at values l.terms
  pub as_many : length l.terms ≡ count

list_when : (a b : Bool) (v : Value) (vs : List Value) → option_and_then (λ v. option_map (λ vs. v ∷ vs) (if b then Some vs else None)) (if a then Some v else None) ≡ (if a && b then Some (v ∷ vs) else None)
list_when true true v vs = refl
list_when true false v vs = refl
list_when false b v vs = refl

pub all_stand : (input at : ℕ → ℕ) → ((n : ℕ) → at n < 2 ^ 32) → (es : List Expr) (s : TermStore) → IsSmall s → Always input at (all_exprs es s) (ListStands at (all_values es (store_at at s)) (length es))
all_stand input at small [] s h = record { values = []; value = refl; are_words = tt; as_many = refl }
all_stand input at small (e ∷ es) s h = always_then (Stands at (val e (store_at at s)) (type_of e (store_at at s))) (ListStands at (all_values (e ∷ es) (store_at at s)) (length (e ∷ es))) input at (expr_term e s) (λ j. all_exprs es s >>= (λ more. Done (listed_terms (j.term ∷ more.terms) (j.conditions ++ more.conditions)))) (expr_stands input at small e s h) (λ j hj. always_then (ListStands at (all_values es (store_at at s)) (length es)) (ListStands at (all_values (e ∷ es) (store_at at s)) (length (e ∷ es))) input at (all_exprs es s) (λ more. Done (listed_terms (j.term ∷ more.terms) (j.conditions ++ more.conditions))) (all_stand input at small es s h) (λ more hm. record {
  values = of_word j.ty (at j.term) ∷ hm.values;
  value = ap (option_and_then (λ v. option_map (λ vs. v ∷ vs) (all_values es (store_at at s)))) hj.value ∙ (ap (λ o. option_and_then (λ v. option_map (λ vs. v ∷ vs) o) (judged_value at j)) hm.value ∙ (list_when (all_hold at j.conditions) (all_hold at more.conditions) (of_word j.ty (at j.term)) hm.values ∙ ap (λ b. if b then Some (of_word j.ty (at j.term) ∷ hm.values) else None) (sym (hold_append at j.conditions more.conditions))));
  are_words = (j.ty, refl, hm.are_words);
  as_many = ap (λ n. suc n) hm.as_many;
}))

pub converted_words : (at : ℕ → ℕ) → ((n : ℕ) → at n < 2 ^ 32) → (t : Ty) (vs : List Value) (ns : List ℕ) → AreWords at vs ns → converted_values t vs ≡ map (λ n. of_word t (at n)) ns
converted_words at small t [] [] h = refl
converted_words at small t [] (n ∷ ns) h = absurd h
converted_words at small t (v ∷ vs) [] h = absurd h
converted_words at small t (v ∷ vs) (n ∷ ns) h =
    ap (λ w. w ∷ converted_values t vs) (ap (convert t) h.1 ∙ convert_word t h.0 (at n) (small n)) ∙ ap (λ l. of_word t (at n) ∷ l) (converted_words at small t vs ns h.2)

pub same_count : (at : ℕ → ℕ) (vs : List Value) (ns : List ℕ) → AreWords at vs ns → length vs ≡ length ns
same_count at [] [] h = refl
same_count at [] (n ∷ ns) h = absurd h
same_count at (v ∷ vs) [] h = absurd h
same_count at (v ∷ vs) (n ∷ ns) h = ap (λ n. suc n) (same_count at vs ns h.2)

-- ---- zeros

pub record AreZeros (at : ℕ → ℕ) (n : ℕ) (zs : List ℕ) : Type 0 where
  pub words : (t : Ty) → map (λ n. of_word t (at n)) zs ≡ replicate n (zero_of t)
  pub as_many : length zs ≡ n

zero_word : (t : Ty) (n : ℕ) → n ≡ 0 → of_word t n ≡ zero_of t
zero_word ty.Int n e = ap (λ n. Int (cast_signed w32 n)) e
zero_word ty.Unsigned n e = ap (λ n. Unsigned n) e

pub zeros_are : (input at : ℕ → ℕ) (n : ℕ) → Always input at (zero_terms n) (AreZeros at n)
zeros_are input at zero = record { words = λ t. refl; as_many = refl }
zeros_are input at (suc n) = λ z ez. always_then (AreZeros at n) (AreZeros at (suc n)) input at (zero_terms n) (λ zs. Done (z ∷ zs)) (zeros_are input at n) (λ zs h. record {
  words = λ t. ap (λ v. v ∷ map (λ n. of_word t (at n)) zs) (zero_word t (at z) ez) ∙ ap (λ l. zero_of t ∷ l) (h.words t);
  as_many = ap (λ n. suc n) h.as_many;
})

-- ---- a list to an array

held_length_is : (at : ℕ → ℕ) (o : Option TermSlot) → slot_length (option_map (slot_at at) o) ≡ held_length o
held_length_is at None = refl
held_length_is at (Some (Unset t)) = refl
held_length_is at (Some (Number t n)) = refl
held_length_is at (Some (Numbers t ns)) = length_map ns
  where
    length_map : (ns : List ℕ) → length (map (λ n. of_word t (at n)) ns) ≡ length ns
    length_map [] = refl
    length_map (n ∷ ns) = ap (λ n. suc n) (length_map ns)

-- the store with the list, and its arrays are small
pub record Lists (at : ℕ → ℕ) (to : Store) (now : TermStore) : Type 0 where
  pub is : store_at at now ≡ to
  pub small : IsSmall now

put_list_is : (input at : ℕ → ℕ) → ((n : ℕ) → at n < 2 ^ 32) → (s : TermStore) (l : ℕ) (o : Option TermSlot) (vs : List Value) (ns : List ℕ) → IsSmall s → AreWords at vs ns → held_length o ≤ 2 ^ 31 → length ns ≤ 2 ^ 31 → Always input at (put_term_list s l o ns) (Lists at (cs.put_list (store_at at s) l (option_map (slot_at at) o) vs))
put_list_is input at small s l o vs ns hs hw ho hn = always_then (AreZeros at (held_length o - length ns)) (Lists at (cs.put_list (store_at at s) l (option_map (slot_at at) o) vs)) input at (zero_terms (held_length o - length ns)) (λ zs. Done (with_term_slot s (Local l) (Numbers (held_ty o) (ns ++ zs)))) (zeros_are input at (held_length o - length ns)) (λ zs hz.
    let t : Ty = held_ty o in
    let word : ℕ → Value = λ n. of_word t (at n) in
    let values : map word (ns ++ zs) ≡ padded_list t (held_length o) vs = map-append word ns zs ∙ (ap (λ l. l ++ map word zs) (sym (converted_words at small t vs ns hw)) ∙ ap (λ l. converted_values t vs ++ l) (hz.words t ∙ ap (λ n. replicate (held_length o - n) (zero_of t)) (sym (same_count at vs ns hw)))) in
    let fewer : length (ns ++ zs) ≤ 2 ^ 31 = fits (length ns) (held_length o) (length (ns ++ zs)) ho hn (length-append ns zs ∙ ap (λ n. length ns + n) hz.as_many) in
    record {
      is = with_slot_is at s (Local l) (Numbers t (ns ++ zs)) ∙ (ap (λ vs. cs.with_slot (store_at at s) (Local l) (slot.Numbers t vs)) values ∙ (ap (λ u. cs.with_slot (store_at at s) (Local l) (slot.Numbers u (padded_list u (held_length o) vs))) (sym (held_ty_is at o)) ∙ ap (λ n. cs.with_slot (store_at at s) (Local l) (slot.Numbers (slot_ty (option_map (slot_at at) o)) (padded_list (slot_ty (option_map (slot_at at) o)) n vs))) (sym (held_length_is at o))));
      small = with_small s (Local l) (Numbers t (ns ++ zs)) fewer hs;
    })
  where
    fits : (n m k : ℕ) → m ≤ 2 ^ 31 → n ≤ 2 ^ 31 → k ≡ n + (m - n) → k ≤ 2 ^ 31
    fits n m k hm hn e = omega arith

-- ---- assignment to an element

-- the elements after an assignment to the one at the index, if the index is one from k on
pub record Replaces (at : ℕ → ℕ) (e k v : ℕ) (ns ms : List ℕ) : Type 0 where
  pub hit : (t : Ty) (n : ℕ) → at e ≡ k + n → map (λ n. of_word t (at n)) ms ≡ slice_set (map (λ n. of_word t (at n)) ns) n (of_word t (at v))
  pub miss : (t : Ty) → at e < k → map (λ n. of_word t (at n)) ms ≡ map (λ n. of_word t (at n)) ns
  pub as_many : length ms ≡ length ns

replaced_is : (input at : ℕ → ℕ) (e k v : ℕ) (ns : List ℕ) → Always input at (elements_after e k v ns) (Replaces at e k v ns)
replaced_is input at e k v [] = record { hit = λ t n h. refl; miss = λ t h. refl; as_many = refl }
replaced_is input at e k v (n0 ∷ ns) = λ i ei c ec y ey. always_then (Replaces at e (k + 1) v ns) (Replaces at e k v (n0 ∷ ns)) input at (elements_after e (k + 1) v ns) (λ ys. Done (y ∷ ys)) (replaced_is input at e (k + 1) v ns) (λ ys h.
    let chooses : at y ≡ chosen (flag (at e == k)) (at v) (at n0) = ey ∙ ap (λ c. chosen c (at v) (at n0)) (ec ∙ ap (λ i. flag (at e == i)) ei) in
    record {
      hit = λ t n l. at_place y ys h chooses t n l;
      miss = λ t l. ap (λ v. v ∷ map (λ n. of_word t (at n)) ys) (ap (of_word t) (chooses ∙ ap (λ b. chosen (flag b) (at v) (at n0)) (differ (at e) k l))) ∙ ap (λ l. of_word t (at n0) ∷ l) (h.miss t (omega arith));
      as_many = ap (λ n. suc n) h.as_many;
    })
  where
    differ : (a b : ℕ) → a < b → (a == b) ≡ false
    differ a b h = grind (arith, nat_tests)

    above : (a b n : ℕ) → a ≡ b + suc n → (a == b) ≡ false
    above a b n h = grind (arith, nat_tests)

    equal : (a b : ℕ) → a ≡ b + 0 → (a == b) ≡ true
    equal a b h = grind (arith, nat_tests)

    at_place : (y : ℕ) (ys : List ℕ) → Replaces at e (k + 1) v ns ys → at y ≡ chosen (flag (at e == k)) (at v) (at n0) → (t : Ty) (n : ℕ) → at e ≡ k + n → map (λ n. of_word t (at n)) (y ∷ ys) ≡ slice_set (map (λ n. of_word t (at n)) (n0 ∷ ns)) n (of_word t (at v))
    at_place y ys h c t zero l =
        ap (λ w. w ∷ map (λ n. of_word t (at n)) ys) (ap (of_word t) (c ∙ ap (λ b. chosen (flag b) (at v) (at n0)) (equal (at e) k l))) ∙ ap (λ l. of_word t (at v) ∷ l) (h.miss t (omega arith))
    at_place y ys h c t (suc n) l =
        ap (λ w. w ∷ map (λ n. of_word t (at n)) ys) (ap (of_word t) (c ∙ ap (λ b. chosen (flag b) (at v) (at n0)) (above (at e) k n l))) ∙ ap (λ l. of_word t (at n0) ∷ l) (h.hit t n (omega arith))

-- what an expression or a place stands for, whatever its type
pub record Values (at : ℕ → ℕ) (o : Option Value) (j : Judged) : Type 0 where
  pub value : o ≡ judged_value at j

forget : (input at : ℕ → ℕ) (i : Script Judged) (o : Option Value) (t : Ty) → Always input at i (Stands at o t) → Always input at i (Values at o)
forget input at i o t h = always_more (Stands at o t) (Values at o) input at i h (λ j hj. record { value = hj.value })

place_part : (input at : ℕ → ℕ) → ((n : ℕ) → at n < 2 ^ 32) → (p : Place) (s : TermStore) → IsSmall s → (t : Ty) × Always input at (ts.place_term p s) (Stands at (cst.place_value p (store_at at s)) t)
place_part input at small (PlainPlace x) s h =
    (slot_ty (option_map (slot_at at) (held_at s x)), subst (λ o. Always input at (ts.place_term (PlainPlace x) s) (Stands at (cs.number_in o) (slot_ty (option_map (slot_at at) (held_at s x))))) (sym (held_is at s x)) (named_stands input at (held_at s x)))
place_part input at small (ElemPlace x i) s h =
    (slot_ty (option_map (slot_at at) (held_at s x)), subst (λ o. Always input at (ts.place_term (ElemPlace x i) s) (Stands at (Rattle.c_tree.specs.Meaning.Expressions.element o (val i (store_at at s))) (slot_ty (option_map (slot_at at) (held_at s x))))) (sym (held_is at s x)) (always_then (Stands at (val i (store_at at s)) (type_of i (store_at at s))) _ input at (expr_term i s) (λ e. Rattle.cond_laws.specs.TermStores.element_term (held_at s x) e) (expr_stands input at small i s h) (λ e he. element_stands input at small (held_at s x) (val i (store_at at s)) (type_of i (store_at at s)) e (small_at s h x) he)))

assigned_values : (input at : ℕ → ℕ) → ((n : ℕ) → at n < 2 ^ 32) → (p : Place) (o : Option BinOp) (e : Expr) (s : TermStore) → IsSmall s → Always input at (ts.assigned_term p o e s) (Values at (cst.assigned_value p o e (store_at at s)))
assigned_values input at small p None e s h = forget input at (expr_term e s) (val e (store_at at s)) (type_of e (store_at at s)) (expr_stands input at small e s h)
assigned_values input at small p (Some o) e s h =
    let place = place_part input at small p s h in
    forget input at (ts.assigned_term p (Some o) e s) (cst.assigned_value p (Some o) e (store_at at s)) (bin_ty o place.0 (type_of e (store_at at s))) (always_then (Stands at (cst.place_value p (store_at at s)) place.0) _ input at (ts.place_term p s) (λ a. expr_term e s >>= (λ b. spec.operation_term o a b)) place.1 (λ a ha. always_then (Stands at (val e (store_at at s)) (type_of e (store_at at s))) _ input at (expr_term e s) (λ b. spec.operation_term o a b) (expr_stands input at small e s h) (λ b hb. operated_stands input at small o (cst.place_value p (store_at at s)) (val e (store_at at s)) place.0 (type_of e (store_at at s)) a b ha hb)))

-- ---- the parts of an assignment

put_when : (a : Bool) (v : Value) (f : Value → Store) (s : Store) → f v ≡ s → option_and_then (λ v. Some (f v)) (if a then Some v else None) ≡ (if a then Some s else None)
put_when true v f s e = ap (λ s. Some s) e
put_when false v f s e = refl

put_at_when : (a b d : Bool) (i v : Value) (f : Value → ℕ → Option Store) (s : Store) → option_and_then (f v) (index i) ≡ (if d then Some s else None) → option_and_then (λ v. option_and_then (f v) (option_and_then index (if a then Some i else None))) (if b then Some v else None) ≡ (if a && (b && d) then Some s else None)
put_at_when true true d i v f s e = e
put_at_when true false d i v f s e = refl
put_at_when false true d i v f s e = refl
put_at_when false false d i v f s e = refl

-- what is None for each value and index
no_store : Value → ℕ → Option Store
no_store v n = None

nothing : (i o : Option Value) → None ≡ option_and_then (λ v. option_and_then (no_store v) (option_and_then index i)) o
unfolding no_store
nothing i None = refl
nothing i (Some v) = none (option_and_then index i)
  where
    none : (o : Option ℕ) → None ≡ option_and_then (no_store v) o
    none None = refl
    none (Some n) = refl

length_map : (f : ℕ → Value) (ns : List ℕ) → length (map f ns) ≡ length ns
length_map f [] = refl
length_map f (n ∷ ns) = ap (λ n. suc n) (length_map f ns)

array_put : (input at : ℕ → ℕ) → ((n : ℕ) → at n < 2 ^ 32) → (s : TermStore) → IsSmall s → (x : Var) (t : Ty) (ns : List ℕ) (i a : Option Value) (e v : Judged) → length ns ≤ 2 ^ 31 → Values at i e → Values at a v → Always input at (ts.put_element s x (Some (Numbers t ns)) e v) (Acts at (option_and_then (λ w. option_and_then (λ n. cs.put_at (store_at at s) x (Some (slot_at at (Numbers t ns))) n w) (option_and_then index i)) a))
array_put input at small s hs x t ns i a e v hn hi ha = always_then (λ d. at d ≡ flag (nat_lt (at e.term) (length ns))) (Acts at to) input at (index_condition e.term (length ns)) (λ d. elements_after e.term 0 v.term ns >>= (λ ms. Done (effect_with (with_term_slot s x (Numbers t ms)) (e.conditions ++ (v.conditions ++ d ∷ []))))) (within_is input at e.term (length ns)) (λ d hd. always_then (Replaces at e.term 0 v.term ns) (Acts at to) input at (elements_after e.term 0 v.term ns) (λ ms. Done (effect_with (with_term_slot s x (Numbers t ms)) (e.conditions ++ (v.conditions ++ d ∷ [])))) (replaced_is input at e.term 0 v.term ns) (λ ms hm.
    let test : not (at d == 0) ≡ nat_lt (at e.term) (length ns) = flag_test (nat_lt (at e.term) (length ns)) (at d) hd in
    let now : Store = store_at at (with_term_slot s x (Numbers t ms)) in
    let holds : all_hold at (e.conditions ++ (v.conditions ++ d ∷ [])) ≡ (all_hold at e.conditions && (all_hold at v.conditions && not (at d == 0))) = hold_append at e.conditions (v.conditions ++ d ∷ []) ∙ ap (λ b. all_hold at e.conditions && b) (hold_last at v.conditions d) in
    record {
      value = ap (λ a. option_and_then (λ w. option_and_then (f w) (option_and_then index i)) a) ha.value ∙ (ap (λ i. option_and_then (λ w. option_and_then (f w) (option_and_then index i)) (judged_value at v)) hi.value ∙ (put_at_when (all_hold at e.conditions) (all_hold at v.conditions) (not (at d == 0)) (of_word e.ty (at e.term)) (of_word v.ty (at v.term)) f now (index_of e.ty (at e.term) (length ns) Store (f (of_word v.ty (at v.term))) (small e.term) hn past ∙ (by_test (nat_lt (at e.term) (length ns)) refl ms hm ∙ ap (λ b. if b then Some now else None) (sym test))) ∙ ap (λ b. if b then Some now else None) (sym holds)));
      small = with_small s x (Numbers t ms) (subst (λ n. n ≤ 2 ^ 31) (sym hm.as_many) hn) hs;
    }))
  where
    flag_test : (b : Bool) (d : ℕ) → d ≡ flag b → not (d == 0) ≡ b
    flag_test true d e = ap (λ d. not (d == 0)) e
    flag_test false d e = ap (λ d. not (d == 0)) e

    word : ℕ → Value
    word n = of_word t (at n)

    f : Value → ℕ → Option Store
    f w n = cs.put_at (store_at at s) x (Some (slot_at at (Numbers t ns))) n w

    to : Option Store
    to = option_and_then (λ w. option_and_then (λ n. cs.put_at (store_at at s) x (Some (slot_at at (Numbers t ns))) n w) (option_and_then index i)) a

    outside : (m n : ℕ) → n ≤ m → nat_lt m n ≡ false
    outside m n h = grind (arith, nat_tests)

    past : (k : ℕ) → length ns ≤ k → f (of_word v.ty (at v.term)) k ≡ None
    past k h = ap (λ b. if b then Some (cs.with_slot (store_at at s) x (slot.Numbers t (slice_set (map word ns) k (convert t (of_word v.ty (at v.term)))))) else None) (outside k (length (map word ns)) (subst (λ n. n ≤ k) (sym (length_map word ns)) h))

    by_test : (b : Bool) → nat_lt (at e.term) (length ns) ≡ b → (ms : List ℕ) → Replaces at e.term 0 v.term ns ms → (if b then f (of_word v.ty (at v.term)) (at e.term) else None) ≡ (if b then Some (store_at at (with_term_slot s x (Numbers t ms))) else None)
    by_test false h ms hm = refl
    by_test true h ms hm =
        let k : ℕ = at e.term in
        let is_in : nat_lt k (length (map word ns)) ≡ true = ap (nat_lt k) (length_map word ns) ∙ h in
        ap (λ b. if b then Some (cs.with_slot (store_at at s) x (slot.Numbers t (slice_set (map word ns) k (convert t (of_word v.ty (at v.term)))))) else None) is_in ∙ ap (λ s. Some s) (ap (λ w. cs.with_slot (store_at at s) x (slot.Numbers t (slice_set (map word ns) k w))) (convert_word t v.ty (at v.term) (small v.term)) ∙ (ap (λ vs. cs.with_slot (store_at at s) x (slot.Numbers t vs)) (sym (hm.hit t k (omega arith))) ∙ sym (with_slot_is at s x (Numbers t ms))))

element_put : (input at : ℕ → ℕ) → ((n : ℕ) → at n < 2 ^ 32) → (s : TermStore) → IsSmall s → (x : Var) (o : Option TermSlot) (i a : Option Value) (e v : Judged) → held_length o ≤ 2 ^ 31 → Values at i e → Values at a v → Always input at (ts.put_element s x o e v) (Acts at (option_and_then (λ w. option_and_then (λ n. cs.put_at (store_at at s) x (option_map (slot_at at) o) n w) (option_and_then index i)) a))
unfolding no_store
element_put input at small s hs x None i a e v ho hi ha = subst (λ o. Always input at (nowhere s) (Acts at o)) (nothing i a) (nowhere_acts input at s hs)
element_put input at small s hs x (Some (Unset t)) i a e v ho hi ha = subst (λ o. Always input at (nowhere s) (Acts at o)) (nothing i a) (nowhere_acts input at s hs)
element_put input at small s hs x (Some (Number t n)) i a e v ho hi ha = subst (λ o. Always input at (nowhere s) (Acts at o)) (nothing i a) (nowhere_acts input at s hs)
element_put input at small s hs x (Some (Numbers t ns)) i a e v ho hi ha = array_put input at small s hs x t ns i a e v ho hi ha

assign_acts : (input at : ℕ → ℕ) → ((n : ℕ) → at n < 2 ^ 32) → (p : Place) (o : Option BinOp) (e : Expr) (s : TermStore) → IsSmall s → Always input at (ts.assignment_effect p o e s) (Acts at (cst.simple (stmt.Assign p o e) (store_at at s)))
assign_acts input at small (PlainPlace x) o e s h = always_then (Values at (cst.assigned_value (PlainPlace x) o e (store_at at s))) (Acts at (cst.simple (stmt.Assign (PlainPlace x) o e) (store_at at s))) input at (ts.assigned_term (PlainPlace x) o e s) (λ v. Done (effect_with (put_term s x v.term) v.conditions)) (assigned_values input at small (PlainPlace x) o e s h) (λ v hv. record {
  value = ap (option_and_then (λ w. Some (cs.put_number (store_at at s) x w))) hv.value ∙ put_when (all_hold at v.conditions) (of_word v.ty (at v.term)) (cs.put_number (store_at at s) x) (store_at at (put_term s x v.term)) (sym (put_is at small s x v.ty v.term));
  small = put_small s x v.term h;
})
assign_acts input at small (ElemPlace x i) o e s h = subst (λ a. Always input at (ts.assignment_effect (ElemPlace x i) o e s) (Acts at (option_and_then (λ w. option_and_then (λ n. cs.put_at (store_at at s) x a n w) (option_and_then index (val i (store_at at s)))) (cst.assigned_value (ElemPlace x i) o e (store_at at s))))) (sym (held_is at s x)) (always_then (Values at (val i (store_at at s))) _ input at (expr_term i s) (λ j. ts.assigned_term (ElemPlace x i) o e s >>= (λ v. ts.put_element s x (held_at s x) j v)) (forget input at (expr_term i s) (val i (store_at at s)) (type_of i (store_at at s)) (expr_stands input at small i s h)) (λ j hj. always_then (Values at (cst.assigned_value (ElemPlace x i) o e (store_at at s))) _ input at (ts.assigned_term (ElemPlace x i) o e s) (λ v. ts.put_element s x (held_at s x) j v) (assigned_values input at small (ElemPlace x i) o e s h) (λ v hv. element_put input at small s h x (held_at s x) (val i (store_at at s)) (cst.assigned_value (ElemPlace x i) o e (store_at at s)) j v (small_at s h x) hj hv)))

-- ---- simple statements

-- ---- simple statements

-- the list of an array has at most 2^31 expressions
stored_when : (a : Bool) (v : Value) (f : Value → Store) (s : Store) → f v ≡ s → option_map f (if a then Some v else None) ≡ (if a then Some s else None)
stored_when true v f s e = ap (λ s. Some s) e
stored_when false v f s e = refl

declared_acts : (input at : ℕ → ℕ) → ((n : ℕ) → at n < 2 ^ 32) → (l : ℕ) (e : Expr) (s : TermStore) → IsSmall s → Always input at (ts.simple_effect (stmt.Scalar l (Some e)) s) (Acts at (cst.simple (stmt.Scalar l (Some e)) (store_at at s)))
declared_acts input at small l e s h =
    let u : TermStore = unset_local_term l s in
    let to = λ (s : Store). option_map (cs.put_number s (Local l)) (val e s) in
    subst (λ b. Always input at (ts.simple_effect (stmt.Scalar l (Some e)) s) (Acts at (to b))) (unset_is at l s) (always_then (Stands at (val e (store_at at u)) (type_of e (store_at at u))) (Acts at (to (store_at at u))) input at (expr_term e u) (λ v. Done (effect_with (put_term u (Local l) v.term) v.conditions)) (expr_stands input at small e u (unset_small l s h)) (λ v hv. record {
      value = ap (option_map (cs.put_number (store_at at u) (Local l))) hv.value ∙ stored_when (all_hold at v.conditions) (of_word v.ty (at v.term)) (cs.put_number (store_at at u) (Local l)) (store_at at (put_term u (Local l) v.term)) (sym (put_is at small u (Local l) v.ty v.term));
      small = put_small u (Local l) v.term (unset_small l s h);
    }))

listed_when : (a : Bool) (vs : List Value) (f : List Value → Store) (s : Store) → f vs ≡ s → option_map f (if a then Some vs else None) ≡ (if a then Some s else None)
listed_when true vs f s e = ap (λ s. Some s) e
listed_when false vs f s e = refl

array_acts : (input at : ℕ → ℕ) → ((n : ℕ) → at n < 2 ^ 32) → (l : ℕ) (es : List Expr) (s : TermStore) → IsSmall s → length es ≤ 2 ^ 31 → Always input at (ts.simple_effect (stmt.Array l es) s) (Acts at (cst.simple (stmt.Array l es) (store_at at s)))
array_acts input at small l es s h few =
    let u : TermStore = unset_local_term l s in
    let o : Option TermSlot = slice_get s.locals l in
    let to = λ (v : Store) (o : Option Slot). option_map (cs.put_list (store_at at s) l o) (all_values es v) in
    subst (λ b. Always input at (ts.simple_effect (stmt.Array l es) s) (Acts at (to b (slice_get (slots_at at s.locals) l)))) (unset_is at l s) (subst (λ b. Always input at (ts.simple_effect (stmt.Array l es) s) (Acts at (to (store_at at u) b))) (sym (slice_get-map (slot_at at) s.locals l)) (always_then (ListStands at (all_values es (store_at at u)) (length es)) (Acts at (to (store_at at u) (option_map (slot_at at) o))) input at (all_exprs es u) (λ vs. put_term_list s l o vs.terms >>= (λ now. Done (effect_with now vs.conditions))) (all_stand input at small es u (unset_small l s h)) (λ vs hv. always_then (Lists at (cs.put_list (store_at at s) l (option_map (slot_at at) o) hv.values)) (Acts at (to (store_at at u) (option_map (slot_at at) o))) input at (put_term_list s l o vs.terms) (λ now. Done (effect_with now vs.conditions)) (put_list_is input at small s l o hv.values vs.terms h hv.are_words (get_small s.locals l h.locals) (subst (λ n. n ≤ 2 ^ 31) (sym hv.as_many) few)) (λ now hn. record {
      value = ap (option_map (cs.put_list (store_at at s) l (option_map (slot_at at) o))) hv.value ∙ listed_when (all_hold at vs.conditions) hv.values (cs.put_list (store_at at s) l (option_map (slot_at at) o)) (store_at at now) (sym hn.is);
      small = hn.small;
    }))))

pub simple_acts : (input at : ℕ → ℕ) → ((n : ℕ) → at n < 2 ^ 32) → (st : Stmt) (s : TermStore) → IsSmall s → HasSmallList st → Always input at (ts.simple_effect st s) (Acts at (cst.simple st (store_at at s)))
simple_acts input at small stmt.Empty s h few = record { value = refl; small = h }
simple_acts input at small (stmt.Scalar l None) s h few = record { value = ap (λ s. Some s) (sym (unset_is at l s)); small = unset_small l s h }
simple_acts input at small (stmt.Scalar l (Some e)) s h few = declared_acts input at small l e s h
simple_acts input at small (stmt.Array l es) s h few = array_acts input at small l es s h few
simple_acts input at small (stmt.Assign p o e) s h few = assign_acts input at small p o e s h
simple_acts input at small _ s h few = nowhere_acts input at s h

then_when : (a b : Bool) (s u : Store) (f : Store → Option Store) → f s ≡ (if b then Some u else None) → option_and_then f (if a then Some s else None) ≡ (if a && b then Some u else None)
then_when true b s u f e = e
then_when false b s u f e = refl

pub all_simple_act : (input at : ℕ → ℕ) → ((n : ℕ) → at n < 2 ^ 32) → (ss : List Stmt) (s : TermStore) → IsSmall s → HaveSmallLists ss → Always input at (ts.simple_effects ss s) (Acts at (drive.store_after_all ss (store_at at s)))
all_simple_act input at small [] s h few = record { value = refl; small = h }
all_simple_act input at small (st ∷ rest) s h few = always_then (Acts at (cst.simple st (store_at at s))) (Acts at (drive.store_after_all (st ∷ rest) (store_at at s))) input at (ts.simple_effect st s) (λ a. ts.simple_effects rest a.now >>= (λ b. Done (effect_with b.now (a.conditions ++ b.conditions)))) (simple_acts input at small st s h few.0) (λ a ha. always_then (Acts at (drive.store_after_all rest (store_at at a.now))) (Acts at (drive.store_after_all (st ∷ rest) (store_at at s))) input at (ts.simple_effects rest a.now) (λ b. Done (effect_with b.now (a.conditions ++ b.conditions))) (all_simple_act input at small rest a.now ha.small few.1) (λ b hb. record {
  value = ap (option_and_then (drive.store_after_all rest)) ha.value ∙ (then_when (all_hold at a.conditions) (all_hold at b.conditions) (store_at at a.now) (store_at at b.now) (drive.store_after_all rest) hb.value ∙ ap (λ h. if h then Some (store_at at b.now) else None) (sym (hold_append at a.conditions b.conditions)));
  small = hb.small;
}))
