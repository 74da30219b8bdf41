-- The terms of names and of elements of arrays.
use Rattle.std.proofs.Common.{◌≡◌, ℕ, zero, suc, ◌+◌, ◌-◌, ◌^◌, ◌<◌, ◌≤◌, Bool, true, false, if◌then◌else◌, List, [], ◌∷◌, ◌++◌, Option, Some, None, pos, negsuc, refl, sym, ap, ◌∙◌, subst, arith}
use Rattle.std.specs.Prelude.{◌==◌, ◌&&◌, not, nat_lt}
use Rattle.std.proofs.lemmas.Bool.Decides.{nat_tests}
use Rattle.std.proofs.lemmas.Bool.{ltb-true, lt-ltb}
use Rattle.c_tree.specs.declared.tree.Ty.{Ty}
use Rattle.c_tree.specs.declared.tree.Ty.TheVariants as ty
use Rattle.c_tree.specs.declared.value.Value.TheVariants.{Int}
use Rattle.c_tree.specs.declared.value.Value.{Value}
use Rattle.c_tree.specs.Meaning.Values.{of_word}
use Rattle.bv_term.specs.declared.op.Op.TheVariants as op
use Rattle.bv_term.specs.Words.{flag, choice as chosen}
use Rattle.bv_term.specs.Scripts.{Done, ◌>>=◌, Always}
use Rattle.plain_laws.proofs.Booleans.{and-true}
use Rattle.cond_laws.specs.Judged.{Judged, judged_term}
use Rattle.cond_laws.proofs.Judging.{Stands, stands}
use Rattle.bv_term.specs.Scripts.{put, pure}
use Rattle.std.proofs.Common.{get_or}
use Rattle.std.specs.Prelude.{map, length, slice_get, option_map, option_and_then}
use Rattle.std.proofs.lemmas.Option.{slice_get-map, slice_get_past, slice_get-get_or}
use Rattle.c_tree.specs.declared.tree.Var.{Var}
use Rattle.c_tree.specs.declared.tree.Var.TheVariants.{Local, Global}
use Rattle.c_tree.specs.Meaning.Stores as cs
use Rattle.c_tree.specs.Meaning.Stores.{slot_ty, number_in, number_at, index}
use Rattle.c_tree.specs.Meaning.Expressions as ce
use Rattle.bv_term.proofs.ScriptLaws.{always_then, always_more}
use Rattle.cond_laws.specs.declared.store.TermSlot.{TermSlot}
use Rattle.cond_laws.specs.declared.store.TermSlot.TheVariants.{Unset, Number, Numbers}
use Rattle.cond_laws.specs.Judged.{all_hold, never}
use Rattle.cond_laws.specs.TermStores.{TermStore, slot_at, store_at, held_at, held_ty, held_length, scalar_term, element_choice, index_condition, element_term}
use Rattle.cond_laws.proofs.Operators.OperandTerms.{hold_append}
use Rattle.cond_laws.proofs.Operators.ShiftTerms.{flag_test}

-- ---- slots

pub held_is : (at : ℕ → ℕ) (s : TermStore) (x : Var) → cs.slot (store_at at s) x ≡ option_map (slot_at at) (held_at s x)
held_is at s (Local n) = slice_get-map (slot_at at) s.locals n
held_is at s (Global n) = slice_get-map (slot_at at) s.globals n

pub held_ty_is : (at : ℕ → ℕ) (o : Option TermSlot) → slot_ty (option_map (slot_at at) o) ≡ held_ty o
held_ty_is at None = refl
held_ty_is at (Some (Unset t)) = refl
held_ty_is at (Some (Number ty.Int n)) = refl
held_ty_is at (Some (Number ty.Unsigned n)) = refl
held_ty_is at (Some (Numbers t ns)) = refl

-- ---- what is undefined everywhere

pub never_holds : (at : ℕ → ℕ) (cs : List ℕ) (z : ℕ) → at z ≡ 0 → all_hold at (cs ++ z ∷ []) ≡ false
never_holds at [] z e = ap (λ z. not (z == 0) && true) e
never_holds at (c ∷ cs) z e = ap (λ b. not (at c == 0) && b) (never_holds at cs z e) ∙ and_false (not (at c == 0))
  where
    and_false : (b : Bool) → (b && false) ≡ false
    and_false true = refl
    and_false false = refl

pub never_stands : (input at : ℕ → ℕ) (t : Ty) → Always input at (never t) (Stands at None t)
never_stands input at t z ez = stands at None (judged_term t z (z ∷ [])) (sym (ap (λ b. if b then Some (of_word t (at z)) else None) (never_holds at [] z ez)))

-- ---- names

pub named_stands : (input at : ℕ → ℕ) (o : Option TermSlot) → Always input at (scalar_term o) (Stands at (number_in (option_map (slot_at at) o)) (slot_ty (option_map (slot_at at) o)))
named_stands input at None = never_stands input at ty.Int
named_stands input at (Some (Unset t)) = never_stands input at t
named_stands input at (Some (Number t n)) = record { value = refl; type = held_ty_is at (Some (Number t n)) }
named_stands input at (Some (Numbers t ns)) = never_stands input at t

-- ---- elements

-- the choice is the element at the index, if the index is one from k on
pub record Picks (at : ℕ → ℕ) (e k x : ℕ) (ns : List ℕ) (y : ℕ) : Type 0 where
  pub hit : (n m : ℕ) → slice_get ns n ≡ Some m → at e ≡ k + n → at y ≡ at m
  pub miss : at e < k → at y ≡ at x

picked_is : (input at : ℕ → ℕ) (e k x : ℕ) (ns : List ℕ) → Always input at (element_choice e k x ns) (Picks at e k x ns)
picked_is input at e k x [] = record { hit = λ n m h. absurd (cc h); miss = λ h. refl }
picked_is input at e k x (n0 ∷ ns) = λ i ei c ec y ey. always_more (Picks at e (k + 1) y ns) (Picks at e k x (n0 ∷ ns)) input at (element_choice e (k + 1) y ns) (picked_is input at e (k + 1) y ns) (λ z h. record {
  hit = λ n m. at_place y z h n m (ey ∙ (ap (λ c. chosen c (at n0) (at x)) (ec ∙ ap (λ i. flag (at e == i)) ei)));
  miss = λ l. h.miss (omega arith) ∙ (ey ∙ (ap (λ c. chosen c (at n0) (at x)) (ec ∙ (ap (λ i. flag (at e == i)) ei ∙ ap flag (differ (at e) k l)))));
})
  where
    differ : (a b : ℕ) → a < b → (a == b) ≡ false
    differ a b h = grind (arith, nat_tests)

    equal : (a b : ℕ) → a ≡ b + 0 → (a == b) ≡ true
    equal a b h = grind (arith, nat_tests)

    at_place : (y z : ℕ) → Picks at e (k + 1) y ns z → (n m : ℕ) → at y ≡ chosen (flag (at e == k)) (at n0) (at x) → slice_get (n0 ∷ ns) n ≡ Some m → at e ≡ k + n → at z ≡ at m
    at_place y z h zero m ey is l = h.miss (omega arith) ∙ (ey ∙ (ap (λ b. chosen (flag b) (at n0) (at x)) (equal (at e) k l) ∙ ap at (cc is)))
    at_place y z h (suc n) m ey is l = h.hit n m is (omega arith)

-- an index of a type: a number that is negative is far outside
pub index_of : (u : Ty) (w n : ℕ) (A : Type 0) (f : ℕ → Option A) → w < 2 ^ 32 → n ≤ 2 ^ 31 → ((k : ℕ) → n ≤ k → f k ≡ None) → option_and_then f (index (of_word u w)) ≡ (if nat_lt w n then f w else None)
index_of u w n A f hw hn past = by_test (nat_lt w n) refl
  where
    not_lt : (a b : ℕ) → nat_lt a b ≡ false → b ≤ a
    not_lt a b h = grind (arith, nat_tests)

    small_index : (u : Ty) → w < 2 ^ 31 → index (of_word u w) ≡ Some w
    small_index ty.Unsigned h = refl
    small_index ty.Int h = ap (λ b. index (Int (if b then pos w else negsuc (2 ^ 32 - suc w)))) (lt-ltb w (2 ^ 31) h)

    large_index : (u : Ty) → n ≤ w → option_and_then f (index (of_word u w)) ≡ None
    large_index ty.Unsigned h = past w h
    large_index ty.Int h = by_sign (nat_lt w (2 ^ 31))
      where
        by_sign : (b : Bool) → option_and_then f (index (Int (if b then pos w else negsuc (2 ^ 32 - suc w)))) ≡ None
        by_sign true = past w h
        by_sign false = refl

    by_test : (b : Bool) → nat_lt w n ≡ b → option_and_then f (index (of_word u w)) ≡ (if b then f w else None)
    by_test true e =
        let l : w < n = ltb-true w n e in
        ap (option_and_then f) (small_index u (omega arith))
    by_test false e = large_index u (not_lt w n e)

-- whether the index is within, as a condition
pub within_is : (input at : ℕ → ℕ) (e n : ℕ) → Always input at (index_condition e n) (λ d. at d ≡ flag (nat_lt (at e) n))
within_is input at e n l el d ed = ed ∙ ap (λ l. flag (nat_lt (at e) l)) el

-- one more condition at the end
pub hold_last : (at : ℕ → ℕ) (xs : List ℕ) (d : ℕ) → all_hold at (xs ++ d ∷ []) ≡ (all_hold at xs && not (at d == 0))
hold_last at xs d = hold_append at xs (d ∷ []) ∙ ap (λ b. all_hold at xs && b) (and-true (not (at d == 0)))

element_when : (a b : Bool) (f : ℕ → Option Value) (u : Ty) (w n : ℕ) (v z : Value) → option_and_then f (index v) ≡ (if b then Some z else None) → option_and_then f (option_and_then index (if a then Some v else None)) ≡ (if a && b then Some z else None)
element_when true b f u w n v z e = e
element_when false b f u w n v z e = refl

array_element : (input at : ℕ → ℕ) → ((n : ℕ) → at n < 2 ^ 32) → (t : Ty) (ns : List ℕ) (x : Option Value) (u : Ty) (e : Judged) → length ns ≤ 2 ^ 31 → Stands at x u e → Always input at (element_term (Some (Numbers t ns)) e) (Stands at (ce.element (Some (slot_at at (Numbers t ns))) x) t)
array_element input at small t ns x u e hn he z ez =
    always_then _ _ input at (element_choice e.term 0 z ns) (λ y. index_condition e.term (length ns) >>= (λ d. Done (judged_term t y (e.conditions ++ d ∷ [])))) (picked_is input at e.term 0 z ns) (λ y hy. always_then _ (Stands at (ce.element (Some (slot_at at (Numbers t ns))) x) t) input at (index_condition e.term (length ns)) (λ d. Done (judged_term t y (e.conditions ++ d ∷ []))) (within_is input at e.term (length ns)) (λ d hd.
    let test : not (at d == 0) ≡ nat_lt (at e.term) (length ns) = flag_test (nat_lt (at e.term) (length ns)) (at d) hd in
    stands at (ce.element (Some (slot_at at (Numbers t ns))) x) (judged_term t y (e.conditions ++ d ∷ [])) (ap (λ x. ce.element (Some (slot_at at (Numbers t ns))) x) he.value ∙ (element_when (all_hold at e.conditions) (not (at d == 0)) (slice_get (map word ns)) u (at e.term) (length ns) (of_word e.ty (at e.term)) (of_word t (at y)) (index_of e.ty (at e.term) (length ns) Value (slice_get (map word ns)) (small e.term) hn past ∙ (by_test (nat_lt (at e.term) (length ns)) refl y hy ∙ ap (λ b. if b then Some (of_word t (at y)) else None) (sym test))) ∙ ap (λ b. if b then Some (of_word t (at y)) else None) (sym (hold_last at e.conditions d))))))
  where
    word : ℕ → Value
    word n = of_word t (at n)

    past : (k : ℕ) → length ns ≤ k → slice_get (map word ns) k ≡ None
    past k h = slice_get-map word ns k ∙ ap (option_map word) (slice_get_past ns k h)

    by_test : (b : Bool) → nat_lt (at e.term) (length ns) ≡ b → (y : ℕ) → Picks at e.term 0 z ns y → (if b then slice_get (map word ns) (at e.term) else None) ≡ (if b then Some (of_word t (at y)) else None)
    by_test false h y hy = refl
    by_test true h y hy =
        let k : ℕ = at e.term in
        let is : slice_get ns k ≡ Some (get_or ns k 0) = slice_get-get_or ns k 0 (ltb-true k (length ns) h) in
        slice_get-map word ns k ∙ (ap (option_map word) is ∙ ap (λ n. Some (of_word t n)) (sym (hy.hit k (get_or ns k 0) is (omega arith))))

no_element : (input at : ℕ → ℕ) (o : Option TermSlot) (e : Judged) → Always input at (do z ← put (op.Const 0); pure (judged_term (held_ty o) z (e.conditions ++ z ∷ []))) (Stands at None (held_ty o))
no_element input at o e z ez =
    stands at None (judged_term (held_ty o) z (e.conditions ++ z ∷ [])) (sym (ap (λ b. if b then Some (of_word (held_ty o) (at z)) else None) (never_holds at e.conditions z ez)))

no_number : ℕ → Option Value
no_number n = None

nothing : (o : Option ℕ) → None ≡ option_and_then no_number o
unfolding no_number
nothing None = refl
nothing (Some n) = refl

pub element_stands : (input at : ℕ → ℕ) → ((n : ℕ) → at n < 2 ^ 32) → (o : Option TermSlot) (x : Option Value) (u : Ty) (e : Judged) → held_length o ≤ 2 ^ 31 → Stands at x u e → Always input at (element_term o e) (Stands at (ce.element (option_map (slot_at at) o) x) (slot_ty (option_map (slot_at at) o)))
unfolding no_number
element_stands input at small None x u e hn he = subst (λ v. Always input at (element_term None e) (Stands at v ty.Int)) (nothing (option_and_then index x)) (no_element input at None e)
element_stands input at small (Some (Unset t)) x u e hn he = subst (λ v. Always input at (element_term (Some (Unset t)) e) (Stands at v t)) (nothing (option_and_then index x)) (no_element input at (Some (Unset t)) e)
element_stands input at small (Some (Number ty.Int n)) x u e hn he = subst (λ v. Always input at (element_term (Some (Number ty.Int n)) e) (Stands at v ty.Int)) (nothing (option_and_then index x)) (no_element input at (Some (Number ty.Int n)) e)
element_stands input at small (Some (Number ty.Unsigned n)) x u e hn he = subst (λ v. Always input at (element_term (Some (Number ty.Unsigned n)) e) (Stands at v ty.Unsigned)) (nothing (option_and_then index x)) (no_element input at (Some (Number ty.Unsigned n)) e)
element_stands input at small (Some (Numbers t ns)) x u e hn he = array_element input at small t ns x u e hn he
