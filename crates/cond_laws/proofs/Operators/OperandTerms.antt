-- The terms of operators on values that have conditions.
use Rattle.std.proofs.Common.{◌≡◌, ℕ, zero, suc, ◌^◌, ◌<◌, Bool, true, false, if◌then◌else◌, List, [], ◌∷◌, ◌++◌, Option, Some, None, refl, sym, ap, ◌∙◌, arith}
use Rattle.std.specs.Prelude.{◌==◌, ◌&&◌, not}
use Rattle.std.specs.Int.{cast_signed, w32}
use Rattle.std.proofs.lemmas.Int.{of_z-to_z}
use Rattle.std.proofs.lemmas.Bool.Decides.{nat_tests}
use Rattle.c_tree.specs.declared.tree.Ty.{Ty}
use Rattle.c_tree.specs.declared.tree.Ty.TheVariants as ty
use Rattle.c_tree.specs.declared.value.Value.TheVariants.{Int, Unsigned}
use Rattle.c_tree.specs.declared.value.Value.{Value}
use Rattle.c_tree.specs.Meaning.Values.{of_word, common, truth}
use Rattle.c_tree.specs.Meaning.Operators as c
use Rattle.bv_term.specs.Words.{choice as chosen}
use Rattle.bv_term.specs.Scripts.{Done, ◌>>=◌, Always}
use Rattle.cond_laws.specs.Judged.{Judged, judged_term, judged_value}
use Rattle.cond_laws.specs.TermOperators as spec
use Rattle.cond_laws.proofs.Judging.{Stands, stands}
use Rattle.std.specs.Prelude.{option_map, option_and_then}
use Rattle.c_tree.specs.declared.tree.BinOp.{BinOp}
use Rattle.c_tree.specs.declared.tree.BinOp.TheVariants as bin
use Rattle.c_tree.specs.declared.tree.UnOp.{UnOp}
use Rattle.c_tree.specs.Meaning.Values.{is_nonzero, convert}
use Rattle.c_tree.specs.Meaning.Expressions as ce
use Rattle.c_tree.specs.Meaning.Expressions.{bin_ty, un_ty}
use Rattle.bv_term.proofs.ScriptLaws.{always_then}
use Rattle.cond_laws.specs.Judged.{all_hold, also}
use Rattle.cond_laws.proofs.Operators.RelationTerms.{unary_stands, true_word, truth_word}
use Rattle.cond_laws.proofs.Operators.BinaryTerms.{binary_stands}
use Rattle.plain_laws.proofs.Numbers.{successor_is_not_zero}

-- ---- conditions

pub hold_append : (at : ℕ → ℕ) (xs ys : List ℕ) → all_hold at (xs ++ ys) ≡ (all_hold at xs && all_hold at ys)
hold_append at [] ys = refl
hold_append at (x ∷ xs) ys = ap (λ b. not (at x == 0) && b) (hold_append at xs ys) ∙ assoc (not (at x == 0)) (all_hold at xs) (all_hold at ys)
  where
    assoc : (a b c : Bool) → (a && (b && c)) ≡ ((a && b) && c)
    assoc true b c = refl
    assoc false b c = refl

pub chosen_by : (k m n : ℕ) → chosen k m n ≡ (if not (k == 0) then m else n)
chosen_by zero m n = refl
chosen_by (suc k) m n = ap (λ b. if not b then m else n) (sym (successor_is_not_zero k))

pub hold_where_true : (input at : ℕ → ℕ) (k : ℕ) (xs : List ℕ) → Always input at (spec.conditions_where_true k xs) (λ ys. all_hold at ys ≡ (if not (at k == 0) then all_hold at xs else true))
hold_where_true input at k [] = same (not (at k == 0))
  where
    same : (b : Bool) → true ≡ (if b then true else true)
    same true = refl
    same false = refl
hold_where_true input at k (x ∷ xs) = λ o eo y ey. always_then _ _ input at (spec.conditions_where_true k xs) (λ ys. Done (y ∷ ys)) (hold_where_true input at k xs) (λ ys h. ap (λ n. not (n == 0) && all_hold at ys) (ey ∙ (ap (chosen (at k) (at x)) eo ∙ chosen_by (at k) (at x) 1)) ∙ (ap (λ b. not ((if not (at k == 0) then at x else 1) == 0) && b) h ∙ by_choice (not (at k == 0)) (at x) (all_hold at xs)))
  where
    by_choice : (b : Bool) (m : ℕ) (d : Bool) → (not ((if b then m else 1) == 0) && (if b then d else true)) ≡ (if b then not (m == 0) && d else true)
    by_choice true m d = refl
    by_choice false m d = refl

pub hold_where_false : (input at : ℕ → ℕ) (k : ℕ) (xs : List ℕ) → Always input at (spec.conditions_where_false k xs) (λ ys. all_hold at ys ≡ (if not (at k == 0) then true else all_hold at xs))
hold_where_false input at k [] = same (not (at k == 0))
  where
    same : (b : Bool) → true ≡ (if b then true else true)
    same true = refl
    same false = refl
hold_where_false input at k (x ∷ xs) = λ o eo y ey. always_then _ _ input at (spec.conditions_where_false k xs) (λ ys. Done (y ∷ ys)) (hold_where_false input at k xs) (λ ys h. ap (λ n. not (n == 0) && all_hold at ys) (ey ∙ (ap (λ n. chosen (at k) n (at x)) eo ∙ chosen_by (at k) 1 (at x))) ∙ (ap (λ b. not ((if not (at k == 0) then 1 else at x) == 0) && b) h ∙ by_choice (not (at k == 0)) (at x) (all_hold at xs)))
  where
    by_choice : (b : Bool) (m : ℕ) (d : Bool) → (not ((if b then 1 else m) == 0) && (if b then true else d)) ≡ (if b then true else not (m == 0) && d)
    by_choice true m d = refl
    by_choice false m d = refl

-- ---- two operands that are both evaluated

two_when : (f : Value → Value → Option Value) (a b d : Bool) (v w z : Value) → f v w ≡ (if d then Some z else None) → c.two f (if a then Some v else None) (if b then Some w else None) ≡ (if (a && b) && d then Some z else None)
two_when f true true d v w z e = e
two_when f true false d v w z e = refl
two_when f false true d v w z e = refl
two_when f false false d v w z e = refl

two_value : (at : ℕ → ℕ) (f : Value → Value → Option Value) (x y : Option Value) (p q j : Judged) → x ≡ judged_value at p → y ≡ judged_value at q → f (of_word p.ty (at p.term)) (of_word q.ty (at q.term)) ≡ judged_value at j → c.two f x y ≡ judged_value at (also (p.conditions ++ q.conditions) j)
two_value at f x y p q j ex ey e =
    ap (λ x. c.two f x y) ex ∙ (ap (c.two f (judged_value at p)) ey ∙ (two_when f (all_hold at p.conditions) (all_hold at q.conditions) (all_hold at j.conditions) (of_word p.ty (at p.term)) (of_word q.ty (at q.term)) (of_word j.ty (at j.term)) e ∙ ap (λ b. if b then Some (of_word j.ty (at j.term)) else None) (sym (hold_append at (p.conditions ++ q.conditions) j.conditions ∙ ap (λ b. b && all_hold at j.conditions) (hold_append at p.conditions q.conditions)))))

two_stand : (input at : ℕ → ℕ) → ((n : ℕ) → at n < 2 ^ 32) → (o : BinOp) (x y : Option Value) (t u : Ty) (p q : Judged) → Stands at x t p → Stands at y u q → Always input at (spec.with_operands p q (spec.binary_term o p.ty p.term q.ty q.term)) (Stands at (c.two (c.binary o) x y) (bin_ty o t u))
two_stand input at small o x y t u p q hp hq = always_then _ _ input at (spec.binary_term o p.ty p.term q.ty q.term) (λ j. Done (also (p.conditions ++ q.conditions) j)) (binary_stands input at o p.ty p.term q.ty q.term (small p.term) (small q.term)) (λ j h. record {
  value = two_value at (c.binary o) x y p q j hp.value hq.value h.value;
  type = ap (λ t. bin_ty o t u) hp.type ∙ (ap (bin_ty o p.ty) hq.type ∙ h.type);
})

-- ---- one operand

one_when : (f : Value → Option Value) (a d : Bool) (v z : Value) → f v ≡ (if d then Some z else None) → option_and_then f (if a then Some v else None) ≡ (if a && d then Some z else None)
one_when f true d v z e = e
one_when f false d v z e = refl

pub unary_with : (input at : ℕ → ℕ) → ((n : ℕ) → at n < 2 ^ 32) → (o : UnOp) (x : Option Value) (t : Ty) (p : Judged) → Stands at x t p → Always input at (spec.with_unary o p) (Stands at (option_and_then (c.unary o) x) (un_ty o t))
unary_with input at small o x t p hp = always_then _ _ input at (spec.unary_term o p.ty p.term) (λ j. Done (also p.conditions j)) (unary_stands input at o p.ty p.term (small p.term)) (λ j h. record {
  value = ap (option_and_then (c.unary o)) hp.value ∙ (one_when (c.unary o) (all_hold at p.conditions) (all_hold at j.conditions) (of_word p.ty (at p.term)) (of_word j.ty (at j.term)) h.value ∙ ap (λ b. if b then Some (of_word j.ty (at j.term)) else None) (sym (hold_append at p.conditions j.conditions)));
  type = ap (un_ty o) hp.type ∙ h.type;
})

-- ---- conversions

pub convert_word : (t u : Ty) (n : ℕ) → n < 2 ^ 32 → convert t (of_word u n) ≡ of_word t n
convert_word ty.Int ty.Int n h = refl
convert_word ty.Int ty.Unsigned n h = refl
convert_word ty.Unsigned ty.Int n h = ap (λ n. Unsigned n) (of_z-to_z w32 n h)
convert_word ty.Unsigned ty.Unsigned n h = refl

convert_when : (t : Ty) (a : Bool) (v w : Value) → convert t v ≡ w → option_map (convert t) (if a then Some v else None) ≡ (if a then Some w else None)
convert_when t true v w e = ap (λ v. Some v) e
convert_when t false v w e = refl

pub cast_stands : (at : ℕ → ℕ) → ((n : ℕ) → at n < 2 ^ 32) → (t : Ty) (x : Option Value) (u : Ty) (p : Judged) → Stands at x u p → Stands at (option_map (convert t) x) t (judged_term t p.term p.conditions)
cast_stands at small t x u p hp = record {
  value = ap (option_map (convert t)) hp.value ∙ convert_when t (all_hold at p.conditions) (of_word p.ty (at p.term)) (of_word t (at p.term)) (convert_word t p.ty (at p.term) (small p.term));
  type = refl;
}

-- ---- `&&`, `||` and `?:`

both_when : (a b : Bool) (v w : Value) (m n r : ℕ) → is_nonzero v ≡ not (m == 0) → is_nonzero w ≡ not (n == 0) → r ≡ (if not (m == 0) then (if not (n == 0) then 1 else 0) else 0) → c.both (if a then Some v else None) (if b then Some w else None) ≡ (if a && (if not (m == 0) then b else true) then Some (Int (cast_signed w32 r)) else None)
both_when false b v w m n r em en er = refl
both_when true b v w m n r em en er =
    ap (λ k. if k then option_and_then (λ v. Some (truth (is_nonzero v))) (if b then Some w else None) else Some (truth false)) em ∙ by_left (not (m == 0)) b er
  where
    right : (k : Bool) (r : ℕ) → r ≡ (if k then 1 else 0) → Some (truth k) ≡ Some (Int (cast_signed w32 r))
    right k r e = ap (λ v. Some v) (truth_word k r e)

    by_left : (k b : Bool) → r ≡ (if k then (if not (n == 0) then 1 else 0) else 0) → (if k then option_and_then (λ v. Some (truth (is_nonzero v))) (if b then Some w else None) else Some (truth false)) ≡ (if (if k then b else true) then Some (Int (cast_signed w32 r)) else None)
    by_left true true e = ap (λ k. Some (truth k)) en ∙ right (not (n == 0)) r e
    by_left true false e = refl
    by_left false b e = right false r e

both_stand : (input at : ℕ → ℕ) → ((n : ℕ) → at n < 2 ^ 32) → (x y : Option Value) (t u : Ty) (p q : Judged) → Stands at x t p → Stands at y u q → Always input at (spec.both_term p q) (Stands at (c.both x y) ty.Int)
both_stand input at small x y t u p q hp hq o eo z ez k ek r er = always_then _ _ input at (spec.conditions_where_true p.term q.conditions) (λ cs. Done (judged_term ty.Int r (p.conditions ++ cs))) (hold_where_true input at p.term q.conditions) (λ cs h.
    let words : at r ≡ (if not (at p.term == 0) then (if not (at q.term == 0) then 1 else 0) else 0) = er ∙ (chosen_by (at p.term) (at k) (at z) ∙ (ap (λ m. if not (at p.term == 0) then m else at z) (ek ∙ (chosen_by (at q.term) (at o) (at z) ∙ (ap (λ o. if not (at q.term == 0) then o else at z) eo ∙ ap (λ z. if not (at q.term == 0) then 1 else z) ez))) ∙ ap (λ z. if not (at p.term == 0) then (if not (at q.term == 0) then 1 else 0) else z) ez)) in
    stands at (c.both x y) (judged_term ty.Int r (p.conditions ++ cs)) (ap (λ x. c.both x y) hp.value ∙ (ap (c.both (judged_value at p)) hq.value ∙ (both_when (all_hold at p.conditions) (all_hold at q.conditions) (of_word p.ty (at p.term)) (of_word q.ty (at q.term)) (at p.term) (at q.term) (at r) (true_word p.ty (at p.term) (small p.term)) (true_word q.ty (at q.term) (small q.term)) words ∙ ap (λ b. if b then Some (Int (cast_signed w32 (at r))) else None) (sym (hold_append at p.conditions cs ∙ ap (λ b. all_hold at p.conditions && b) h))))))

either_when : (a b : Bool) (v w : Value) (m n r : ℕ) → is_nonzero v ≡ not (m == 0) → is_nonzero w ≡ not (n == 0) → r ≡ (if not (m == 0) then 1 else (if not (n == 0) then 1 else 0)) → c.either (if a then Some v else None) (if b then Some w else None) ≡ (if a && (if not (m == 0) then true else b) then Some (Int (cast_signed w32 r)) else None)
either_when false b v w m n r em en er = refl
either_when true b v w m n r em en er =
    ap (λ k. if k then Some (truth true) else option_and_then (λ v. Some (truth (is_nonzero v))) (if b then Some w else None)) em ∙ by_left (not (m == 0)) b er
  where
    right : (k : Bool) (r : ℕ) → r ≡ (if k then 1 else 0) → Some (truth k) ≡ Some (Int (cast_signed w32 r))
    right k r e = ap (λ v. Some v) (truth_word k r e)

    by_left : (k b : Bool) → r ≡ (if k then 1 else (if not (n == 0) then 1 else 0)) → (if k then Some (truth true) else option_and_then (λ v. Some (truth (is_nonzero v))) (if b then Some w else None)) ≡ (if (if k then true else b) then Some (Int (cast_signed w32 r)) else None)
    by_left true b e = right true r e
    by_left false true e = ap (λ k. Some (truth k)) en ∙ right (not (n == 0)) r e
    by_left false false e = refl

either_stand : (input at : ℕ → ℕ) → ((n : ℕ) → at n < 2 ^ 32) → (x y : Option Value) (t u : Ty) (p q : Judged) → Stands at x t p → Stands at y u q → Always input at (spec.either_term p q) (Stands at (c.either x y) ty.Int)
either_stand input at small x y t u p q hp hq o eo z ez k ek r er = always_then _ _ input at (spec.conditions_where_false p.term q.conditions) (λ cs. Done (judged_term ty.Int r (p.conditions ++ cs))) (hold_where_false input at p.term q.conditions) (λ cs h.
    let words : at r ≡ (if not (at p.term == 0) then 1 else (if not (at q.term == 0) then 1 else 0)) = er ∙ (chosen_by (at p.term) (at o) (at k) ∙ (ap (λ o. if not (at p.term == 0) then o else at k) eo ∙ ap (λ m. if not (at p.term == 0) then 1 else m) (ek ∙ (chosen_by (at q.term) (at o) (at z) ∙ (ap (λ o. if not (at q.term == 0) then o else at z) eo ∙ ap (λ z. if not (at q.term == 0) then 1 else z) ez))))) in
    stands at (c.either x y) (judged_term ty.Int r (p.conditions ++ cs)) (ap (λ x. c.either x y) hp.value ∙ (ap (c.either (judged_value at p)) hq.value ∙ (either_when (all_hold at p.conditions) (all_hold at q.conditions) (of_word p.ty (at p.term)) (of_word q.ty (at q.term)) (at p.term) (at q.term) (at r) (true_word p.ty (at p.term) (small p.term)) (true_word q.ty (at q.term) (small q.term)) words ∙ ap (λ b. if b then Some (Int (cast_signed w32 (at r))) else None) (sym (hold_append at p.conditions cs ∙ ap (λ b. all_hold at p.conditions && b) h))))))

chosen_when : (r : Ty) (a b d : Bool) (v w z : Value) (m k l n : ℕ) (t u : Ty) → is_nonzero v ≡ not (m == 0) → convert r w ≡ of_word r k → convert r z ≡ of_word r l → n ≡ (if not (m == 0) then k else l) → ce.choice_value (if a then Some v else None) r (if b then Some w else None) (if d then Some z else None) ≡ (if a && ((if not (m == 0) then b else true) && (if not (m == 0) then true else d)) then Some (of_word r n) else None)
chosen_when r false b d v w z m k l n t u em ew ez en = refl
chosen_when r true b d v w z m k l n t u em ew ez en =
    ap (λ q. option_map (convert r) (if q then (if b then Some w else None) else (if d then Some z else None))) em ∙ by_test (not (m == 0)) b d en
  where
    by_test : (q b d : Bool) → n ≡ (if q then k else l) → option_map (convert r) (if q then (if b then Some w else None) else (if d then Some z else None)) ≡ (if (if q then b else true) && (if q then true else d) then Some (of_word r n) else None)
    by_test true true d e = ap (λ v. Some v) (ew ∙ ap (of_word r) (sym e))
    by_test true false d e = refl
    by_test false b true e = ap (λ v. Some v) (ez ∙ ap (of_word r) (sym e))
    by_test false b false e = refl

pub chosen_stand : (input at : ℕ → ℕ) → ((n : ℕ) → at n < 2 ^ 32) → (x y z : Option Value) (s t u : Ty) (k p q : Judged) → Stands at x s k → Stands at y t p → Stands at z u q → Always input at (spec.choice_term k p q) (Stands at (ce.choice_value x (common t u) y z) (common t u))
chosen_stand input at small x y z s t u k p q hk hp hq r er = always_then _ _ input at (spec.conditions_where_true k.term p.conditions) (λ xs. spec.conditions_where_false k.term q.conditions >>= (λ ys. Done (judged_term (common p.ty q.ty) r (k.conditions ++ (xs ++ ys))))) (hold_where_true input at k.term p.conditions) (λ xs hx. always_then _ _ input at (spec.conditions_where_false k.term q.conditions) (λ ys. Done (judged_term (common p.ty q.ty) r (k.conditions ++ (xs ++ ys)))) (hold_where_false input at k.term q.conditions) (λ ys hy.
    let types : common t u ≡ common p.ty q.ty = ap (λ t. common t u) hp.type ∙ ap (common p.ty) hq.type in
    let word : at r ≡ (if not (at k.term == 0) then at p.term else at q.term) = er ∙ chosen_by (at k.term) (at p.term) (at q.term) in
    let holds : all_hold at (k.conditions ++ (xs ++ ys)) ≡ (all_hold at k.conditions && ((if not (at k.term == 0) then all_hold at p.conditions else true) && (if not (at k.term == 0) then true else all_hold at q.conditions))) = hold_append at k.conditions (xs ++ ys) ∙ ap (λ b. all_hold at k.conditions && b) (hold_append at xs ys ∙ (ap (λ b. b && all_hold at ys) hx ∙ ap (λ b. (if not (at k.term == 0) then all_hold at p.conditions else true) && b) hy)) in
    record {
      value = ap (λ x. ce.choice_value x (common t u) y z) hk.value ∙ (ap (λ y. ce.choice_value (judged_value at k) (common t u) y z) hp.value ∙ (ap (ce.choice_value (judged_value at k) (common t u) (judged_value at p)) hq.value ∙ (ap (λ r. ce.choice_value (judged_value at k) r (judged_value at p) (judged_value at q)) types ∙ (chosen_when (common p.ty q.ty) (all_hold at k.conditions) (all_hold at p.conditions) (all_hold at q.conditions) (of_word k.ty (at k.term)) (of_word p.ty (at p.term)) (of_word q.ty (at q.term)) (at k.term) (at p.term) (at q.term) (at r) t u (true_word k.ty (at k.term) (small k.term)) (convert_word (common p.ty q.ty) p.ty (at p.term) (small p.term)) (convert_word (common p.ty q.ty) q.ty (at q.term) (small q.term)) word ∙ ap (λ b. if b then Some (of_word (common p.ty q.ty) (at r)) else None) (sym holds)))));
      type = types;
    }))

-- ---- all binary operators

pub operated_stands : (input at : ℕ → ℕ) → ((n : ℕ) → at n < 2 ^ 32) → (o : BinOp) (x y : Option Value) (t u : Ty) (p q : Judged) → Stands at x t p → Stands at y u q → Always input at (spec.operation_term o p q) (Stands at (c.operation_value o x y) (bin_ty o t u))
operated_stands input at small bin.Both x y t u p q hp hq = both_stand input at small x y t u p q hp hq
operated_stands input at small bin.Either x y t u p q hp hq = either_stand input at small x y t u p q hp hq
operated_stands input at small bin.Mul x y t u p q hp hq = two_stand input at small bin.Mul x y t u p q hp hq
operated_stands input at small bin.Div x y t u p q hp hq = two_stand input at small bin.Div x y t u p q hp hq
operated_stands input at small bin.Rem x y t u p q hp hq = two_stand input at small bin.Rem x y t u p q hp hq
operated_stands input at small bin.Add x y t u p q hp hq = two_stand input at small bin.Add x y t u p q hp hq
operated_stands input at small bin.Sub x y t u p q hp hq = two_stand input at small bin.Sub x y t u p q hp hq
operated_stands input at small bin.Shl x y t u p q hp hq = two_stand input at small bin.Shl x y t u p q hp hq
operated_stands input at small bin.Shr x y t u p q hp hq = two_stand input at small bin.Shr x y t u p q hp hq
operated_stands input at small bin.Lt x y t u p q hp hq = two_stand input at small bin.Lt x y t u p q hp hq
operated_stands input at small bin.Gt x y t u p q hp hq = two_stand input at small bin.Gt x y t u p q hp hq
operated_stands input at small bin.Le x y t u p q hp hq = two_stand input at small bin.Le x y t u p q hp hq
operated_stands input at small bin.Ge x y t u p q hp hq = two_stand input at small bin.Ge x y t u p q hp hq
operated_stands input at small bin.Eq x y t u p q hp hq = two_stand input at small bin.Eq x y t u p q hp hq
operated_stands input at small bin.Ne x y t u p q hp hq = two_stand input at small bin.Ne x y t u p q hp hq
operated_stands input at small bin.And x y t u p q hp hq = two_stand input at small bin.And x y t u p q hp hq
operated_stands input at small bin.Xor x y t u p q hp hq = two_stand input at small bin.Xor x y t u p q hp hq
operated_stands input at small bin.Or x y t u p q hp hq = two_stand input at small bin.Or x y t u p q hp hq
