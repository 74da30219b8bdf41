-- The terms of binary operators.
use Rattle.std.proofs.Common.{◌≡◌, ℕ, ◌+◌, ◌-◌, ◌*◌, ◌^◌, ◌<◌, Bool, true, if◌then◌else◌, [], ◌∷◌, Option, Some, None, ℤ, refl, sym, ap, ◌∙◌, subst}
use Rattle.std.specs.Prelude.{◌==◌, ◌&&◌, not, nat_lt, nat_le, ◌+ℤ◌, ◌-ℤ◌, ◌*ℤ◌, int_lt, int_le, bit_and, bit_xor, bit_or}
use Rattle.std.specs.Int.{cast_signed, w32}
use Rattle.std.proofs.lemmas.Int.{of_z-to_z}
use Rattle.c_tree.specs.declared.tree.Ty.{Ty}
use Rattle.c_tree.specs.declared.tree.Ty.TheVariants as ty
use Rattle.c_tree.specs.declared.value.Value.TheVariants.{Int}
use Rattle.c_tree.specs.declared.value.Value.{Value}
use Rattle.c_tree.specs.Meaning.Values.{of_word, common, word, truth}
use Rattle.c_tree.specs.Meaning.Operators as c
use Rattle.bv_term.specs.declared.op.Op.{Op}
use Rattle.bv_term.specs.declared.op.Op.TheVariants as op
use Rattle.bv_term.specs.Words.{flag, op_word}
use Rattle.bv_term.specs.Scripts.{Script, Always}
use Rattle.cond_laws.specs.Judged.{Judged, judged_term}
use Rattle.cond_laws.specs.TermOperators as spec
use Rattle.cond_laws.proofs.Judging.{Stands, stands}
use Rattle.c_tree.specs.declared.tree.BinOp.{BinOp}
use Rattle.c_tree.specs.declared.tree.BinOp.TheVariants as bin
use Rattle.c_tree.specs.Meaning.Values.{ty_of}
use Rattle.c_tree.specs.Meaning.Expressions.{bin_ty}
use Rattle.cond_laws.proofs.Operators.SumTerms.{int_sum, unsigned_sum, int_difference, unsigned_difference}
use Rattle.cond_laws.proofs.Operators.ProductTerms.{int_product, unsigned_product}
use Rattle.cond_laws.proofs.Operators.DivisionTerms.{int_divided, unsigned_divided, int_left_over, unsigned_left_over}
use Rattle.cond_laws.proofs.Operators.ShiftTerms.{int_left, unsigned_left, int_right, unsigned_right}
use Rattle.cond_laws.proofs.Operators.RelationTerms.{truth_stands, negated_stands, int_le_is, nat_le_is, int_same_is, word_back}

-- the operands are converted to their common type, by which their words stay
pub by_common : (input at : ℕ → ℕ) (f : ℤ → ℤ → Option Value) (g : ℕ → ℕ → Option Value) (s : Ty → Script Judged) (r : Ty → Ty) (a b : ℕ) → at a < 2 ^ 32 → at b < 2 ^ 32 → Always input at (s ty.Int) (Stands at (f (cast_signed w32 (at a)) (cast_signed w32 (at b))) (r ty.Int)) → Always input at (s ty.Unsigned) (Stands at (g (at a) (at b)) (r ty.Unsigned)) → (t u : Ty) → Always input at (s (common t u)) (Stands at (c.in_common f g (of_word t (at a)) (of_word u (at b))) (r (common t u)))
by_common input at f g s r a b ha hb i n ty.Int ty.Int = i
by_common input at f g s r a b ha hb i n ty.Int ty.Unsigned =
    subst (λ m. Always input at (s ty.Unsigned) (Stands at (g m (at b)) (r ty.Unsigned))) (sym (of_z-to_z w32 (at a) ha)) n
by_common input at f g s r a b ha hb i n ty.Unsigned ty.Int =
    subst (λ m. Always input at (s ty.Unsigned) (Stands at (g (at a) m) (r ty.Unsigned))) (sym (of_z-to_z w32 (at b) hb)) n
by_common input at f g s r a b ha hb i n ty.Unsigned ty.Unsigned = n

shifted_left_stands : (input at : ℕ → ℕ) (t : Ty) (a : ℕ) (u : Ty) (b : ℕ) → at a < 2 ^ 32 → at b < 2 ^ 32 → Always input at (spec.binary_term bin.Shl t a u b) (Stands at (c.binary bin.Shl (of_word t (at a)) (of_word u (at b))) t)
shifted_left_stands input at ty.Int a u b ha hb = int_left input at a b u ha hb
shifted_left_stands input at ty.Unsigned a u b ha hb = unsigned_left input at a b u hb

shifted_right_stands : (input at : ℕ → ℕ) (t : Ty) (a : ℕ) (u : Ty) (b : ℕ) → at a < 2 ^ 32 → at b < 2 ^ 32 → Always input at (spec.binary_term bin.Shr t a u b) (Stands at (c.binary bin.Shr (of_word t (at a)) (of_word u (at b))) t)
shifted_right_stands input at ty.Int a u b ha hb = int_right input at a b u ha hb
shifted_right_stands input at ty.Unsigned a u b ha hb = unsigned_right input at a b u hb

pub ty_word : (t : Ty) (n : ℕ) → ty_of (of_word t n) ≡ t
ty_word ty.Int n = refl
ty_word ty.Unsigned n = refl

bits_stand : (input at : ℕ → ℕ) (f : ℕ → ℕ → ℕ) (o : Op) (t : Ty) (a : ℕ) (u : Ty) (b : ℕ) → at a < 2 ^ 32 → at b < 2 ^ 32 → op_word input at o ≡ f (at a) (at b) → Always input at (spec.one_op (common t u) o) (Stands at (c.bits f (of_word t (at a)) (of_word u (at b))) (common t u))
bits_stand input at f o t a u b ha hb e =
    let types : common (ty_of (of_word t (at a))) (ty_of (of_word u (at b))) ≡ common t u = ap (λ t. common t (ty_of (of_word u (at b)))) (ty_word t (at a)) ∙ ap (common t) (ty_word u (at b)) in
    let words : f (word (of_word t (at a))) (word (of_word u (at b))) ≡ op_word input at o = ap (λ m. f m (word (of_word u (at b)))) (word_back t (at a) ha) ∙ (ap (f (at a)) (word_back u (at b) hb) ∙ sym e) in
    let bits : c.bits f (of_word t (at a)) (of_word u (at b)) ≡ Some (of_word (common t u) (op_word input at o)) = ap (λ t'. Some (of_word t' (f (word (of_word t (at a))) (word (of_word u (at b)))))) types ∙ ap (λ n. Some (of_word (common t u) n)) words in
    λ r er. record { value = bits ∙ ap (λ n. Some (of_word (common t u) n)) (sym er); type = refl }

relation_stands : (input at : ℕ → ℕ) (f : ℤ → ℤ → Bool) (g : ℕ → ℕ → Bool) (s : Ty → Script Judged) (a b : ℕ) → at a < 2 ^ 32 → at b < 2 ^ 32 → Always input at (s ty.Int) (Stands at (Some (truth (f (cast_signed w32 (at a)) (cast_signed w32 (at b))))) ty.Int) → Always input at (s ty.Unsigned) (Stands at (Some (truth (g (at a) (at b)))) ty.Int) → (t u : Ty) → Always input at (s (common t u)) (Stands at (c.comparison_value f g (of_word t (at a)) (of_word u (at b))) ty.Int)
relation_stands input at f g s a b ha hb i n t u =
    by_common input at (λ x y. Some (truth (f x y))) (λ x y. Some (truth (g x y))) s (λ t. ty.Int) a b ha hb i n t u

pub binary_stands : (input at : ℕ → ℕ) (o : BinOp) (t : Ty) (a : ℕ) (u : Ty) (b : ℕ) → at a < 2 ^ 32 → at b < 2 ^ 32 → Always input at (spec.binary_term o t a u b) (Stands at (c.binary o (of_word t (at a)) (of_word u (at b))) (bin_ty o t u))
binary_stands input at bin.Mul t a u b ha hb = by_common input at (λ x y. c.int (x *ℤ y)) (λ m n. c.wrapped_unsigned (m * n)) (λ t. spec.product_term t a b) (λ t. t) a b ha hb (int_product input at a b ha hb) (unsigned_product input at a b) t u
binary_stands input at bin.Div t a u b ha hb = by_common input at c.int_quotient c.quotient (λ t. spec.division_term op.DivS op.DivU t a b) (λ t. t) a b ha hb (int_divided input at a b ha hb) (unsigned_divided input at a b) t u
binary_stands input at bin.Rem t a u b ha hb = by_common input at c.int_remainder c.remainder (λ t. spec.division_term op.RemS op.RemU t a b) (λ t. t) a b ha hb (int_left_over input at a b ha hb) (unsigned_left_over input at a b) t u
binary_stands input at bin.Add t a u b ha hb = by_common input at (λ x y. c.int (x +ℤ y)) (λ m n. c.wrapped_unsigned (m + n)) (λ t. spec.sum_term t a b) (λ t. t) a b ha hb (int_sum input at a b ha hb) (unsigned_sum input at a b) t u
binary_stands input at bin.Sub t a u b ha hb = by_common input at (λ x y. c.int (x -ℤ y)) (λ m n. c.wrapped_unsigned (m + 2 ^ 32 - n)) (λ t. spec.difference_term t a b) (λ t. t) a b ha hb (int_difference input at a b ha hb) (unsigned_difference input at a b) t u
binary_stands input at bin.Shl t a u b ha hb = shifted_left_stands input at t a u b ha hb
binary_stands input at bin.Shr t a u b ha hb = shifted_right_stands input at t a u b ha hb
binary_stands input at bin.Lt t a u b ha hb = relation_stands input at int_lt nat_lt (λ t. spec.truth_term (spec.less_op t a b)) a b ha hb (truth_stands input at (op.LtS a b) (int_lt (cast_signed w32 (at a)) (cast_signed w32 (at b))) refl) (truth_stands input at (op.LtU a b) (nat_lt (at a) (at b)) refl) t u
binary_stands input at bin.Gt t a u b ha hb = relation_stands input at (λ x y. int_lt y x) (λ m n. nat_lt n m) (λ t. spec.truth_term (spec.less_op t b a)) a b ha hb (truth_stands input at (op.LtS b a) (int_lt (cast_signed w32 (at b)) (cast_signed w32 (at a))) refl) (truth_stands input at (op.LtU b a) (nat_lt (at b) (at a)) refl) t u
binary_stands input at bin.Le t a u b ha hb = relation_stands input at int_le nat_le (λ t. spec.negation_term (spec.less_op t b a)) a b ha hb (negated_stands input at (op.LtS b a) (int_lt (cast_signed w32 (at b)) (cast_signed w32 (at a))) (int_le (cast_signed w32 (at a)) (cast_signed w32 (at b))) refl (int_le_is (cast_signed w32 (at a)) (cast_signed w32 (at b)))) (negated_stands input at (op.LtU b a) (nat_lt (at b) (at a)) (nat_le (at a) (at b)) refl (nat_le_is (at a) (at b))) t u
binary_stands input at bin.Ge t a u b ha hb = relation_stands input at (λ x y. int_le y x) (λ m n. nat_le n m) (λ t. spec.negation_term (spec.less_op t a b)) a b ha hb (negated_stands input at (op.LtS a b) (int_lt (cast_signed w32 (at a)) (cast_signed w32 (at b))) (int_le (cast_signed w32 (at b)) (cast_signed w32 (at a))) refl (int_le_is (cast_signed w32 (at b)) (cast_signed w32 (at a)))) (negated_stands input at (op.LtU a b) (nat_lt (at a) (at b)) (nat_le (at b) (at a)) refl (nat_le_is (at b) (at a))) t u
binary_stands input at bin.Eq t a u b ha hb = relation_stands input at c.int_same (λ m n. m == n) (λ t. spec.truth_term (op.Eq a b)) a b ha hb (truth_stands input at (op.Eq a b) (c.int_same (cast_signed w32 (at a)) (cast_signed w32 (at b))) (ap flag (sym (int_same_is (at a) (at b) ha hb)))) (truth_stands input at (op.Eq a b) (at a == at b) refl) t u
binary_stands input at bin.Ne t a u b ha hb = relation_stands input at (λ x y. not (c.int_same x y)) (λ m n. not (m == n)) (λ t. spec.negation_term (op.Eq a b)) a b ha hb (negated_stands input at (op.Eq a b) (at a == at b) (not (c.int_same (cast_signed w32 (at a)) (cast_signed w32 (at b)))) refl (ap not (int_same_is (at a) (at b) ha hb))) (negated_stands input at (op.Eq a b) (at a == at b) (not (at a == at b)) refl refl) t u
binary_stands input at bin.And t a u b ha hb = bits_stand input at bit_and (op.And a b) t a u b ha hb refl
binary_stands input at bin.Xor t a u b ha hb = bits_stand input at bit_xor (op.Xor a b) t a u b ha hb refl
binary_stands input at bin.Or t a u b ha hb = bits_stand input at bit_or (op.Or a b) t a u b ha hb refl
binary_stands input at bin.Both t a u b ha hb = λ z ez. stands at None (judged_term ty.Int z (z ∷ [])) (sym (ap (λ z. if not (z == 0) && true then Some (Int (cast_signed w32 z)) else None) ez))
binary_stands input at bin.Either t a u b ha hb = λ z ez. stands at None (judged_term ty.Int z (z ∷ [])) (sym (ap (λ z. if not (z == 0) && true then Some (Int (cast_signed w32 z)) else None) ez))
