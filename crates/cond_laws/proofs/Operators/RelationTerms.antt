-- The terms of relations, of operators on bits, and of unary operators.
use Rattle.std.proofs.Common.{◌≡◌, ℕ, suc, ◌+◌, ◌-◌, ◌%◌, ◌^◌, ◌<◌, Bool, true, false, if◌then◌else◌, [], ◌∷◌, Some, ℤ, pos, negsuc, refl, sym, ap, ◌∙◌, arith}
use Rattle.std.specs.Prelude.{◌==◌, ◌&&◌, not, nat_lt, nat_le, ◌-ℤ◌, int_lt, int_le, bit_xor}
use Rattle.std.specs.Int.{cast_signed, w32}
use Rattle.std.proofs.lemmas.Int.{ints, of_z-to_z}
use Rattle.std.proofs.lemmas.Bool.Decides.{nat_tests}
use Rattle.std.proofs.lemmas.Bool.{ltb-true, lt-ltb}
use lib.Signed.{mag}
use Rattle.c_tree.specs.declared.tree.Ty.{Ty}
use Rattle.c_tree.specs.declared.tree.Ty.TheVariants as ty
use Rattle.c_tree.specs.declared.value.Value.TheVariants.{Int, Unsigned}
use Rattle.c_tree.specs.Meaning.Values.{of_word, word, truth}
use Rattle.c_tree.specs.Meaning.Operators as c
use Rattle.bv_term.specs.declared.op.Op.{Op}
use Rattle.bv_term.specs.Words.{flag, op_word}
use Rattle.bv_term.specs.Scripts.{Always}
use Rattle.cond_laws.specs.Judged.{judged_term, sure}
use Rattle.cond_laws.specs.TermOperators as spec
use Rattle.cond_laws.proofs.Judging.{Stands, judged_int, stands}
use Rattle.c_tree.specs.declared.tree.UnOp.{UnOp}
use Rattle.c_tree.specs.declared.tree.UnOp.TheVariants as un
use Rattle.c_tree.specs.Meaning.Values.{is_nonzero, ty_of}
use Rattle.c_tree.specs.Meaning.Expressions.{un_ty}
use Rattle.cond_laws.proofs.Operators.DivisionTerms.{apart}
use Rattle.std.specs.Int.Bits.{xor_self}
use Rattle.plain_laws.proofs.Booleans.{and-true}

-- ---- truth values

pub truth_word : (b : Bool) (r : ℕ) → r ≡ flag b → truth b ≡ Int (cast_signed w32 r)
truth_word true r e = sym (ap (λ r. Int (cast_signed w32 r)) e)
truth_word false r e = sym (ap (λ r. Int (cast_signed w32 r)) e)

flag_not : (b : Bool) → flag (flag b == 0) ≡ flag (not b)
flag_not true = refl
flag_not false = refl

pub true_word : (t : Ty) (x : ℕ) → x < 2 ^ 32 → is_nonzero (of_word t x) ≡ not (x == 0)
true_word ty.Unsigned x h = refl
true_word ty.Int x h = by_sign (nat_lt x (2 ^ 31)) refl
  where
    large : (k : ℕ) → nat_lt k (2 ^ 31) ≡ false → true ≡ not (k == 0)
    large k h = grind (arith, nat_tests)

    by_sign : (b : Bool) → nat_lt x (2 ^ 31) ≡ b → is_nonzero (Int (if b then pos x else negsuc (2 ^ 32 - suc x))) ≡ not (x == 0)
    by_sign true e = refl
    by_sign false e = large x e

pub word_back : (t : Ty) (x : ℕ) → x < 2 ^ 32 → word (of_word t x) ≡ x
word_back ty.Int x h = of_z-to_z w32 x h
word_back ty.Unsigned x h = refl

-- ---- orders

pub int_le_is : (x y : ℤ) → int_le x y ≡ not (int_lt y x)
int_le_is (pos a) (pos b) = grind (arith, nat_tests)
int_le_is (pos a) (negsuc b) = refl
int_le_is (negsuc a) (pos b) = refl
int_le_is (negsuc a) (negsuc b) = grind (arith, nat_tests)

pub nat_le_is : (m n : ℕ) → nat_le m n ≡ not (nat_lt n m)
nat_le_is m n = grind (arith, nat_tests)

pub int_same_is : (x y : ℕ) → x < 2 ^ 32 → y < 2 ^ 32 → c.int_same (cast_signed w32 x) (cast_signed w32 y) ≡ (x == y)
int_same_is x y hx hy = grind (arith, ints, nat_tests)

-- an operator of which the word is 0 or 1
pub truth_stands : (input at : ℕ → ℕ) (o : Op) (b : Bool) → op_word input at o ≡ flag b → Always input at (spec.truth_term o) (Stands at (Some (truth b)) ty.Int)
truth_stands input at o b e r er = stands at (Some (truth b)) (sure ty.Int r) (ap (λ v. Some v) (truth_word b (at r) (er ∙ e)))

-- and one of which it is the other
pub negated_stands : (input at : ℕ → ℕ) (o : Op) (b d : Bool) → op_word input at o ≡ flag b → d ≡ not b → Always input at (spec.negation_term o) (Stands at (Some (truth d)) ty.Int)
negated_stands input at o b d e h x ex z ez r er =
    stands at (Some (truth d)) (sure ty.Int r) (ap (λ v. Some v) (truth_word d (at r) (er ∙ (ap (λ z. flag (at x == z)) ez ∙ (ap (λ x. flag (x == 0)) (ex ∙ e) ∙ (flag_not b ∙ ap flag (sym h)))))))

-- ---- the relations, of two `int` and of two `unsigned`

-- ---- bits

-- an operator that gives the bits of a value
pub one_op_stands : (input at : ℕ → ℕ) (t : Ty) (o : Op) (n : ℕ) → n ≡ op_word input at o → Always input at (spec.one_op t o) (Stands at (Some (of_word t n)) t)
one_op_stands input at t o n e r er = stands at (Some (of_word t n)) (sure t r) (ap (λ n. Some (of_word t n)) (e ∙ sym er))

-- ---- unary operators

minus_in : (x : ℕ) → x < 2 ^ 32 → nat_lt (mag (pos 0 -ℤ cast_signed w32 x)) (2 ^ 31) ≡ not (x == 2 ^ 31)
minus_in x h = grind (arith, ints, nat_tests)

minus_word : (x r : ℕ) → x < 2 ^ 32 → r ≡ (2 ^ 32 - x) % 2 ^ 32 → mag (pos 0 -ℤ cast_signed w32 x) < 2 ^ 31 → pos 0 -ℤ cast_signed w32 x ≡ cast_signed w32 r
minus_word x r h e k = grind (arith, ints)

apart_test : (x m u : ℕ) → m ≡ 2 ^ 31 → u ≡ bit_xor x m → (u == 0) ≡ (x == 2 ^ 31)
apart_test x m u em eu = by_test (u == 0) refl
  where
    is_zero : (k : ℕ) → (k == 0) ≡ true → k ≡ 0
    is_zero k h = grind (arith, nat_tests)

    same : (x m : ℕ) → x ≡ m → true ≡ (x == m)
    same x m h = grind (arith, nat_tests)

    back : (x m : ℕ) → (x == m) ≡ true → x ≡ m
    back x m h = grind (arith, nat_tests)

    when_zero : u ≡ 0 → x ≡ m
    when_zero h = apart x m (sym eu ∙ h)

    zero_when : x ≡ m → u ≡ 0
    zero_when h = eu ∙ (ap (λ x. bit_xor x m) h ∙ xor_self m)

    zero_test : (k : ℕ) → k ≡ 0 → (k == 0) ≡ true
    zero_test k h = grind (arith, nat_tests)

    by_other : (b : Bool) → (x == 2 ^ 31) ≡ b → (u == 0) ≡ false → false ≡ b
    by_other true e f = sym f ∙ zero_test u (zero_when (back x (2 ^ 31) e ∙ sym em))
    by_other false e f = refl

    by_test : (b : Bool) → (u == 0) ≡ b → b ≡ (x == 2 ^ 31)
    by_test true e = same x (2 ^ 31) (when_zero (is_zero u e) ∙ em)
    by_test false e = by_other (x == 2 ^ 31) refl e

int_minus : (input at : ℕ → ℕ) (a : ℕ) → at a < 2 ^ 32 → Always input at (spec.minus_term ty.Int a) (Stands at (c.int (pos 0 -ℤ cast_signed w32 (at a))) ty.Int)
int_minus input at a ha r er m em x ex =
    let z : ℤ = pos 0 -ℤ cast_signed w32 (at a) in
    let test : (not (at x == 0) && true) ≡ nat_lt (mag z) (2 ^ 31) = and-true (not (at x == 0)) ∙ (ap not (apart_test (at a) (at m) (at x) em ex) ∙ sym (minus_in (at a) ha)) in
    stands at (c.int z) (judged_term ty.Int r (x ∷ [])) (judged_int z (at r) (not (at x == 0) && true) (λ h. ltb-true (mag z) (2 ^ 31) (sym test ∙ h)) (λ h. test ∙ lt-ltb (mag z) (2 ^ 31) h) (minus_word (at a) (at r) ha er))

unsigned_minus : (input at : ℕ → ℕ) (a : ℕ) → Always input at (spec.minus_term ty.Unsigned a) (Stands at (c.wrapped_unsigned (0 + 2 ^ 32 - at a)) ty.Unsigned)
unsigned_minus input at a r er =
    stands at (c.wrapped_unsigned (0 + 2 ^ 32 - at a)) (sure ty.Unsigned r) (ap (λ n. Some (Unsigned n)) (sym er))

flipped : (t : Ty) (n : ℕ) → n < 2 ^ 32 → of_word t (2 ^ 32 - 1 - n) ≡ of_word (ty_of (of_word t n)) (2 ^ 32 - 1 - word (of_word t n))
flipped ty.Int n h = ap (λ n. of_word ty.Int (2 ^ 32 - 1 - n)) (sym (of_z-to_z w32 n h))
flipped ty.Unsigned n h = refl

pub unary_stands : (input at : ℕ → ℕ) (o : UnOp) (t : Ty) (a : ℕ) → at a < 2 ^ 32 → Always input at (spec.unary_term o t a) (Stands at (c.unary o (of_word t (at a))) (un_ty o t))
unary_stands input at un.Plus t a h = stands at (Some (of_word t (at a))) (sure t a) refl
unary_stands input at un.Minus ty.Int a h = int_minus input at a h
unary_stands input at un.Minus ty.Unsigned a h = unsigned_minus input at a
unary_stands input at un.Flip t a h = λ r er.
    record { value = sym (ap (λ v. Some v) (ap (of_word t) er ∙ flipped t (at a) h)); type = refl }
unary_stands input at un.Not t a h = λ z ez r er.
    stands at (Some (truth (not (is_nonzero (of_word t (at a)))))) (sure ty.Int r) (ap (λ v. Some v) (truth_word (not (is_nonzero (of_word t (at a)))) (at r) (er ∙ (ap (λ z. flag (at a == z)) ez ∙ ap flag (not_not (at a == 0) ∙ ap not (sym (true_word t (at a) h)))))))
  where
    not_not : (b : Bool) → b ≡ not (not b)
    not_not true = refl
    not_not false = refl
