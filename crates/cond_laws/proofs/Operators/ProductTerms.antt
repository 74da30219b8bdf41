-- The term of a product of `int`: that the magnitudes' product is in range is told by a division.
use Rattle.std.proofs.Common.{◌≡◌, ℕ, zero, suc, ◌+◌, ◌-◌, ◌*◌, ◌/◌, ◌%◌, ◌^◌, ◌<◌, ◌≤◌, Bool, true, false, [], ◌∷◌, Some, ℤ, pos, negsuc, refl, sym, ap, ◌∙◌, arith}
use Rattle.std.specs.Prelude.{◌==◌, ◌&&◌, not, nat_lt, nat_le, ◌*ℤ◌, int_lt, bit_xor, bit_or, unsigned_abs}
use Rattle.std.specs.Int.{cast_signed, w32}
use Rattle.std.proofs.lemmas.Int.{ints, wrapping_mul-bits, int_wrap_fits}
use Rattle.std.proofs.lemmas.Bool.Decides.{nat_tests}
use Rattle.std.proofs.lemmas.Bool.{ltb-true, lt-ltb}
use lib.Signed.{mag}
use Rattle.c_tree.specs.declared.tree.Ty.TheVariants as ty
use Rattle.c_tree.specs.declared.value.Value.TheVariants.{Unsigned}
use Rattle.c_tree.specs.Meaning.Operators as c
use Rattle.bv_term.specs.Words.{flag, is_less_signed, choice as chosen}
use Rattle.bv_term.specs.Scripts.{Always}
use Rattle.cond_laws.specs.Judged.{judged_term, sure}
use Rattle.cond_laws.specs.TermOperators as spec
use Rattle.cond_laws.proofs.Judging.{Stands, judged_int, stands}
use Rattle.bv_term.specs.Words.{word_quotient as divided}
use lib.IntN.{neg_ℤ}
use Rattle.std.proofs.Math.Nat.{mul-le-mul_right}

-- ---- magnitudes

is_magnitude : (x z n m a : ℕ) → x < 2 ^ 32 → z ≡ 0 → n ≡ flag (is_less_signed x z) → m ≡ (2 ^ 32 - x) % 2 ^ 32 → a ≡ chosen n m x → a ≡ unsigned_abs (cast_signed w32 x)
is_magnitude x z n m a hx ez en em ea = grind (arith, ints, nat_tests)

-- the product is at most a number exactly where the one is 0, or the other at most the quotient
under_quotient : (a b most : ℕ) → a ≤ most / suc b → a * suc b ≤ most
under_quotient a b most h = grind arith

over_quotient : (a b most : ℕ) → most / suc b < a → most < a * suc b
over_quotient a b most h =
    let k : suc (most / suc b) * suc b ≤ a * suc b = mul-le-mul_right (suc b) h in
    let e : most < suc (most / suc b) * suc b = grind arith in
    omega arith

by_division : (a b most : ℕ) → (not (bit_or (flag (flag (nat_lt (divided most b) a) == 0)) (flag (b == 0)) == 0) && true) ≡ nat_le (a * b) most
by_division a zero most = grind (arith, nat_tests)
by_division a (suc b) most =
    ap (λ z. not (bit_or (flag (flag (nat_lt (most / suc b) a) == 0)) (flag z) == 0) && true) no_zero ∙ by_test (nat_lt (most / suc b) a) refl
  where
    not_le : (m n : ℕ) → n < m → nat_le m n ≡ false
    not_le m n h = grind (arith, nat_tests)

    is_le : (m n : ℕ) → m ≤ n → nat_le m n ≡ true
    is_le m n h = grind (arith, nat_tests)

    not_lt : (m n : ℕ) → nat_lt m n ≡ false → n ≤ m
    not_lt m n h = grind (arith, nat_tests)

    no_zero : (suc b == 0) ≡ false
    no_zero = grind (arith, nat_tests)

    by_test : (t : Bool) → nat_lt (most / suc b) a ≡ t → (not (bit_or (flag (flag t == 0)) (flag false) == 0) && true) ≡ nat_le (a * suc b) most
    by_test true e = sym (not_le (a * suc b) most (over_quotient a b most (ltb-true (most / suc b) a e)))
    by_test false e = sym (is_le (a * suc b) most (under_quotient a b most (not_lt (most / suc b) a e)))

neg_in : (k : ℕ) → nat_le k (2 ^ 31) ≡ nat_lt (mag (neg_ℤ (pos k))) (2 ^ 31)
neg_in zero = refl
neg_in (suc k) = grind (arith, nat_tests)

pos_in : (k : ℕ) → nat_le k (2 ^ 31 - 1) ≡ nat_lt k (2 ^ 31)
pos_in k = grind (arith, nat_tests)

is_negative : ℤ → Bool
is_negative (pos m) = false
is_negative (negsuc m) = true

below_zero : (a : ℤ) → int_lt a (pos 0) ≡ is_negative a
unfolding is_negative
below_zero (pos m) = grind (arith, nat_tests)
below_zero (negsuc m) = refl

-- the greatest magnitude is 2^31 - 1, and one more where the signs differ
in_range : (a b : ℤ) → nat_le (unsigned_abs a * unsigned_abs b) ((2 ^ 31 - 1 + bit_xor (flag (is_negative a)) (flag (is_negative b))) % 2 ^ 32) ≡ nat_lt (mag (a *ℤ b)) (2 ^ 31)
unfolding is_negative
in_range (pos m) (pos n) = pos_in (m * n)
in_range (pos m) (negsuc n) = neg_in (m * suc n)
in_range (negsuc m) (pos n) = neg_in (suc m * n)
in_range (negsuc m) (negsuc n) = pos_in (suc m * suc n)

product_word : (x y r : ℕ) → x < 2 ^ 32 → y < 2 ^ 32 → r ≡ (x * y) % 2 ^ 32 → mag (cast_signed w32 x *ℤ cast_signed w32 y) < 2 ^ 31 → cast_signed w32 x *ℤ cast_signed w32 y ≡ cast_signed w32 r
product_word x y r hx hy e h =
    sym (ap (cast_signed w32) e ∙ (wrapping_mul-bits w32 x y hx hy ∙ int_wrap_fits w32 (cast_signed w32 x *ℤ cast_signed w32 y) (record { sfits = h })))

-- the condition holds exactly where the product is in range
product_test : (x y z na nb ma mb a b d g most q l f o e : ℕ) → x < 2 ^ 32 → y < 2 ^ 32 → z ≡ 0 → na ≡ flag (is_less_signed x z) → nb ≡ flag (is_less_signed y z) → ma ≡ (2 ^ 32 - x) % 2 ^ 32 → a ≡ chosen na ma x → mb ≡ (2 ^ 32 - y) % 2 ^ 32 → b ≡ chosen nb mb y → d ≡ bit_xor na nb → g ≡ 2 ^ 31 - 1 → most ≡ (g + d) % 2 ^ 32 → q ≡ divided most b → l ≡ flag (nat_lt q a) → f ≡ flag (l == z) → o ≡ flag (y == z) → e ≡ bit_or f o → (not (e == 0) && true) ≡ nat_lt (mag (cast_signed w32 x *ℤ cast_signed w32 y)) (2 ^ 31)
product_test x y z na nb ma mb a b d g most q l f o e hx hy ez ena enb ema ea emb eb ed eg em eq el ef eo ee =
    let ka : a ≡ unsigned_abs (cast_signed w32 x) = is_magnitude x z na ma a hx ez ena ema ea in
    let kb : b ≡ unsigned_abs (cast_signed w32 y) = is_magnitude y z nb mb b hy ez enb emb eb in
    let zero_y : (y == z) ≡ (b == 0) = zero_both y z b hy ez kb in
    let ka' : na ≡ flag (is_negative (cast_signed w32 x)) = ena ∙ ap (λ z. flag (is_less_signed x z)) ez ∙ ap flag (below_zero (cast_signed w32 x)) in
    let kb' : nb ≡ flag (is_negative (cast_signed w32 y)) = enb ∙ ap (λ z. flag (is_less_signed y z)) ez ∙ ap flag (below_zero (cast_signed w32 y)) in
    let km : most ≡ (2 ^ 31 - 1 + bit_xor (flag (is_negative (cast_signed w32 x))) (flag (is_negative (cast_signed w32 y)))) % 2 ^ 32 = cc in
    let ke : e ≡ bit_or (flag (flag (nat_lt (divided most b) a) == 0)) (flag (b == 0)) = cc in
    ap (λ e. not (e == 0) && true) ke ∙ (by_division a b most ∙ (ap (λ a. nat_le (a * b) most) ka ∙ (ap (λ b. nat_le (unsigned_abs (cast_signed w32 x) * b) most) kb ∙ (ap (λ m. nat_le (unsigned_abs (cast_signed w32 x) * unsigned_abs (cast_signed w32 y)) m) km ∙ in_range (cast_signed w32 x) (cast_signed w32 y)))))
  where
    zero_both : (y z b : ℕ) → y < 2 ^ 32 → z ≡ 0 → b ≡ unsigned_abs (cast_signed w32 y) → (y == z) ≡ (b == 0)
    zero_both y z b h e k = grind (arith, ints, nat_tests)

pub int_product : (input at : ℕ → ℕ) (a b : ℕ) → at a < 2 ^ 32 → at b < 2 ^ 32 → Always input at (spec.product_term ty.Int a b) (Stands at (c.int (cast_signed w32 (at a) *ℤ cast_signed w32 (at b))) ty.Int)
int_product input at a b ha hb r er z ez na ena nb enb ma ema A eA mb emb B eB d ed g eg most em q eq l el f ef o eo e ee =
    let product : ℤ = cast_signed w32 (at a) *ℤ cast_signed w32 (at b) in
    let test : (not (at e == 0) && true) ≡ nat_lt (mag product) (2 ^ 31) = product_test (at a) (at b) (at z) (at na) (at nb) (at ma) (at mb) (at A) (at B) (at d) (at g) (at most) (at q) (at l) (at f) (at o) (at e) ha hb ez ena enb ema eA emb eB ed eg em eq el ef eo ee in
    stands at (c.int product) (judged_term ty.Int r (e ∷ [])) (judged_int product (at r) (not (at e == 0) && true) (λ h. ltb-true (mag product) (2 ^ 31) (sym test ∙ h)) (λ h. test ∙ lt-ltb (mag product) (2 ^ 31) h) (product_word (at a) (at b) (at r) ha hb er))

pub unsigned_product : (input at : ℕ → ℕ) (a b : ℕ) → Always input at (spec.product_term ty.Unsigned a b) (Stands at (c.wrapped_unsigned (at a * at b)) ty.Unsigned)
unsigned_product input at a b r er =
    stands at (c.wrapped_unsigned (at a * at b)) (sure ty.Unsigned r) (ap (λ n. Some (Unsigned n)) (sym er))
