-- Sums, differences and comparisons of words.
use Rattle.std.proofs.Common.{◌≡◌, ◌==◌, ℕ, zero, suc, ◌+◌, ◌-◌, ◌*◌, ◌%◌, ◌^◌, ◌<◌, ◌≤◌, ℤ, pos, neg_ℤ, Bool, true, false, not, ◌||◌, cond, ltb, List, [], ◌∷◌, map, length, refl, sym, ap, ◌∙◌, subst, arith}
use Rattle.std.proofs.lemmas.Bool.{lt-ltb, le-ltb}
use Rattle.std.proofs.lemmas.Bool.Decides.{nat_tests}
use Rattle.std.proofs.lemmas.Int.{ints}
use Rattle.std.proofs.lemmas.Nat.{pow_pos}
use Rattle.bv_term.specs.Words.{flag, is_less_signed}
use Rattle.bit_circuits.specs.declared.gate.Gate.TheVariants as gates
use Rattle.bit_circuits.specs.Gates.{gate_value, exclusive_or, majority}
use Rattle.bit_circuits.specs.Words.{word_value, true_literal, false_literal, falses, top, lower, top_turned, sum, carry, add, subtract, negate, less, less_signed, equal, choose, if_some, any}
use Rattle.bit_circuits.proofs.Circuits.Building.{IsBelow, Below, Builds, IsBit, IsWord, IsTruth, done-builds, gate-builds, then-builds, weaker-builds, IsBelow-later, Below-later}
use Rattle.bit_circuits.proofs.WordArithmetic.Values.{flag-lt, twice, word_value-lt, word_value-falses, length-falses, Below-falses, falsity_is, IsBelow-neg, Below-neg, word_value-neg, length-neg, length-lower, word_value-lower, Below-lower, IsBelow-top, Below-turned, length-turned, word_value-turned, remainder_is}
use Rattle.bit_circuits.proofs.WordArithmetic.Sums.{adder, sum-builds}
use Rattle.bit_circuits.proofs.WordArithmetic.Bitwise.{differ-builds, some-builds, choose-builds}
use Rattle.plain_laws.proofs.Numbers.{binary_below}

pub true_literal-below : {n : ℕ} → 1 < n → IsBelow n true_literal
true_literal-below some = record { some = omega arith; below = omega arith }

pub false_literal-below : {n : ℕ} → 1 < n → IsBelow n false_literal
false_literal-below some = record { some = omega arith; below = omega arith }

-- ---- the lower bits of a sum

-- a word, one bit wider than it should be, without its highest bit
pub lower-word : (v : ℤ → Bool) (G : Type 0) (k x n : ℕ) (ls : List ℤ) → IsWord v G (suc k) x n ls → IsWord v G k (x % 2 ^ k) n (lower ls)
lower-word v G k x n ls w = record {
  scope = Below-lower n ls w.scope;
  wide = length-lower k ls w.wide;
  value = λ given.
      let small : word_value v (lower ls) < 2 ^ k = subst (λ j. word_value v (lower ls) < 2 ^ j) (length-lower k ls w.wide) (word_value-lt v (lower ls)) in
      remainder_is (2 ^ k) (word_value v (lower ls)) (flag (v (top ls))) x small (sym (w.value given) ∙ word_value-lower v k ls w.wide);
}

pub word-same : {v : ℤ → Bool} {G : Type 0} {k n x y : ℕ} {ls : List ℤ} → (G → x ≡ y) → IsWord v G k x n ls → IsWord v G k y n ls
word-same e w = record { scope = w.scope; wide = w.wide; value = λ given. w.value given ∙ e given }

pub add-builds : (v : ℤ → Bool) (G : Type 0) (n : ℕ) (xs ys : List ℤ) → 1 < n → IsTruth v G → Below n xs → Below n ys → length xs ≡ length ys
    → Builds v G n (add xs ys) (IsWord v G (length xs) ((word_value v xs + word_value v ys) % 2 ^ length xs))
unfolding add
add-builds v G n xs ys some t bx by same =
    then-builds _ (sum-builds v G n false_literal xs ys (omega arith) (false_literal-below some) bx by same) (λ m le s ps.
    done-builds (lower s) (lower-word v G (length xs) (word_value v xs + word_value v ys) m s
    (word-same (λ given. ap (λ b. word_value v xs + word_value v ys + flag b) (falsity_is t given) ∙ omega arith) ps)))

difference_step : (x y n c p : ℕ) → n + y + 1 ≡ p → c ≡ 1 → x + n + c ≡ x + p - y
difference_step x y n c p e f = omega arith

pub subtract-builds : (v : ℤ → Bool) (G : Type 0) (n : ℕ) (xs ys : List ℤ) → 1 < n → IsTruth v G → Below n xs → Below n ys → length xs ≡ length ys
    → Builds v G n (subtract xs ys) (IsWord v G (length xs) ((word_value v xs + 2 ^ length xs - word_value v ys) % 2 ^ length xs))
unfolding subtract
subtract-builds v G n xs ys some t bx by same =
    then-builds _ (sum-builds v G n true_literal xs (map neg_ℤ ys) (omega arith) (true_literal-below some) bx (Below-neg n ys by) (same ∙ sym (length-neg ys))) (λ m le s ps.
    done-builds (lower s) (lower-word v G (length xs) (word_value v xs + 2 ^ length xs - word_value v ys) m s
    (word-same (λ given. difference_step (word_value v xs) (word_value v ys) (word_value v (map neg_ℤ ys)) (flag (v true_literal)) (2 ^ length xs)
    (word_value-neg v G n ys t by ∙ ap (λ k. 2 ^ k) (sym same)) (ap flag (t.one given))) ps)))

pub negate-builds : (v : ℤ → Bool) (G : Type 0) (n : ℕ) (xs : List ℤ) → 1 < n → IsTruth v G → Below n xs
    → Builds v G n (negate xs) (IsWord v G (length xs) ((2 ^ length xs - word_value v xs) % 2 ^ length xs))
unfolding negate
negate-builds v G n xs some t bx =
    let wide : length (falses (length xs)) ≡ length xs = length-falses (length xs) in
    weaker-builds (subtract-builds v G n (falses (length xs)) xs some t (Below-falses n (length xs) some) bx wide) (λ m le ls w. record {
      scope = w.scope;
      wide = w.wide ∙ wide;
      value = λ given.
          w.value given ∙ ap (λ j. (word_value v (falses (length xs)) + 2 ^ j - word_value v xs) % 2 ^ j) wide
          ∙ ap (λ z. (z + 2 ^ length xs - word_value v xs) % 2 ^ length xs) (word_value-falses v (length xs) (falsity_is t given))
          ∙ ap (λ z. z % 2 ^ length xs) (omega arith);
    })

-- ---- comparisons

-- the carry of a sum
pub record IsCarry (v : ℤ → Bool) (G : Type 0) (k total : ℕ) (n : ℕ) (l : ℤ) : Type 0 where
  pub scope : IsBelow n l
  pub value : G → (s : ℕ) × (s < 2 ^ k) × (s + 2 ^ k * flag (v l) ≡ total)

carry_step : (s t l d x y c xs ys p q : ℕ) → q ≡ 2 * p → t + 2 * d ≡ x + y + c → s + p * l ≡ xs + ys + d → t + 2 * s + q * l ≡ (x + 2 * xs) + (y + 2 * ys) + c
carry_step s t l d x y c xs ys p q e f g = subst (λ r. t + 2 * s + r * l ≡ (x + 2 * xs) + (y + 2 * ys) + c) (sym e) (omega arith)

pub carry-builds : (v : ℤ → Bool) (G : Type 0) (n : ℕ) (c : ℤ) (xs ys : List ℤ) → 0 < n → IsBelow n c → Below n xs → Below n ys → length xs ≡ length ys
    → Builds v G n (carry c xs ys) (IsCarry v G (length xs) (word_value v xs + word_value v ys + flag (v c)))
unfolding carry
carry-builds v G n c [] [] some bc bx by same = done-builds c (record { scope = bc; value = λ given. (0, omega arith, omega arith) })
carry-builds v G n c [] (y ∷ ys) some bc bx by same = absurd (omega arith)
carry-builds v G n c (x ∷ xs) [] some bc bx by same = absurd (omega arith)
carry-builds v G n c (x ∷ xs) (y ∷ ys) some bc bx by same =
    then-builds _ (gate-builds (gates.Majority x y c) some (bx.0, (by.0, (bc, tt)))) (λ n1 le1 d pd.
    weaker-builds (carry-builds v G n1 d xs ys (omega arith) pd.scope (Below-later n n1 xs le1 bx.1) (Below-later n n1 ys le1 by.1) (omega arith)) (λ n2 le2 l pl. record {
      scope = pl.scope;
      value = λ given.
          let rest = pl.value given in
          let low = flag (exclusive_or (exclusive_or (v x) (v y)) (v c)) in
          let ed : low + 2 * flag (v d) ≡ flag (v x) + flag (v y) + flag (v c) = ap (λ b. low + 2 * flag b) (pd.value given) ∙ adder (v x) (v y) (v c) in (
            low + 2 * rest.0,
            binary_below low rest.0 (2 ^ length xs) (2 ^ length (x ∷ xs)) (flag-lt (exclusive_or (exclusive_or (v x) (v y)) (v c))) rest.1 (twice (length xs)),
            carry_step rest.0 low (flag (v l)) (flag (v d)) (flag (v x)) (flag (v y)) (flag (v c)) (word_value v xs) (word_value v ys) (2 ^ length xs) (2 ^ length (x ∷ xs)) (twice (length xs)) ed rest.2,
          );
    }))

less_step : (b : Bool) (x y n s p c : ℕ) → s < p → n + y + 1 ≡ p → c ≡ 1 → s + p * flag b ≡ x + n + c → not b ≡ ltb x y
less_step true x y n s p c h e f g = sym (le-ltb x y (omega arith))
less_step false x y n s p c h e f g = sym (lt-ltb x y (omega arith))

pub less-builds : (v : ℤ → Bool) (G : Type 0) (n : ℕ) (xs ys : List ℤ) → 1 < n → IsTruth v G → Below n xs → Below n ys → length xs ≡ length ys
    → Builds v G n (less xs ys) (IsBit v G (ltb (word_value v xs) (word_value v ys)))
unfolding less
less-builds v G n xs ys some t bx by same =
    then-builds _ (carry-builds v G n true_literal xs (map neg_ℤ ys) (omega arith) (true_literal-below some) bx (Below-neg n ys by) (same ∙ sym (length-neg ys))) (λ m le d pd.
    done-builds (neg_ℤ d) (record {
      scope = IsBelow-neg m d pd.scope;
      value = λ given.
          let total = pd.value given in
          t.opposite d pd.scope.some
          ∙ less_step (v d) (word_value v xs) (word_value v ys) (word_value v (map neg_ℤ ys)) total.0 (2 ^ length xs) (flag (v true_literal)) total.1
          (word_value-neg v G n ys t by ∙ ap (λ k. 2 ^ k) (sym same)) (ap flag (t.one given)) total.2;
    }))

turned_cases : (a b : Bool) (x y : ℕ) → x < 2 ^ 31 → y < 2 ^ 31
    → ltb (x + 2 ^ 31 * flag (not a)) (y + 2 ^ 31 * flag (not b)) ≡ is_less_signed (x + 2 ^ 31 * flag a) (y + 2 ^ 31 * flag b)
turned_cases true true x y hx hy = grind (arith, ints, nat_tests)
turned_cases true false x y hx hy = grind (arith, ints, nat_tests)
turned_cases false true x y hx hy = grind (arith, ints, nat_tests)
turned_cases false false x y hx hy = grind (arith, ints, nat_tests)

pub less_signed-builds : (v : ℤ → Bool) (G : Type 0) (n : ℕ) (xs ys : List ℤ) → 1 < n → IsTruth v G → Below n xs → Below n ys → length xs ≡ 32 → length ys ≡ 32
    → Builds v G n (less_signed xs ys) (IsBit v G (is_less_signed (word_value v xs) (word_value v ys)))
unfolding less_signed
less_signed-builds v G n xs ys some t bx by wx wy =
    weaker-builds (less-builds v G n (top_turned xs) (top_turned ys) some t (Below-turned n xs bx) (Below-turned n ys by) (length-turned xs ∙ wx ∙ sym wy ∙ sym (length-turned ys))) (λ m le l pl. record {
      scope = pl.scope;
      value = λ given.
          let lx : word_value v (lower xs) < 2 ^ 31 = subst (λ j. word_value v (lower xs) < 2 ^ j) (length-lower 31 xs wx) (word_value-lt v (lower xs)) in
          let ly : word_value v (lower ys) < 2 ^ 31 = subst (λ j. word_value v (lower ys) < 2 ^ j) (length-lower 31 ys wy) (word_value-lt v (lower ys)) in
          pl.value given
          ∙ ap (λ k. ltb k (word_value v (top_turned ys))) (word_value-turned v G n 31 xs t bx wx)
          ∙ ap (λ k. ltb (word_value v (lower xs) + 2 ^ 31 * flag (not (v (top xs)))) k) (word_value-turned v G n 31 ys t by wy)
          ∙ turned_cases (v (top xs)) (v (top ys)) (word_value v (lower xs)) (word_value v (lower ys)) lx ly
          ∙ ap (λ k. is_less_signed k (word_value v (lower ys) + 2 ^ 31 * flag (v (top ys)))) (sym (word_value-lower v 31 xs wx))
          ∙ ap (λ k. is_less_signed (word_value v xs) k) (sym (word_value-lower v 31 ys wy));
    })

not_not : (b : Bool) → not (not b) ≡ b
not_not true = refl
not_not false = refl

pub equal-builds : (v : ℤ → Bool) (G : Type 0) (n : ℕ) (xs ys : List ℤ) → 1 < n → IsTruth v G → Below n xs → Below n ys → length xs ≡ length ys
    → Builds v G n (equal xs ys) (IsBit v G (word_value v xs == word_value v ys))
unfolding equal
equal-builds v G n xs ys some t bx by same =
    then-builds _ (differ-builds v G n false_literal xs ys (omega arith) (false_literal-below some) bx by same) (λ m le d pd.
    done-builds (neg_ℤ d) (record {
      scope = IsBelow-neg m d pd.scope;
      value = λ given.
          t.opposite d pd.scope.some ∙ ap not (pd.value given ∙ ap (λ b. b || not (word_value v xs == word_value v ys)) (falsity_is t given))
          ∙ not_not (word_value v xs == word_value v ys);
    }))

pub if_some-builds : (v : ℤ → Bool) (G : Type 0) (n : ℕ) (cs xs ys : List ℤ) → 1 < n → IsTruth v G → Below n cs → Below n xs → Below n ys → length xs ≡ length ys
    → Builds v G n (if_some cs xs ys) (IsWord v G (length xs) (cond (not (word_value v cs == 0)) (word_value v xs) (word_value v ys)))
unfolding if_some
if_some-builds v G n cs xs ys some t bc bx by same =
    then-builds _ (some-builds v G n cs some t bc) (λ m le c pc.
    weaker-builds (choose-builds v G m c xs ys (omega arith) pc.scope (Below-later n m xs le bx) (Below-later n m ys le by) same) (λ k le2 ls w.
    word-same (λ given. ap (λ b. cond b (word_value v xs) (word_value v ys)) (pc.value given)) w))
