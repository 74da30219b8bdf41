-- Quotients and remainders of words: trial subtraction.
use Rattle.std.proofs.Common.{◌≡◌, ◌==◌, ℕ, zero, suc, ◌+◌, ◌-◌, ◌*◌, ◌/◌, ◌%◌, ◌^◌, ◌<◌, ◌≤◌, ℤ, pos, neg_ℤ, Bool, true, false, not, cond, List, [], ◌∷◌, map, length, refl, sym, ap, ◌∙◌, subst, arith}
use Rattle.std.proofs.Math.Nat.{pow-le-pow_right}
use Rattle.std.proofs.lemmas.Nat.{mod-mul-add, div-mul-add}
use Rattle.std.proofs.lemmas.Bool.Decides.{nat_tests}
use Rattle.bv_term.specs.Words.{flag, word_quotient as divided, word_remainder as left_over}
use Rattle.bit_circuits.specs.Words.{word_value, true_literal, false_literal, falses, top, lower, sum, choose, masked_word, any, Divided, divide, quotient_bits, remainder_bits}
use Rattle.bit_circuits.proofs.Circuits.Building.{IsBelow, Below, Builds, IsBit, IsWord, IsTruth, done-builds, gate-builds, then-builds, weaker-builds, IsBelow-later, Below-later}
use Rattle.bit_circuits.proofs.WordArithmetic.Values.{flag-lt, twice, word_value-lt, word_value-falses, length-falses, Below-falses, falsity_is, Below-neg, word_value-neg, length-neg, length-lower, word_value-lower, Below-lower, IsBelow-top, remainder_is}
use Rattle.bit_circuits.proofs.WordArithmetic.Sums.{sum-builds}
use Rattle.bit_circuits.proofs.WordArithmetic.Bitwise.{masked_word-builds, some-builds, choose-builds}
use Rattle.bit_circuits.proofs.WordArithmetic.Adding.{true_literal-below, word-same}

-- q and r are the quotient and the remainder of x by d; where d is 0, r is x
pub record IsDivision (x d q r : ℕ) : Type 0 where
  pub whole : q * d + r ≡ x
  pub small : 0 < d → r < d

pub record IsDivided (v : ℤ → Bool) (G : Type 0) (j k x d : ℕ) (n : ℕ) (both : Divided) : Type 0 where
  pub scope_quotient : Below n both.quotient
  pub scope_remainder : Below n both.remainder
  pub wide_quotient : length both.quotient ≡ j
  pub wide_remainder : length both.remainder ≡ k
  pub value : G → IsDivision x d (word_value v both.quotient) (word_value v both.remainder)

-- t says whether d fits into the rest x + 2 r
division_step : (t : Bool) (ll p d x r q xs n : ℕ) → x < 2 → ll < p → ll + p * flag t ≡ (x + 2 * r) + n + 1 → n + d + 1 ≡ p → x + 2 * xs < p → IsDivision xs d q r
    → IsDivision (x + 2 * xs) d (flag t + 2 * q) (cond t ll (x + 2 * r))
division_step true ll p d x r q xs n bit h e f g is =
    let a : ll + d ≡ x + 2 * r = omega arith in
    let b : q * d + r ≡ xs = is.whole in
    record { whole = omega arith; small = λ some. let c : r < d = is.small some in let lt : ll < d = omega arith in lt }
division_step false ll p d x r q xs n bit h e f g is =
    let a : x + 2 * r < d = omega arith in
    let b : q * d + r ≡ xs = is.whole in
    record { whole = omega arith; small = λ some. a }

rest_step : (b : Bool) (r p x q d xs l : ℕ) → x + 2 * r ≡ l + p * flag b → x + 2 * xs < p → IsDivision xs d q r → l ≡ x + 2 * r
rest_step true r p x q d xs l e h is = let b : q * d + r ≡ xs = is.whole in absurd (omega arith)
rest_step false r p x q d xs l e h is = omega arith

below_power : (a j k : ℕ) → a < 2 ^ j → j ≤ k → a < 2 ^ k
below_power a j k h le = let p : 2 ^ j ≤ 2 ^ k = pow-le-pow_right (omega arith) le in omega arith

pub divide-builds : (v : ℤ → Bool) (G : Type 0) (n : ℕ) (xs ds : List ℤ) → 1 < n → IsTruth v G → Below n xs → Below n ds → length xs ≤ length ds
    → Builds v G n (divide xs ds) (IsDivided v G (length xs) (length ds) (word_value v xs) (word_value v ds))
unfolding divide
divide-builds v G n [] ds some t bx bd le = done-builds _ (record {
  scope_quotient = tt;
  scope_remainder = Below-falses n (length ds) some;
  wide_quotient = refl;
  wide_remainder = length-falses (length ds);
  value = λ given. let none : word_value v (falses (length ds)) ≡ 0 = word_value-falses v (length ds) (falsity_is t given) in record { whole = omega arith; small = λ some. omega arith };
})
divide-builds v G n (x ∷ xs) ds some t bx bd le =
    then-builds _ (divide-builds v G n xs ds some t bx.1 bd (omega arith)) (λ n1 le1 higher ph.
    let k : ℕ = length ds in
    let grown : length (x ∷ higher.remainder) ≡ suc k = ap suc ph.wide_remainder in
    let rest = lower (x ∷ higher.remainder) in
    let wide : length rest ≡ k = length-lower k (x ∷ higher.remainder) grown in
    let br : Below n1 rest = Below-lower n1 (x ∷ higher.remainder) (IsBelow-later le1 bx.0, ph.scope_remainder) in
    then-builds _ (sum-builds v G n1 true_literal rest (map neg_ℤ ds) (omega arith) (true_literal-below (omega arith)) br (Below-neg n1 ds (Below-later n n1 ds le1 bd)) (wide ∙ sym (length-neg ds))) (λ n2 le2 s ps.
    let wides : length s ≡ suc k = ps.wide ∙ ap suc wide in
    then-builds _ (choose-builds v G n2 (top s) (lower s) rest (omega arith) (IsBelow-top n2 s (omega arith) ps.scope) (Below-lower n2 s ps.scope) (Below-later n1 n2 rest le2 br) (length-lower k s wides ∙ sym wide)) (λ n3 le3 r pr.
    done-builds _ (record {
      scope_quotient = (IsBelow-later le3 (IsBelow-top n2 s (omega arith) ps.scope), Below-later n1 n3 higher.quotient (omega arith) ph.scope_quotient);
      scope_remainder = pr.scope;
      wide_quotient = ap suc ph.wide_quotient;
      wide_remainder = pr.wide ∙ length-lower k s wides;
      value = λ given.
          let below : word_value v (x ∷ xs) < 2 ^ k = below_power (word_value v (x ∷ xs)) (length (x ∷ xs)) k (word_value-lt v (x ∷ xs)) le in
          let small : word_value v (lower s) < 2 ^ k = subst (λ j. word_value v (lower s) < 2 ^ j) (length-lower k s wides) (word_value-lt v (lower s)) in
          let eq : word_value v rest ≡ flag (v x) + 2 * word_value v higher.remainder =
          rest_step (v (top (x ∷ higher.remainder))) (word_value v higher.remainder) (2 ^ k) (flag (v x)) (word_value v higher.quotient) (word_value v ds) (word_value v xs) (word_value v rest)
          (word_value-lower v k (x ∷ higher.remainder) grown) below (ph.value given) in
          let total : word_value v (lower s) + 2 ^ k * flag (v (top s)) ≡ (flag (v x) + 2 * word_value v higher.remainder) + word_value v (map neg_ℤ ds) + 1 =
          sym (word_value-lower v k s wides) ∙ ps.value given ∙ ap (λ b. word_value v rest + word_value v (map neg_ℤ ds) + flag b) (t.one given) ∙ ap (λ z. z + word_value v (map neg_ℤ ds) + 1) eq in
          let is = division_step (v (top s)) (word_value v (lower s)) (2 ^ k) (word_value v ds) (flag (v x)) (word_value v higher.remainder) (word_value v higher.quotient) (word_value v xs) (word_value v (map neg_ℤ ds))
          (flag-lt (v x)) small total (word_value-neg v G n ds t bd) below (ph.value given) in
          subst (λ z. IsDivision (word_value v (x ∷ xs)) (word_value v ds) (flag (v (top s)) + 2 * word_value v higher.quotient) z)
          (sym (pr.value given ∙ ap (λ z. cond (v (top s)) (word_value v (lower s)) z) eq)) is;
    }))))

one_times : (q : ℕ) → 1 * q ≡ q
one_times q = omega arith

quotient_is : (x d q r : ℕ) → IsDivision x d q r → flag (not (d == 0)) * q ≡ divided x d
quotient_is x zero q r is = omega arith
quotient_is x (suc d) q r is =
    let a : q * suc d + r ≡ x = is.whole in
    let b : r < suc d = is.small (omega arith) in
    let e : (suc d == 0) ≡ false = grind (arith, nat_tests) in
    ap (λ z. flag (not z) * q) e ∙ one_times q ∙ sym (div-mul-add q (suc d) r b) ∙ ap (λ z. z / suc d) a

remainder_of : (x d q r : ℕ) → IsDivision x d q r → r ≡ left_over x d
remainder_of x zero q r is = let a : q * 0 + r ≡ x = is.whole in omega arith
remainder_of x (suc d) q r is =
    let a : q * suc d + r ≡ x = is.whole in
    let b : r < suc d = is.small (omega arith) in
    sym (mod-mul-add q (suc d) r b) ∙ ap (λ z. z % suc d) a

pub quotient_bits-builds : (v : ℤ → Bool) (G : Type 0) (n : ℕ) (xs ds : List ℤ) → 1 < n → IsTruth v G → Below n xs → Below n ds → length xs ≤ length ds
    → Builds v G n (quotient_bits xs ds) (IsWord v G (length xs) (divided (word_value v xs) (word_value v ds)))
unfolding quotient_bits
quotient_bits-builds v G n xs ds some t bx bd le =
    then-builds _ (divide-builds v G n xs ds some t bx bd le) (λ n1 le1 both pb.
    then-builds _ (some-builds v G n1 ds (omega arith) t (Below-later n n1 ds le1 bd)) (λ n2 le2 c pc.
    weaker-builds (masked_word-builds v G n2 c both.quotient (omega arith) pc.scope (Below-later n1 n2 both.quotient le2 pb.scope_quotient)) (λ n3 le3 ls w. record {
      scope = w.scope;
      wide = w.wide ∙ pb.wide_quotient;
      value = λ given.
          w.value given ∙ ap (λ b. flag b * word_value v both.quotient) (pc.value given)
          ∙ quotient_is (word_value v xs) (word_value v ds) (word_value v both.quotient) (word_value v both.remainder) (pb.value given);
    })))

pub remainder_bits-builds : (v : ℤ → Bool) (G : Type 0) (n : ℕ) (xs ds : List ℤ) → 1 < n → IsTruth v G → Below n xs → Below n ds → length xs ≤ length ds
    → Builds v G n (remainder_bits xs ds) (IsWord v G (length ds) (left_over (word_value v xs) (word_value v ds)))
unfolding remainder_bits
remainder_bits-builds v G n xs ds some t bx bd le =
    then-builds _ (divide-builds v G n xs ds some t bx bd le) (λ n1 le1 both pb.
    done-builds both.remainder (record {
      scope = pb.scope_remainder;
      wide = pb.wide_remainder;
      value = λ given. remainder_of (word_value v xs) (word_value v ds) (word_value v both.quotient) (word_value v both.remainder) (pb.value given);
    }))
