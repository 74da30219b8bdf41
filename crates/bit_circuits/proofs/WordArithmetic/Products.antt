-- Products of words: shifted rows, summed.
use Rattle.std.proofs.Common.{◌≡◌, ℕ, zero, suc, ◌+◌, ◌*◌, ◌%◌, ◌^◌, ◌<◌, ◌≤◌, ℤ, pos, Bool, List, [], ◌∷◌, length, drop, refl, sym, ap, ◌∙◌, subst, arith}
use Rattle.std.specs.List.{slice_index_or}
use Rattle.bv_term.specs.Words.{flag}
use Rattle.bit_circuits.specs.Words.{word_value, true_literal, false_literal, falses, top, lower, sum, masked_word, rows, multiply}
use Rattle.bit_circuits.proofs.Circuits.Building.{IsBelow, Below, Builds, IsBit, IsWord, IsTruth, done-builds, gate-builds, then-builds, weaker-builds, IsBelow-later, Below-later}
use Rattle.bit_circuits.proofs.WordArithmetic.Values.{flag-lt, twice, word_value-lt, word_value-falses, length-falses, Below-falses, falsity_is, length-lower, word_value-lower, Below-lower, remainder_is}
use Rattle.bit_circuits.proofs.WordArithmetic.Sums.{sum-builds}
use Rattle.bit_circuits.proofs.WordArithmetic.Bitwise.{masked_word-builds}
use Rattle.bit_circuits.proofs.WordArithmetic.Adding.{false_literal-below, word-same}
use Rattle.bit_circuits.proofs.Circuits.Widths.{length-rest}

-- a word of this width that writes x but for what is above the width
pub record IsLowWord (v : ℤ → Bool) (G : Type 0) (width x : ℕ) (n : ℕ) (ls : List ℤ) : Type 0 where
  pub scope : Below n ls
  pub wide : length ls ≡ width
  pub value : G → (q : ℕ) × (word_value v ls + 2 ^ width * q ≡ x)

-- r is what the rows above leave, s the sum so far and the first row (its bits s0, then s1, then the carry), x the word (its
-- bits x1, then the highest), y the word that it is multiplied by
product_step : (r q s0 s1 sc x x1 xt so y0 y1 p p2 : ℕ) → p2 ≡ 2 * p → s0 + 2 * (s1 + p * sc) ≡ so + y0 * x → x ≡ x1 + p * xt
    → r + p * q ≡ s1 + x1 * y1 → s0 + 2 * r + p2 * (q + sc + xt * y1) ≡ so + x * (y0 + 2 * y1)
product_step r q s0 s1 sc x x1 xt so y0 y1 p p2 e f g h =
    subst (λ z. s0 + 2 * r + z * (q + sc + xt * y1) ≡ so + x * (y0 + 2 * y1)) (sym e)
    (let a : s0 + 2 * r + 2 * p * (q + sc + xt * y1) ≡ s0 + 2 * (r + p * q) + 2 * (p * sc) + 2 * (p * xt * y1) = omega arith in
    let b : s0 + 2 * (r + p * q) + 2 * (p * sc) + 2 * (p * xt * y1) ≡ s0 + 2 * (s1 + x1 * y1) + 2 * (p * sc) + 2 * (p * xt * y1) = ap (λ z. s0 + 2 * z + 2 * (p * sc) + 2 * (p * xt * y1)) h in
    let c : s0 + 2 * (s1 + x1 * y1) + 2 * (p * sc) + 2 * (p * xt * y1) ≡ (s0 + 2 * (s1 + p * sc)) + 2 * ((x1 + p * xt) * y1) = omega arith in
    let d : (s0 + 2 * (s1 + p * sc)) + 2 * ((x1 + p * xt) * y1) ≡ (so + y0 * x) + 2 * (x * y1) = ap (λ z. z + 2 * ((x1 + p * xt) * y1)) f ∙ ap (λ z. (so + y0 * x) + 2 * (z * y1)) (sym g) in
    let k : (so + y0 * x) + 2 * (x * y1) ≡ so + x * (y0 + 2 * y1) = omega arith in
    a ∙ b ∙ c ∙ d ∙ k)

-- ---- the lowest bit, and those above it

word_value-first : (v : ℤ → Bool) (k : ℕ) (s : List ℤ) → length s ≡ suc k → word_value v s ≡ flag (v (slice_index_or s 0 false_literal)) + 2 * word_value v (drop 1 s)
word_value-first v k [] h = absurd (omega arith)
word_value-first v k (l ∷ ls) h = refl

IsBelow-first : (n k : ℕ) (s : List ℤ) → length s ≡ suc k → Below n s → IsBelow n (slice_index_or s 0 false_literal)
IsBelow-first n k [] h b = absurd (omega arith)
IsBelow-first n k (l ∷ ls) h b = b.0

Below-rest : (n : ℕ) (s : List ℤ) → Below n s → Below n (drop 1 s)
Below-rest n [] b = tt
Below-rest n (l ∷ ls) b = b.1

pub rows-builds : (v : ℤ → Bool) (G : Type 0) (n : ℕ) (so_far xs ys : List ℤ) → 1 < n → IsTruth v G → Below n so_far → Below n xs → Below n ys
    → length so_far ≡ length ys → length xs ≡ length ys
    → Builds v G n (rows so_far xs ys) (IsLowWord v G (length ys) (word_value v so_far + word_value v xs * word_value v ys))
unfolding rows
rows-builds v G n so_far xs [] some t bs bx by ws wx = done-builds [] (record { scope = tt; wide = refl; value = λ given. (word_value v so_far + word_value v xs * 0, omega arith) })
rows-builds v G n so_far xs (y ∷ ys) some t bs bx by ws wx =
    then-builds _ (masked_word-builds v G n y xs (omega arith) by.0 bx) (λ n1 le1 row prow.
    then-builds _ (sum-builds v G n1 false_literal so_far row (omega arith) (false_literal-below (omega arith)) (Below-later n n1 so_far le1 bs) prow.scope (ws ∙ sym wx ∙ sym prow.wide)) (λ n2 le2 s ps.
    let wide : length s ≡ suc (suc (length ys)) = ps.wide ∙ ap suc ws in
    let rest : length (drop 1 s) ≡ suc (length ys) = length-rest (suc (length ys)) s wide in
    let le : n ≤ n2 = omega arith in
    then-builds _ (rows-builds v G n2 (lower (drop 1 s)) (lower xs) ys (omega arith) t (Below-lower n2 (drop 1 s) (Below-rest n2 s ps.scope)) (Below-lower n2 xs (Below-later n n2 xs le bx)) (Below-later n n2 ys le by.1)
    (length-lower (length ys) (drop 1 s) rest) (length-lower (length ys) xs wx)) (λ n3 le3 ls pls.
    done-builds (slice_index_or s 0 false_literal ∷ ls) (record {
      scope = (IsBelow-later le3 (IsBelow-first n2 (suc (length ys)) s wide ps.scope), pls.scope);
      wide = ap suc pls.wide;
      value = λ given.
          let higher = pls.value given in
          let total : word_value v s ≡ word_value v so_far + flag (v y) * word_value v xs =
          ps.value given ∙ ap (λ b. word_value v so_far + word_value v row + flag b) (falsity_is t given) ∙ ap (λ k. word_value v so_far + k + 0) (prow.value given) ∙ omega arith in
          let s0 = flag (v (slice_index_or s 0 false_literal)) in
          let s1 = word_value v (lower (drop 1 s)) in
          let sc = flag (v (top (drop 1 s))) in
          let parts : s0 + 2 * (s1 + 2 ^ length ys * sc) ≡ word_value v so_far + flag (v y) * word_value v xs =
          ap (λ k. s0 + 2 * k) (sym (word_value-lower v (length ys) (drop 1 s) rest)) ∙ sym (word_value-first v (suc (length ys)) s wide) ∙ total in (
            higher.0 + sc + flag (v (top xs)) * word_value v ys,
            product_step (word_value v ls) higher.0 s0 s1 sc (word_value v xs) (word_value v (lower xs)) (flag (v (top xs))) (word_value v so_far) (flag (v y)) (word_value v ys)
                (2 ^ length ys) (2 ^ length (y ∷ ys)) (twice (length ys)) parts (word_value-lower v (length ys) xs wx) higher.1,
          );
    }))))

pub multiply-builds : (v : ℤ → Bool) (G : Type 0) (n : ℕ) (xs ys : List ℤ) → 1 < n → IsTruth v G → Below n xs → Below n ys → length xs ≡ length ys
    → Builds v G n (multiply xs ys) (IsWord v G (length xs) ((word_value v xs * word_value v ys) % 2 ^ length xs))
unfolding multiply
multiply-builds v G n xs ys some t bx by same =
    weaker-builds (rows-builds v G n (falses (length xs)) xs ys some t (Below-falses n (length xs) some) bx by (length-falses (length xs) ∙ same) same) (λ m le ls w. record {
      scope = w.scope;
      wide = w.wide ∙ sym same;
      value = λ given.
          let low = w.value given in
          let small : word_value v ls < 2 ^ length xs = subst (λ k. word_value v ls < 2 ^ k) (w.wide ∙ sym same) (word_value-lt v ls) in
          let none : word_value v (falses (length xs)) ≡ 0 = word_value-falses v (length xs) (falsity_is t given) in
          remainder_is (2 ^ length xs) (word_value v ls) low.0 (word_value v xs * word_value v ys) small
          (sym (ap (λ k. word_value v ls + 2 ^ k * low.0) same ∙ low.1 ∙ ap (λ k. k + word_value v xs * word_value v ys) none ∙ omega arith));
    })
