-- Sums, differences and comparisons.
use Rattle.std.proofs.Common.{◌≡◌, ℕ, suc, ◌+◌, ◌*◌, ◌<◌, ◌≤◌, ℤ, pos, neg_ℤ, Bool, true, false, not, List, [], ◌∷◌, length, unsigned_abs, refl, sym, ap, ◌∙◌, subst, arith}
use Rattle.bv_term.specs.Words.{flag}
use Rattle.bit_circuits.specs.declared.gate.Gate.TheVariants as gates
use Rattle.bit_circuits.specs.Gates.{gate_value, exclusive_or, majority}
use Rattle.bit_circuits.specs.Words.{word_value, sum, carry}
use Rattle.bit_circuits.proofs.Circuits.Building.{IsBelow, Below, Builds, IsBit, IsWord, done-builds, gate-builds, then-builds, IsBelow-later, Below-later}

-- a sum bit and a carry
pub adder : (a b c : Bool) → flag (exclusive_or (exclusive_or a b) c) + 2 * flag (majority a b c) ≡ flag a + flag b + flag c
adder true true true = refl
adder true true false = refl
adder true false true = refl
adder true false false = refl
adder false true true = refl
adder false true false = refl
adder false false true = refl
adder false false false = refl

sum_step : (s l d x y c xs ys : ℕ) → s + 2 * d ≡ x + y + c → l ≡ xs + ys + d → s + 2 * l ≡ (x + 2 * xs) + (y + 2 * ys) + c
sum_step s l d x y c xs ys e f = omega arith

pub sum-builds : (v : ℤ → Bool) (G : Type 0) (n : ℕ) (c : ℤ) (xs ys : List ℤ) → 0 < n → IsBelow n c → Below n xs → Below n ys → length xs ≡ length ys
    → Builds v G n (sum c xs ys) (IsWord v G (suc (length xs)) (word_value v xs + word_value v ys + flag (v c)))
unfolding sum
sum-builds v G n c [] [] some bc bx by same = done-builds (c ∷ []) (record { scope = (bc, tt); wide = refl; value = λ given. omega arith })
sum-builds v G n c [] (y ∷ ys) some bc bx by same = absurd (omega arith)
sum-builds v G n c (x ∷ xs) [] some bc bx by same = absurd (omega arith)
sum-builds v G n c (x ∷ xs) (y ∷ ys) some bc bx by same =
    then-builds _ (gate-builds (gates.Xor x y) some (bx.0, (by.0, tt))) (λ n1 le1 h ph.
    then-builds _ (gate-builds (gates.Xor h c) (omega arith) (ph.scope, (IsBelow-later le1 bc, tt))) (λ n2 le2 s ps.
    then-builds _ (gate-builds (gates.Majority x y c) (omega arith) (IsBelow-later (omega arith) bx.0, (IsBelow-later (omega arith) by.0, (IsBelow-later (omega arith) bc, tt)))) (λ n3 le3 d pd.
    then-builds _ (sum-builds v G n3 d xs ys (omega arith) pd.scope (Below-later n n3 xs (omega arith) bx.1) (Below-later n n3 ys (omega arith) by.1) (omega arith)) (λ n4 le4 ls pl.
    done-builds (s ∷ ls) (record {
      scope = (IsBelow-later (omega arith) ps.scope, pl.scope);
      wide = ap suc pl.wide;
      value = λ given.
          let es : flag (v s) ≡ flag (exclusive_or (exclusive_or (v x) (v y)) (v c)) = ap flag (ps.value given ∙ ap (λ b. exclusive_or b (v c)) (ph.value given)) in
          let ed : flag (v d) ≡ flag (majority (v x) (v y) (v c)) = ap flag (pd.value given) in
          sum_step (flag (v s)) (word_value v ls) (flag (v d)) (flag (v x)) (flag (v y)) (flag (v c)) (word_value v xs) (word_value v ys)
          (ap (λ k. k + 2 * flag (v d)) es ∙ ap (λ k. flag (exclusive_or (exclusive_or (v x) (v y)) (v c)) + 2 * k) ed ∙ adder (v x) (v y) (v c))
          (pl.value given);
    })))))
