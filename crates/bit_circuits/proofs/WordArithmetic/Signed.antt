-- Quotients and remainders of signed words: magnitudes and signs.
use Rattle.std.proofs.Common.{◌≡◌, ◌==◌, ℕ, zero, suc, ◌+◌, ◌-◌, ◌*◌, ◌/◌, ◌%◌, ◌^◌, ◌<◌, ◌≤◌, ◌⊎◌, inl, inr, ℤ, pos, negsuc, neg_ℤ, Bool, true, false, not, cond, List, [], ◌∷◌, map, length, unsigned_abs, int_div, int_rem, refl, sym, ap, ◌∙◌, subst, arith}
use Rattle.std.specs.Int.{cast_signed, cast_unsigned, w32}
use Rattle.std.proofs.Math.Nat.{div-le_self, mod-le}
use Rattle.std.proofs.lemmas.Bool.{le-ltb}
use Rattle.std.proofs.lemmas.Int.{ints}
use mir.Val.{sel}
use Rattle.bv_term.specs.Words.{flag, word_quotient as divided, word_remainder as left_over, signed_quotient as divided_signed, signed_remainder as left_over_signed}
use Rattle.bit_circuits.specs.declared.gate.Gate.TheVariants as gates
use Rattle.bit_circuits.specs.Gates.{gate_value, exclusive_or}
use Rattle.bit_circuits.specs.Words.{word_value, top, lower, choose, negate, negate_if, magnitude, quotient_bits, remainder_bits, quotient_signed, remainder_signed}
use Rattle.bit_circuits.proofs.Circuits.Building.{IsBelow, Below, Builds, IsBit, IsWord, IsTruth, done-builds, gate-builds, then-builds, weaker-builds, IsBelow-later, Below-later}
use Rattle.bit_circuits.proofs.WordArithmetic.Values.{word_value-lt, length-lower, word_value-lower, IsBelow-top}
use Rattle.bit_circuits.proofs.WordArithmetic.Bitwise.{choose-builds}
use Rattle.bit_circuits.proofs.WordArithmetic.Adding.{negate-builds, word-same}
use Rattle.bit_circuits.proofs.WordArithmetic.Quotients.{quotient_bits-builds, remainder_bits-builds}

-- 2^32 less the number, as a word
abbrev pub negated : ℕ → ℕ
negated x = (2 ^ 32 - x) % 2 ^ 32

-- the sign and the magnitude of a word
abbrev pub SignedAs : Bool → ℕ → ℕ → Type 0
SignedAs false x m = (cast_signed w32 x ≡ pos m) × (x ≡ m) × (m < 2 ^ 31)
SignedAs true x m = (k : ℕ) × (m ≡ suc k) × (cast_signed w32 x ≡ negsuc k) × (x + m ≡ 2 ^ 32) × (m ≤ 2 ^ 31)

negative_is : (x : ℕ) → 2 ^ 31 ≤ x → cast_signed w32 x ≡ negsuc (2 ^ 32 - suc x)
negative_is x h = ap (λ b. sel b (pos x) (negsuc (2 ^ 32 - suc x))) (le-ltb x (2 ^ 31) h)

signed_as : (t : Bool) (low x : ℕ) → low < 2 ^ 31 → x ≡ low + 2 ^ 31 * flag t → SignedAs t x (cond t (negated x) x)
signed_as false low x h e = (omega (arith, ints), refl, omega arith)
signed_as true low x h e = (2 ^ 32 - suc x, omega arith, negative_is x (omega arith), omega arith, omega arith)

negated_is : (q : ℕ) → q ≤ 2 ^ 31 → negated q ≡ cast_unsigned w32 (neg_ℤ (pos q))
negated_is zero h = refl
negated_is (suc q) h = omega arith

divided-le : (m n : ℕ) → divided m n ≤ m
divided-le m zero = omega arith
divided-le m (suc n) = div-le_self m (suc n)

left_over-le : (m n : ℕ) → left_over m n ≤ m
left_over-le m zero = omega arith
left_over-le m (suc n) = mod-le m (suc n)

quotient_cases : (t u : Bool) (x y m n : ℕ) → SignedAs t x m → SignedAs u y n → cond (exclusive_or t u) (negated (divided m n)) (divided m n) ≡ divided_signed x y
quotient_cases false false x zero m n a b = ap (divided m) (sym b.1)
quotient_cases true false x zero m n a b = ap (λ k. negated (divided m k)) (sym b.1)
quotient_cases false true x zero m n a b = absurd (omega arith)
quotient_cases true true x zero m n a b = absurd (omega arith)
quotient_cases false false x (suc y) m n a b =
    ap (divided m) (sym b.1) ∙ sym (ap (λ z. cast_unsigned w32 (int_div z (cast_signed w32 (suc y)))) a.0 ∙ ap (λ z. cast_unsigned w32 (int_div (pos m) z)) (b.0 ∙ ap (λ k. pos k) (sym b.1)))
quotient_cases true false x (suc y) m n a b =
    negated_is (divided m n) (omega (arith, divided-le m n, a.4)) ∙ ap (λ k. cast_unsigned w32 (neg_ℤ (pos (divided m k)))) (sym b.1) ∙ ap (λ k. cast_unsigned w32 (neg_ℤ (pos (k / suc y)))) a.1
    ∙ sym (ap (λ z. cast_unsigned w32 (int_div z (cast_signed w32 (suc y)))) a.2 ∙ ap (λ z. cast_unsigned w32 (int_div (negsuc a.0) z)) (b.0 ∙ ap (λ k. pos k) (sym b.1)))
quotient_cases false true x (suc y) m n a b =
    negated_is (divided m n) (omega (arith, divided-le m n, a.2)) ∙ ap (λ k. cast_unsigned w32 (neg_ℤ (pos (divided m k)))) b.1
    ∙ sym (ap (λ z. cast_unsigned w32 (int_div z (cast_signed w32 (suc y)))) a.0 ∙ ap (λ z. cast_unsigned w32 (int_div (pos m) z)) b.2)
quotient_cases true true x (suc y) m n a b =
    ap (λ k. divided m k) b.1 ∙ ap (λ k. k / suc b.0) a.1
    ∙ sym (ap (λ z. cast_unsigned w32 (int_div z (cast_signed w32 (suc y)))) a.2 ∙ ap (λ z. cast_unsigned w32 (int_div (negsuc a.0) z)) b.2)

-- the magnitude of a divisor that is not 0
divisor_cases : (u : Bool) (y n : ℕ) → SignedAs u (suc y) n → (k : ℕ) × (n ≡ suc k) × (unsigned_abs (cast_signed w32 (suc y)) ≡ suc k)
divisor_cases false y n b = (y, sym b.1, ap unsigned_abs b.0 ∙ sym b.1)
divisor_cases true y n b = (b.0, b.1, ap unsigned_abs b.2)

remainder_cases : (t u : Bool) (x y m n : ℕ) → SignedAs t x m → SignedAs u y n → cond t (negated (left_over m n)) (left_over m n) ≡ left_over_signed x y
remainder_cases false false x zero m n a b = ap (left_over m) (sym b.1) ∙ sym a.1
remainder_cases true false x zero m n a b = ap (λ k. negated (left_over m k)) (sym b.1) ∙ omega arith
remainder_cases false true x zero m n a b = absurd (omega arith)
remainder_cases true true x zero m n a b = absurd (omega arith)
remainder_cases false u x (suc y) m n a b =
    let d = divisor_cases u y n b in
    ap (left_over m) d.1
    ∙ sym (ap (λ z. cast_unsigned w32 (int_rem z (cast_signed w32 (suc y)))) a.0 ∙ ap (λ k. m % k) d.2)
remainder_cases true u x (suc y) m n a b =
    let d = divisor_cases u y n b in
    negated_is (left_over m n) (omega (arith, left_over-le m n, a.4)) ∙ ap (λ k. cast_unsigned w32 (neg_ℤ (pos (left_over m k)))) d.1 ∙ ap (λ k. cast_unsigned w32 (neg_ℤ (pos (k % suc d.0)))) a.1
    ∙ sym (ap (λ z. cast_unsigned w32 (int_rem z (cast_signed w32 (suc y)))) a.2 ∙ ap (λ k. cast_unsigned w32 (neg_ℤ (pos (suc a.0 % k)))) d.2)

-- ---- the circuits

negate_if-builds : (v : ℤ → Bool) (G : Type 0) (n : ℕ) (c : ℤ) (xs : List ℤ) → 1 < n → IsTruth v G → IsBelow n c → Below n xs → length xs ≡ 32
    → Builds v G n (negate_if c xs) (IsWord v G 32 (cond (v c) (negated (word_value v xs)) (word_value v xs)))
unfolding negate_if
negate_if-builds v G n c xs some t bc bx wide =
    then-builds _ (negate-builds v G n xs some t bx) (λ n1 le1 ns w.
    weaker-builds (choose-builds v G n1 c ns xs (omega arith) (IsBelow-later le1 bc) w.scope (Below-later n n1 xs le1 bx) w.wide) (λ n2 le2 ls wl. record {
      scope = wl.scope;
      wide = wl.wide ∙ w.wide ∙ wide;
      value = λ given. wl.value given ∙ ap (λ k. cond (v c) k (word_value v xs)) (w.value given ∙ ap (λ k. (2 ^ k - word_value v xs) % 2 ^ k) wide);
    }))

pub word_signed : (v : ℤ → Bool) (xs : List ℤ) → length xs ≡ 32 → SignedAs (v (top xs)) (word_value v xs) (cond (v (top xs)) (negated (word_value v xs)) (word_value v xs))
word_signed v xs wide =
    let small : word_value v (lower xs) < 2 ^ 31 = subst (λ j. word_value v (lower xs) < 2 ^ j) (length-lower 31 xs wide) (word_value-lt v (lower xs)) in
    signed_as (v (top xs)) (word_value v (lower xs)) (word_value v xs) small (word_value-lower v 31 xs wide)

-- the magnitude of a word
abbrev pub mag_of : (ℤ → Bool) → List ℤ → ℕ
mag_of v xs = cond (v (top xs)) (negated (word_value v xs)) (word_value v xs)

magnitude-builds : (v : ℤ → Bool) (G : Type 0) (n : ℕ) (xs : List ℤ) → 1 < n → IsTruth v G → Below n xs → length xs ≡ 32 → Builds v G n (magnitude xs) (IsWord v G 32 (mag_of v xs))
unfolding magnitude
magnitude-builds v G n xs some t bx wide = negate_if-builds v G n (top xs) xs some t (IsBelow-top n xs some bx) bx wide

pub quotient_signed-builds : (v : ℤ → Bool) (G : Type 0) (n : ℕ) (xs ds : List ℤ) → 1 < n → IsTruth v G → Below n xs → Below n ds → length xs ≡ 32 → length ds ≡ 32
    → Builds v G n (quotient_signed xs ds) (IsWord v G 32 (divided_signed (word_value v xs) (word_value v ds)))
unfolding quotient_signed
quotient_signed-builds v G n xs ds some t bx bd wx wd =
    then-builds _ (magnitude-builds v G n xs some t bx wx) (λ n1 le1 ms pa.
    then-builds _ (magnitude-builds v G n1 ds (omega arith) t (Below-later n n1 ds le1 bd) wd) (λ n2 le2 bs pb.
    then-builds _ (quotient_bits-builds v G n2 ms bs (omega arith) t (Below-later n1 n2 ms le2 pa.scope) pb.scope (omega (arith, pa.wide, pb.wide))) (λ n3 le3 q pq.
    then-builds _ (gate-builds (gates.Xor (top xs) (top ds)) (omega arith) (IsBelow-top n3 xs (omega arith) (Below-later n n3 xs (omega arith) bx), (IsBelow-top n3 ds (omega arith) (Below-later n n3 ds (omega arith) bd), tt))) (λ n4 le4 c pc.
    weaker-builds (negate_if-builds v G n4 c q (omega arith) t pc.scope (Below-later n3 n4 q le4 pq.scope) (pq.wide ∙ pa.wide)) (λ n5 le5 ls w.
    word-same (λ given.
    let eq : word_value v q ≡ divided (mag_of v xs) (mag_of v ds) = pq.value given ∙ ap (λ k. divided k (word_value v bs)) (pa.value given) ∙ ap (λ k. divided (mag_of v xs) k) (pb.value given) in
    ap (λ b. cond b (negated (word_value v q)) (word_value v q)) (pc.value given)
    ∙ ap (λ k. cond (exclusive_or (v (top xs)) (v (top ds))) (negated k) k) eq
    ∙ quotient_cases (v (top xs)) (v (top ds)) (word_value v xs) (word_value v ds) (mag_of v xs) (mag_of v ds) (word_signed v xs wx) (word_signed v ds wd)) w)))))

pub remainder_signed-builds : (v : ℤ → Bool) (G : Type 0) (n : ℕ) (xs ds : List ℤ) → 1 < n → IsTruth v G → Below n xs → Below n ds → length xs ≡ 32 → length ds ≡ 32
    → Builds v G n (remainder_signed xs ds) (IsWord v G 32 (left_over_signed (word_value v xs) (word_value v ds)))
unfolding remainder_signed
remainder_signed-builds v G n xs ds some t bx bd wx wd =
    then-builds _ (magnitude-builds v G n xs some t bx wx) (λ n1 le1 ms pa.
    then-builds _ (magnitude-builds v G n1 ds (omega arith) t (Below-later n n1 ds le1 bd) wd) (λ n2 le2 bs pb.
    then-builds _ (remainder_bits-builds v G n2 ms bs (omega arith) t (Below-later n1 n2 ms le2 pa.scope) pb.scope (omega (arith, pa.wide, pb.wide))) (λ n3 le3 r pr.
    weaker-builds (negate_if-builds v G n3 (top xs) r (omega arith) t (IsBelow-top n3 xs (omega arith) (Below-later n n3 xs (omega arith) bx)) pr.scope (pr.wide ∙ pb.wide)) (λ n4 le4 ls w.
    word-same (λ given.
    let eq : word_value v r ≡ left_over (mag_of v xs) (mag_of v ds) = pr.value given ∙ ap (λ k. left_over k (word_value v bs)) (pa.value given) ∙ ap (λ k. left_over (mag_of v xs) k) (pb.value given) in
    ap (λ k. cond (v (top xs)) (negated k) k) eq
    ∙ remainder_cases (v (top xs)) (v (top ds)) (word_value v xs) (word_value v ds) (mag_of v xs) (mag_of v ds) (word_signed v xs wx) (word_signed v ds wd)) w))))
