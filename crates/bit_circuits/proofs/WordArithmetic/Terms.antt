-- The bits of terms write their values.
use Rattle.std.proofs.Common.{◌≡◌, ◌==◌, ℕ, zero, suc, ◌+◌, ◌-◌, ◌*◌, ◌/◌, ◌%◌, ◌^◌, ◌<◌, ◌≤◌, ℤ, pos, neg_ℤ, Bool, true, false, not, cond, ltb, List, [], ◌∷◌, ◌++◌, map, length, All, IsTrue, refl, sym, ap, ◌∙◌, subst, arith}
use Rattle.std.specs.Prelude.{slice_index}
use Rattle.std.specs.List.{slice_index_or}
use Rattle.std.proofs.Math.Nat.{div-add-mod, mod-lt, mod-eq_of_lt}
use Rattle.std.proofs.lemmas.Nat.{pow_pos}
use Rattle.std.proofs.lemmas.Bool.{ltb-true}
use Rattle.std.proofs.lemmas.List.Elements.{All-head, All-tail}
use Rattle.std.proofs.lemmas.Bool.Decides.{nat_tests}
use Rattle.bv_term.specs.declared.op.Op.{Op}
use Rattle.bv_term.specs.declared.op.Op.TheVariants as op
use Rattle.bv_term.specs.Words.{flag, op_word, choice as chosen}
use Rattle.bv_term.specs.Stores.{words_from}
use Rattle.bit_circuits.specs.Fitting.{IsOver}
use Rattle.bit_circuits.specs.Words.{word_value, true_literal, false_literal, falses, constant_bits, truth_word, top}
use Rattle.bit_circuits.specs.Formula.{variables_from, first_of, input_bits, bits_at, op_bits, terms_bits}
use Rattle.bit_circuits.proofs.Formulas.Fitting.{AreOver}
use Rattle.bit_circuits.proofs.Circuits.Building.{IsBelow, Below, Builds, IsBit, IsWord, IsTruth, done-builds, gate-builds, then-builds, weaker-builds, IsBelow-later, Below-later}
use Rattle.bit_circuits.proofs.WordArithmetic.Values.{flag-lt, twice, word_value-lt, word_value-falses, length-falses, Below-falses, falsity_is, Below-neg, word_value-neg, length-neg, length-constant, Below-constant}
use Rattle.bit_circuits.proofs.WordArithmetic.Bitwise.{and-builds, or-builds, xor-builds}
use Rattle.bit_circuits.proofs.WordArithmetic.Adding.{word-same, add-builds, subtract-builds, negate-builds, less-builds, less_signed-builds, equal-builds, if_some-builds}
use Rattle.bit_circuits.proofs.WordArithmetic.Products.{multiply-builds}
use Rattle.bit_circuits.proofs.WordArithmetic.Quotients.{quotient_bits-builds, remainder_bits-builds}
use Rattle.bit_circuits.proofs.WordArithmetic.Signed.{quotient_signed-builds, remainder_signed-builds}
use Rattle.bit_circuits.proofs.WordArithmetic.Shifts.{take_step, shift_up-builds, shift_unsigned-builds, shift_signed-builds}

-- ---- words with no gate

pub bit_step : (b f : Bool) (x : ℕ) → (x % 2 == 0) ≡ b → flag (not b) + 2 * (x / 2) ≡ x
bit_step true f x h = let e : x % 2 ≡ 0 = grind (arith, nat_tests) in let w : 2 * (x / 2) + x % 2 ≡ x = div-add-mod x 2 in omega arith
bit_step false f x h =
    let e : 0 < x % 2 = grind (arith, nat_tests) in
    let l : x % 2 < 2 = mod-lt x (omega arith) in
    let w : 2 * (x / 2) + x % 2 ≡ x = div-add-mod x 2 in omega arith

literal_bit : (v : ℤ → Bool) (G : Type 0) (b : Bool) → IsTruth v G → G → v (cond b false_literal true_literal) ≡ not b
literal_bit v G true t given = falsity_is t given
literal_bit v G false t given = t.one given

word_value-constant : (v : ℤ → Bool) (G : Type 0) (k x : ℕ) → IsTruth v G → G → word_value v (constant_bits k x) ≡ x % 2 ^ k
word_value-constant v G zero x t given = omega arith
word_value-constant v G (suc k) x t given =
    let b = x % 2 == 0 in
    ap (λ z. flag z + 2 * word_value v (constant_bits k (x / 2))) (literal_bit v G b t given)
    ∙ ap (λ z. flag (not b) + 2 * z) (word_value-constant v G k (x / 2) t given)
    ∙ take_step (flag (not b)) (x / 2) (2 ^ k) (2 ^ suc k) (pow_pos k) (twice k) (flag-lt (not b))
    ∙ ap (λ z. z % 2 ^ suc k) (bit_step b true x refl)

truth_word-is : (v : ℤ → Bool) (G : Type 0) (b : Bool) (n : ℕ) (l : ℤ) → 1 < n → IsTruth v G → IsBit v G b n l → IsWord v G 32 (flag b) n (truth_word 32 l)
truth_word-is v G b n l some t is = record {
  scope = (is.scope, Below-falses n 31 some);
  wide = refl;
  value = λ given. ap (λ z. flag z + 2 * word_value v (falses 31)) (is.value given) ∙ ap (λ z. flag b + 2 * z) (word_value-falses v 31 (falsity_is t given)) ∙ omega arith;
}

pub Below-variables : (m k n : ℕ) → 0 < n → n + k ≤ m → Below m (variables_from k n)
Below-variables m zero n some le = tt
Below-variables m (suc k) n some le = (record { some = some; below = omega arith }, Below-variables m k (suc n) (omega arith) (omega arith))

pub length-variables : (k n : ℕ) → length (variables_from k n) ≡ k
length-variables zero n = refl
length-variables (suc k) n = ap suc (length-variables k (suc n))

at_width : {v : ℤ → Bool} {G : Type 0} {j n : ℕ} {ls : List ℤ} (k : ℕ) (f : ℕ → ℕ) → k ≡ j → IsWord v G k (f k) n ls → IsWord v G j (f j) n ls
at_width k f e w = record { scope = w.scope; wide = w.wide ∙ e; value = λ given. w.value given ∙ ap f e }

-- ---- operators

chosen-is : (c x y : ℕ) → cond (not (c == 0)) x y ≡ chosen c x y
chosen-is zero x y = refl
chosen-is (suc c) x y = let e : (suc c == 0) ≡ false = grind (arith, nat_tests) in ap (λ z. cond (not z) x y) e

-- what is known of the words of the terms so far
pub record AreWords (v : ℤ → Bool) (G : Type 0) (inputs : ℕ) (input : ℕ → ℕ) (n : ℕ) (at : ℕ → List ℤ) : Type 0 where
  pub past : first_of inputs ≤ n
  pub scope : (t : ℕ) → Below n (at t)
  pub wide : (t : ℕ) → length (at t) ≡ 32
  pub reads : G → (k : ℕ) → k < inputs → word_value v (input_bits k) ≡ input k

pub op_bits-builds : (v : ℤ → Bool) (G : Type 0) (inputs : ℕ) (input : ℕ → ℕ) (n : ℕ) (at : ℕ → List ℤ) (o : Op) → IsTruth v G → IsOver inputs o → AreWords v G inputs input n at
    → Builds v G n (op_bits at o) (IsWord v G 32 (op_word input (λ t. word_value v (at t)) o))
unfolding op_bits
op_bits-builds v G inputs input n at (op.Input k) t over w =
    let le = w.past in
    done-builds _ (record { scope = Below-variables n 32 (first_of k) (omega arith) (omega arith); wide = length-variables 32 (first_of k); value = λ given. w.reads given k over })
op_bits-builds v G inputs input n at (op.Const k) t over w =
    done-builds _ (record { scope = Below-constant n 32 k (omega (arith, w.past)); wide = length-constant 32 k; value = λ given. word_value-constant v G 32 k t given ∙ mod-eq_of_lt over })
op_bits-builds v G inputs input n at (op.Not a) t over w =
    let e : word_value v (map neg_ℤ (at a)) + word_value v (at a) + 1 ≡ 2 ^ 32 = word_value-neg v G n (at a) t (w.scope a) ∙ ap (λ k. 2 ^ k) (w.wide a) in
    done-builds _ (record { scope = Below-neg n (at a) (w.scope a); wide = length-neg (at a) ∙ w.wide a; value = λ given. omega arith })
op_bits-builds v G inputs input n at (op.Neg a) t over w =
    weaker-builds (negate-builds v G n (at a) (omega (arith, w.past)) t (w.scope a)) (λ m le ls r. at_width (length (at a)) (λ k. (2 ^ k - word_value v (at a)) % 2 ^ k) (w.wide a) r)
op_bits-builds v G inputs input n at (op.Add a b) t over w =
    weaker-builds (add-builds v G n (at a) (at b) (omega (arith, w.past)) t (w.scope a) (w.scope b) (w.wide a ∙ sym (w.wide b))) (λ m le ls r. at_width (length (at a)) (λ k. (word_value v (at a) + word_value v (at b)) % 2 ^ k) (w.wide a) r)
op_bits-builds v G inputs input n at (op.Sub a b) t over w =
    weaker-builds (subtract-builds v G n (at a) (at b) (omega (arith, w.past)) t (w.scope a) (w.scope b) (w.wide a ∙ sym (w.wide b))) (λ m le ls r. at_width (length (at a)) (λ k. (word_value v (at a) + 2 ^ k - word_value v (at b)) % 2 ^ k) (w.wide a) r)
op_bits-builds v G inputs input n at (op.Mul a b) t over w =
    weaker-builds (multiply-builds v G n (at a) (at b) (omega (arith, w.past)) t (w.scope a) (w.scope b) (w.wide a ∙ sym (w.wide b))) (λ m le ls r. at_width (length (at a)) (λ k. word_value v (at a) * word_value v (at b) % 2 ^ k) (w.wide a) r)
op_bits-builds v G inputs input n at (op.DivU a b) t over w =
    weaker-builds (quotient_bits-builds v G n (at a) (at b) (omega (arith, w.past)) t (w.scope a) (w.scope b) (omega (arith, w.wide a, w.wide b))) (λ m le ls r. at_width (length (at a)) (λ k. op_word input (λ t. word_value v (at t)) (op.DivU a b)) (w.wide a) r)
op_bits-builds v G inputs input n at (op.RemU a b) t over w =
    weaker-builds (remainder_bits-builds v G n (at a) (at b) (omega (arith, w.past)) t (w.scope a) (w.scope b) (omega (arith, w.wide a, w.wide b))) (λ m le ls r. at_width (length (at b)) (λ k. op_word input (λ t. word_value v (at t)) (op.RemU a b)) (w.wide b) r)
op_bits-builds v G inputs input n at (op.DivS a b) t over w = quotient_signed-builds v G n (at a) (at b) (omega (arith, w.past)) t (w.scope a) (w.scope b) (w.wide a) (w.wide b)
op_bits-builds v G inputs input n at (op.RemS a b) t over w = remainder_signed-builds v G n (at a) (at b) (omega (arith, w.past)) t (w.scope a) (w.scope b) (w.wide a) (w.wide b)
op_bits-builds v G inputs input n at (op.Shl a b) t over w = shift_up-builds v G n (at a) (at b) (omega (arith, w.past)) t (w.scope a) (w.scope b) (w.wide a) (w.wide b)
op_bits-builds v G inputs input n at (op.ShrU a b) t over w = shift_unsigned-builds v G n (at a) (at b) (omega (arith, w.past)) t (w.scope a) (w.scope b) (w.wide a) (w.wide b)
op_bits-builds v G inputs input n at (op.ShrS a b) t over w = shift_signed-builds v G n (at a) (at b) (omega (arith, w.past)) (w.scope a) (w.scope b) (w.wide a) (w.wide b)
op_bits-builds v G inputs input n at (op.And a b) t over w =
    weaker-builds (and-builds v G n (at a) (at b) (omega (arith, w.past)) (w.scope a) (w.scope b) (w.wide a ∙ sym (w.wide b))) (λ m le ls r. at_width (length (at a)) (λ k. op_word input (λ t. word_value v (at t)) (op.And a b)) (w.wide a) r)
op_bits-builds v G inputs input n at (op.Or a b) t over w =
    weaker-builds (or-builds v G n (at a) (at b) (omega (arith, w.past)) (w.scope a) (w.scope b) (w.wide a ∙ sym (w.wide b))) (λ m le ls r. at_width (length (at a)) (λ k. op_word input (λ t. word_value v (at t)) (op.Or a b)) (w.wide a) r)
op_bits-builds v G inputs input n at (op.Xor a b) t over w =
    weaker-builds (xor-builds v G n (at a) (at b) (omega (arith, w.past)) (w.scope a) (w.scope b) (w.wide a ∙ sym (w.wide b))) (λ m le ls r. at_width (length (at a)) (λ k. op_word input (λ t. word_value v (at t)) (op.Xor a b)) (w.wide a) r)
op_bits-builds v G inputs input n at (op.Eq a b) t over w =
    then-builds _ (equal-builds v G n (at a) (at b) (omega (arith, w.past)) t (w.scope a) (w.scope b) (w.wide a ∙ sym (w.wide b))) (λ m le l is. done-builds _ (truth_word-is v G _ m l (omega (arith, w.past)) t is))
op_bits-builds v G inputs input n at (op.LtU a b) t over w =
    then-builds _ (less-builds v G n (at a) (at b) (omega (arith, w.past)) t (w.scope a) (w.scope b) (w.wide a ∙ sym (w.wide b))) (λ m le l is. done-builds _ (truth_word-is v G _ m l (omega (arith, w.past)) t is))
op_bits-builds v G inputs input n at (op.LtS a b) t over w =
    then-builds _ (less_signed-builds v G n (at a) (at b) (omega (arith, w.past)) t (w.scope a) (w.scope b) (w.wide a) (w.wide b)) (λ m le l is. done-builds _ (truth_word-is v G _ m l (omega (arith, w.past)) t is))
op_bits-builds v G inputs input n at (op.Ite c a b) t over w =
    weaker-builds (if_some-builds v G n (at c) (at a) (at b) (omega (arith, w.past)) t (w.scope c) (w.scope a) (w.scope b) (w.wide a ∙ sym (w.wide b))) (λ m le ls r.
    word-same (λ given. chosen-is (word_value v (at c)) (word_value v (at a)) (word_value v (at b)))
    (at_width (length (at a)) (λ k. cond (not (word_value v (at c) == 0)) (word_value v (at a)) (word_value v (at b))) (w.wide a) r))

-- ---- all terms

-- each is a word of 32 bits
abbrev pub Words : ℕ → List (List ℤ) → Type 0
Words n [] = Unit {0}
Words n (w ∷ ws) = Below n w × (length w ≡ 32) × Words n ws

pub Words-later : (m n : ℕ) (ws : List (List ℤ)) → m ≤ n → Words m ws → Words n ws
Words-later m n [] le h = tt
Words-later m n (w ∷ ws) le h = (Below-later m n w le h.0, h.1, Words-later m n ws le h.2)

pub Words-push : (n : ℕ) (ws : List (List ℤ)) (w : List ℤ) → Words n ws → Below n w → length w ≡ 32 → Words n (ws ++ w ∷ [])
Words-push n [] w h b l = (b, l, tt)
Words-push n (x ∷ ws) w h b l = (h.0, h.1, Words-push n ws w h.2 b l)

pub Below-bits_at : (n : ℕ) (ws : List (List ℤ)) (t : ℕ) → 1 < n → Words n ws → Below n (bits_at ws t)
Below-bits_at n [] t some h = Below-falses n 32 some
Below-bits_at n (w ∷ ws) zero some h = h.0
Below-bits_at n (w ∷ ws) (suc t) some h = Below-bits_at n ws t some h.2

pub length-bits_at : (n : ℕ) (ws : List (List ℤ)) (t : ℕ) → Words n ws → length (bits_at ws t) ≡ 32
length-bits_at n [] t h = refl
length-bits_at n (w ∷ ws) zero h = h.1
length-bits_at n (w ∷ ws) (suc t) h = length-bits_at n ws t h.2

pub word_value-bits_at : (v : ℤ → Bool) (ws : List (List ℤ)) (t : ℕ) → v false_literal ≡ false → word_value v (bits_at ws t) ≡ slice_index (map (word_value v) ws) t
word_value-bits_at v [] t h = word_value-falses v 32 h
word_value-bits_at v (w ∷ ws) zero h = refl
word_value-bits_at v (w ∷ ws) (suc t) h = word_value-bits_at v ws t h

pointwise_same : (f g : ℕ → ℕ) → ((t : ℕ) → f t ≡ g t) → f ≡ g
pointwise_same f g h = λ i. λ t. h t i

map-push : (v : ℤ → Bool) (ws : List (List ℤ)) (w : List ℤ) → map (word_value v) (ws ++ w ∷ []) ≡ map (word_value v) ws ++ word_value v w ∷ []
map-push v [] w = refl
map-push v (x ∷ ws) w = ap (λ ys. word_value v x ∷ ys) (map-push v ws w)

-- the words of all terms
pub record AreTerms (v : ℤ → Bool) (G : Type 0) (values : List ℕ) (n : ℕ) (out : List (List ℤ)) : Type 0 where
  pub words : Words n out
  pub value : G → map (word_value v) out ≡ values

pub terms_bits-builds : (v : ℤ → Bool) (G : Type 0) (inputs : ℕ) (input : ℕ → ℕ) (n : ℕ) (words : List (List ℤ)) (ops : List Op) → IsTruth v G → AreOver inputs ops → first_of inputs ≤ n
    → (G → (k : ℕ) → k < inputs → word_value v (input_bits k) ≡ input k) → Words n words
    → Builds v G n (terms_bits words ops) (AreTerms v G (words_from input (map (word_value v) words) ops))
unfolding terms_bits
terms_bits-builds v G inputs input n words [] t over le reads h = done-builds words (record { words = h; value = λ given. refl })
terms_bits-builds v G inputs input n words (o ∷ ops) t over le reads h =
    then-builds _ (op_bits-builds v G inputs input n (bits_at words) o t over.0 (record { past = le; scope = λ t. Below-bits_at n words t (omega arith) h; wide = λ t. length-bits_at n words t h; reads = reads })) (λ m le2 w pw.
    weaker-builds (terms_bits-builds v G inputs input m (words ++ w ∷ []) ops t over.1 (omega arith) reads (Words-push m words w (Words-later n m words le2 h) pw.scope pw.wide)) (λ k le3 out r. record {
      words = r.words;
      value = λ given.
          let same : word_value v w ≡ op_word input (slice_index (map (word_value v) words)) o =
          pw.value given ∙ ap (λ at. op_word input at o) (pointwise_same (λ t. word_value v (bits_at words t)) (slice_index (map (word_value v) words)) (λ j. word_value-bits_at v words j (falsity_is t given))) in
          r.value given ∙ ap (λ ws. words_from input ws ops) (map-push v words w ∙ ap (λ x. map (word_value v) words ++ x ∷ []) same);
    }))
