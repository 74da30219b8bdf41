-- Gates for each bit.
use Rattle.std.proofs.Common.{◌≡◌, ◌==◌, ℕ, zero, suc, ◌+◌, ◌*◌, ◌^◌, ◌<◌, ◌≤◌, ℤ, pos, Bool, true, false, not, ◌&&◌, ◌||◌, cond, List, [], ◌∷◌, length, unsigned_abs, refl, sym, ap, ◌∙◌, subst, arith}
use Rattle.std.specs.List.{list_any}
use Rattle.std.specs.Int.Bits.{bit_and, bit_or, bit_xor, and_block, or_block, xor_block}
use Rattle.std.proofs.lemmas.Bool.Decides.{nat_tests}
use Rattle.bv_term.specs.Words.{flag}
use Rattle.plain_laws.proofs.Booleans.{or-false, or-assoc}
use Rattle.bit_circuits.specs.declared.gate.Gate.{Gate}
use Rattle.bit_circuits.specs.declared.gate.Gate.TheVariants as gates
use Rattle.bit_circuits.specs.Gates.{gate_value, exclusive_or}
use Rattle.bit_circuits.specs.Words.{word_value, each, pairwise, any, differ, choose, masked_word, if_some, false_literal}
use Rattle.bit_circuits.proofs.Circuits.Building.{IsBelow, Below, operands, Builds, IsBit, IsWord, IsTruth, done-builds, gate-builds, then-builds, weaker-builds, IsBelow-later, Below-later}
use Rattle.bit_circuits.proofs.WordArithmetic.Values.{falsity_is}

masked_step : (c b : Bool) (x : ℕ) → flag (c && b) + 2 * (flag c * x) ≡ flag c * (flag b + 2 * x)
masked_step true b x = omega arith
masked_step false b x = omega arith

pub masked_word-builds : (v : ℤ → Bool) (G : Type 0) (n : ℕ) (c : ℤ) (xs : List ℤ) → 0 < n → IsBelow n c → Below n xs → Builds v G n (masked_word c xs) (IsWord v G (length xs) (flag (v c) * word_value v xs))
unfolding masked_word each
masked_word-builds v G n c [] some bc bx = done-builds [] (record { scope = tt; wide = refl; value = λ given. omega arith })
masked_word-builds v G n c (x ∷ xs) some bc bx =
    then-builds _ (gate-builds (gates.And c x) some (bc, (bx.0, tt))) (λ n1 le1 l pl.
    then-builds _ (masked_word-builds v G n1 c xs (omega arith) (IsBelow-later le1 bc) (Below-later n n1 xs le1 bx.1)) (λ n2 le2 ls pls.
    done-builds (l ∷ ls) (record {
      scope = (IsBelow-later le2 pl.scope, pls.scope);
      wide = ap suc pls.wide;
      value = λ given.
          ap (λ b. flag b + 2 * word_value v ls) (pl.value given) ∙ ap (λ k. flag (v c && v x) + 2 * k) (pls.value given) ∙ masked_step (v c) (v x) (word_value v xs);
    })))

-- what a gate of two literals does at each bit, and what comes of that at numbers
pub record IsPairwise (v : ℤ → Bool) (n : ℕ) (g : ℤ → ℤ → Gate) (op : Bool → Bool → Bool) (f : ℕ → ℕ → ℕ) : Type 0 where
  pub scope : (m : ℕ) (x y : ℤ) → n ≤ m → IsBelow m x → IsBelow m y → Below m (operands (g x y))
  pub value : (x y : ℤ) → gate_value v (g x y) ≡ op (v x) (v y)
  pub none : f 0 0 ≡ 0
  pub more : (a b : Bool) (x y : ℕ) → flag (op a b) + 2 * f x y ≡ f (flag a + 2 * x) (flag b + 2 * y)

pub pairwise-builds : (v : ℤ → Bool) (G : Type 0) (n m : ℕ) (g : ℤ → ℤ → Gate) (op : Bool → Bool → Bool) (f : ℕ → ℕ → ℕ) (xs ys : List ℤ)
    → IsPairwise v n g op f → n ≤ m → 0 < m → Below m xs → Below m ys → length xs ≡ length ys
    → Builds v G m (pairwise g xs ys) (IsWord v G (length xs) (f (word_value v xs) (word_value v ys)))
unfolding pairwise
pairwise-builds v G n m g op f [] [] is le some bx by same = done-builds [] (record { scope = tt; wide = refl; value = λ given. sym is.none })
pairwise-builds v G n m g op f [] (y ∷ ys) is le some bx by same = absurd (omega arith)
pairwise-builds v G n m g op f (x ∷ xs) [] is le some bx by same = absurd (omega arith)
pairwise-builds v G n m g op f (x ∷ xs) (y ∷ ys) is le some bx by same =
    then-builds _ (gate-builds (g x y) some (is.scope m x y le bx.0 by.0)) (λ n1 le1 l pl.
    then-builds _ (pairwise-builds v G n n1 g op f xs ys is (omega arith) (omega arith) (Below-later m n1 xs le1 bx.1) (Below-later m n1 ys le1 by.1) (omega arith)) (λ n2 le2 ls pls.
    done-builds (l ∷ ls) (record {
      scope = (IsBelow-later le2 pl.scope, pls.scope);
      wide = ap suc pls.wide;
      value = λ given.
          ap (λ b. flag b + 2 * word_value v ls) (pl.value given ∙ is.value x y) ∙ ap (λ k. flag (op (v x) (v y)) + 2 * k) (pls.value given) ∙ is.more (v x) (v y) (word_value v xs) (word_value v ys);
    })))

chosen_step : (s a b : Bool) (x y : ℕ) → flag (cond s a b) + 2 * cond s x y ≡ cond s (flag a + 2 * x) (flag b + 2 * y)
chosen_step true a b x y = refl
chosen_step false a b x y = refl

none_chosen : (s : Bool) (x : ℕ) → cond s x x ≡ x
none_chosen true x = refl
none_chosen false x = refl

pub choose-builds : (v : ℤ → Bool) (G : Type 0) (n : ℕ) (c : ℤ) (xs ys : List ℤ) → 0 < n → IsBelow n c → Below n xs → Below n ys → length xs ≡ length ys
    → Builds v G n (choose c xs ys) (IsWord v G (length xs) (cond (v c) (word_value v xs) (word_value v ys)))
unfolding choose
choose-builds v G n c xs ys some bc bx by same =
    pairwise-builds v G n n (gates.Choice c) (λ a b. cond (v c) a b) (λ x y. cond (v c) x y) xs ys
    (record { scope = λ m x y le ix iy. (IsBelow-later le bc, (ix, (iy, tt))); value = λ x y. refl; none = none_chosen (v c) 0; more = chosen_step (v c) })
    (omega arith) some bx by same

and_bits : (a b : Bool) → bit_and (flag a) (flag b) ≡ flag (a && b)
and_bits true true = refl
and_bits true false = refl
and_bits false true = refl
and_bits false false = refl

or_bits : (a b : Bool) → bit_or (flag a) (flag b) ≡ flag (a || b)
or_bits true true = refl
or_bits true false = refl
or_bits false true = refl
or_bits false false = refl

xor_bits : (a b : Bool) → bit_xor (flag a) (flag b) ≡ flag (exclusive_or a b)
xor_bits true true = refl
xor_bits true false = refl
xor_bits false true = refl
xor_bits false false = refl

block : (b : Bool) (x : ℕ) → flag b + 2 * x ≡ x * 2 ^ 1 + flag b
block b x = omega arith

small : (b : Bool) → flag b < 2 ^ 1
small true = omega arith
small false = omega arith

module _ (f : ℕ → ℕ → ℕ) (op : Bool → Bool → Bool) (blocks : (a b r s : ℕ) → r < 2 ^ 1 → s < 2 ^ 1 → f (a * 2 ^ 1 + r) (b * 2 ^ 1 + s) ≡ f a b * 2 ^ 1 + f r s) (bits : (a b : Bool) → f (flag a) (flag b) ≡ flag (op a b)) where
  by_blocks : (a b : Bool) (x y : ℕ) → flag (op a b) + 2 * f x y ≡ f (flag a + 2 * x) (flag b + 2 * y)
  by_blocks a b x y =
      let e : f (flag a + 2 * x) (flag b + 2 * y) ≡ f (x * 2 ^ 1 + flag a) (y * 2 ^ 1 + flag b) = ap (λ k. f k (flag b + 2 * y)) (block a x) ∙ ap (λ k. f (x * 2 ^ 1 + flag a) k) (block b y) in
      block (op a b) (f x y) ∙ ap (λ k. f x y * 2 ^ 1 + k) (sym (bits a b)) ∙ sym (blocks x y (flag a) (flag b) (small a) (small b)) ∙ sym e

pub and-builds : (v : ℤ → Bool) (G : Type 0) (n : ℕ) (xs ys : List ℤ) → 0 < n → Below n xs → Below n ys → length xs ≡ length ys
    → Builds v G n (pairwise (λ l m. gates.And l m) xs ys) (IsWord v G (length xs) (bit_and (word_value v xs) (word_value v ys)))
and-builds v G n xs ys some bx by same =
    pairwise-builds v G n n (λ l m. gates.And l m) (λ a b. a && b) bit_and xs ys
    (record { scope = λ m x y le ix iy. (ix, (iy, tt)); value = λ x y. refl; none = refl; more = by_blocks bit_and (λ a b. a && b) (and_block 1) and_bits })
    (omega arith) some bx by same

pub or-builds : (v : ℤ → Bool) (G : Type 0) (n : ℕ) (xs ys : List ℤ) → 0 < n → Below n xs → Below n ys → length xs ≡ length ys
    → Builds v G n (pairwise (λ l m. gates.Or l m) xs ys) (IsWord v G (length xs) (bit_or (word_value v xs) (word_value v ys)))
or-builds v G n xs ys some bx by same =
    pairwise-builds v G n n (λ l m. gates.Or l m) (λ a b. a || b) bit_or xs ys
    (record { scope = λ m x y le ix iy. (ix, (iy, tt)); value = λ x y. refl; none = refl; more = by_blocks bit_or (λ a b. a || b) (or_block 1) or_bits })
    (omega arith) some bx by same

pub xor-builds : (v : ℤ → Bool) (G : Type 0) (n : ℕ) (xs ys : List ℤ) → 0 < n → Below n xs → Below n ys → length xs ≡ length ys
    → Builds v G n (pairwise (λ l m. gates.Xor l m) xs ys) (IsWord v G (length xs) (bit_xor (word_value v xs) (word_value v ys)))
xor-builds v G n xs ys some bx by same =
    pairwise-builds v G n n (λ l m. gates.Xor l m) exclusive_or bit_xor xs ys
    (record { scope = λ m x y le ix iy. (ix, (iy, tt)); value = λ x y. refl; none = refl; more = by_blocks bit_xor exclusive_or (xor_block 1) xor_bits })
    (omega arith) some bx by same

-- ---- a bit over a whole word

pub any-builds : (v : ℤ → Bool) (G : Type 0) (n : ℕ) (c : ℤ) (xs : List ℤ) → 0 < n → IsBelow n c → Below n xs → Builds v G n (any c xs) (IsBit v G (v c || list_any v xs))
unfolding any
any-builds v G n c [] some bc bx = done-builds c (record { scope = bc; value = λ given. sym (or-false (v c)) })
any-builds v G n c (x ∷ xs) some bc bx =
    then-builds _ (gate-builds (gates.Or c x) some (bc, (bx.0, tt))) (λ n1 le1 d pd.
    weaker-builds (any-builds v G n1 d xs (omega arith) pd.scope (Below-later n n1 xs le1 bx.1)) (λ n2 le2 l pl. record {
      scope = pl.scope;
      value = λ given. pl.value given ∙ ap (λ b. b || list_any v xs) (pd.value given) ∙ or-assoc (v c) (v x) (list_any v xs);
    }))

some_step : (b r : Bool) (x : ℕ) → r ≡ not (x == 0) → (b || r) ≡ not (flag b + 2 * x == 0)
some_step true r x h = grind (arith, nat_tests)
some_step false r x h = h ∙ grind (arith, nat_tests)

-- some bit is true exactly where the number is not 0
pub list_any-word : (v : ℤ → Bool) (xs : List ℤ) → list_any v xs ≡ not (word_value v xs == 0)
list_any-word v [] = refl
list_any-word v (x ∷ xs) = some_step (v x) (list_any v xs) (word_value v xs) (list_any-word v xs)

-- whether a word is not 0
pub some-builds : (v : ℤ → Bool) (G : Type 0) (n : ℕ) (xs : List ℤ) → 1 < n → IsTruth v G → Below n xs → Builds v G n (any false_literal xs) (IsBit v G (not (word_value v xs == 0)))
some-builds v G n xs some t bx =
    weaker-builds (any-builds v G n false_literal xs (omega arith) (record { some = omega arith; below = omega arith }) bx) (λ m le l pl. record {
      scope = pl.scope;
      value = λ given. pl.value given ∙ ap (λ b. b || list_any v xs) (falsity_is t given) ∙ list_any-word v xs;
    })

differ_step : (c a b : Bool) (x y : ℕ) → ((c || exclusive_or a b) || not (x == y)) ≡ (c || not (flag a + 2 * x == flag b + 2 * y))
differ_step true a b x y = refl
differ_step false true true x y = grind (arith, nat_tests)
differ_step false true false x y = grind (arith, nat_tests)
differ_step false false true x y = grind (arith, nat_tests)
differ_step false false false x y = grind (arith, nat_tests)

pub differ-builds : (v : ℤ → Bool) (G : Type 0) (n : ℕ) (c : ℤ) (xs ys : List ℤ) → 0 < n → IsBelow n c → Below n xs → Below n ys → length xs ≡ length ys
    → Builds v G n (differ c xs ys) (IsBit v G (v c || not (word_value v xs == word_value v ys)))
unfolding differ
differ-builds v G n c [] [] some bc bx by same = done-builds c (record { scope = bc; value = λ given. sym (or-false (v c)) })
differ-builds v G n c [] (y ∷ ys) some bc bx by same = absurd (omega arith)
differ-builds v G n c (x ∷ xs) [] some bc bx by same = absurd (omega arith)
differ-builds v G n c (x ∷ xs) (y ∷ ys) some bc bx by same =
    then-builds _ (gate-builds (gates.Xor x y) some (bx.0, (by.0, tt))) (λ n1 le1 d pd.
    then-builds _ (gate-builds (gates.Or c d) (omega arith) (IsBelow-later le1 bc, (pd.scope, tt))) (λ n2 le2 e pe.
    weaker-builds (differ-builds v G n2 e xs ys (omega arith) pe.scope (Below-later n n2 xs (omega arith) bx.1) (Below-later n n2 ys (omega arith) by.1) (omega arith)) (λ n3 le3 l pl. record {
      scope = pl.scope;
      value = λ given.
          pl.value given ∙ ap (λ b. b || not (word_value v xs == word_value v ys)) (pe.value given ∙ ap (λ b. v c || b) (pd.value given)) ∙ differ_step (v c) (v x) (v y) (word_value v xs) (word_value v ys);
    })))
