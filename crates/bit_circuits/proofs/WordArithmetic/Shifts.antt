-- Shifts of words: one stage for each bit of the count.
use Rattle.std.proofs.Common.{◌≡◌, ◌==◌, ℕ, zero, suc, ◌+◌, ◌-◌, ◌*◌, ◌/◌, ◌%◌, ◌^◌, ◌<◌, ◌≤◌, ℤ, pos, negsuc, Bool, true, false, not, cond, List, [], ◌∷◌, ◌++◌, length, take, drop, replicate, refl, sym, ap, ◌∙◌, subst, length-append, length-take, length-drop, arith}
use Rattle.std.proofs.Math.Nat.{lt_of_mul-lt-mul_left, div-le_self, add-mul-mod_self_left, div-add-mod, mod-lt, mod-eq_of_lt, zero-div, div-one, pow-zero, mul_comm, mul_assoc}
use Rattle.std.proofs.lemmas.Nat.{pow_pos, pow-add, shr-shr, div-mul-add}
use Rattle.std.specs.Int.{cast_signed, cast_unsigned, w32, int_shr}
use Rattle.bv_term.specs.Words.{flag}
use Rattle.bit_circuits.specs.Words.{word_value, true_literal, false_literal, falses, top, lower, choose, moved_up, moved_down, stages, shift_up, shift_down}
use Rattle.bit_circuits.proofs.Circuits.Building.{IsBelow, Below, Builds, IsBit, IsWord, IsTruth, done-builds, gate-builds, then-builds, weaker-builds, IsBelow-later, Below-later}
use Rattle.bit_circuits.proofs.WordArithmetic.Values.{flag-lt, twice, word_value-lt, word_value-append, word_value-falses, length-falses, Below-falses, falsity_is, length-lower, word_value-lower, IsBelow-top, remainder_is}
use Rattle.bit_circuits.proofs.WordArithmetic.Bitwise.{choose-builds}
use Rattle.bit_circuits.proofs.WordArithmetic.Adding.{word-same}
use Rattle.bit_circuits.proofs.WordArithmetic.Signed.{SignedAs, word_signed, mag_of}
use Rattle.plain_laws.proofs.Numbers.{binary_below}

-- ---- parts of words

pub Below-append : (n : ℕ) (ls ms : List ℤ) → Below n ls → Below n ms → Below n (ls ++ ms)
Below-append n [] ms a b = b
Below-append n (l ∷ ls) ms a b = (a.0, Below-append n ls ms a.1 b)

pub Below-take : (n k : ℕ) (ls : List ℤ) → Below n ls → Below n (take k ls)
Below-take n zero ls a = tt
Below-take n (suc k) [] a = tt
Below-take n (suc k) (l ∷ ls) a = (a.0, Below-take n k ls a.1)

pub Below-drop : (n k : ℕ) (ls : List ℤ) → Below n ls → Below n (drop k ls)
Below-drop n zero ls a = a
Below-drop n (suc k) [] a = tt
Below-drop n (suc k) (l ∷ ls) a = Below-drop n k ls a.1

Below-replicate : (n k : ℕ) (l : ℤ) → IsBelow n l → Below n (replicate k l)
Below-replicate n zero l a = tt
Below-replicate n (suc k) l a = (a, Below-replicate n k l a)

length-copies : (k : ℕ) (l : ℤ) → length (replicate k l) ≡ k
length-copies zero l = refl
length-copies (suc k) l = ap suc (length-copies k l)

pub take_step : (b x p q : ℕ) → 0 < p → q ≡ 2 * p → b < 2 → b + 2 * (x % p) ≡ (b + 2 * x) % q
take_step b x p q some e h =
    let lt : x % p < p = mod-lt x some in
    let whole : p * (x / p) + x % p ≡ x = div-add-mod x p in
    let small : b + 2 * (x % p) < q = binary_below b (x % p) p q h lt e in
    let parts : b + 2 * x ≡ b + 2 * (x % p) + q * (x / p) = subst (λ r. b + 2 * x ≡ b + 2 * (x % p) + r * (x / p)) (sym e) (omega arith) in
    remainder_is q (b + 2 * (x % p)) (x / p) (b + 2 * x) small parts

pub word_value-take : (v : ℤ → Bool) (k : ℕ) (ls : List ℤ) → word_value v (take k ls) ≡ word_value v ls % 2 ^ k
word_value-take v zero ls = omega arith
word_value-take v (suc k) [] = sym (mod-eq_of_lt (pow_pos (suc k)))
word_value-take v (suc k) (l ∷ ls) =
    ap (λ x. flag (v l) + 2 * x) (word_value-take v k ls) ∙ take_step (flag (v l)) (word_value v ls) (2 ^ k) (2 ^ suc k) (pow_pos k) (twice k) (flag-lt (v l))

half_step : (b x p : ℕ) → b < 2 → x / p ≡ (b + 2 * x) / (2 * p)
half_step b x zero h = omega arith
half_step b x (suc p) h =
    let whole : suc p * (x / suc p) + x % suc p ≡ x = div-add-mod x (suc p) in
    let lt : x % suc p < suc p = mod-lt x (omega arith) in
    let parts : x / suc p * (2 * suc p) + (b + 2 * (x % suc p)) ≡ b + 2 * x = omega arith in
    sym (ap (λ y. y / (2 * suc p)) (sym parts) ∙ div-mul-add (x / suc p) (2 * suc p) (b + 2 * (x % suc p)) (omega arith))

pub word_value-drop : (v : ℤ → Bool) (k : ℕ) (ls : List ℤ) → word_value v (drop k ls) ≡ word_value v ls / 2 ^ k
word_value-drop v zero ls = omega arith
word_value-drop v (suc k) [] = sym (zero-div (2 ^ suc k))
word_value-drop v (suc k) (l ∷ ls) =
    word_value-drop v k ls ∙ half_step (flag (v l)) (word_value v ls) (2 ^ k) (flag-lt (v l)) ∙ ap (λ q. (flag (v l) + 2 * word_value v ls) / q) (sym (twice k))

copies_step : (b x p q : ℕ) → q ≡ 2 * p → x + b ≡ p * b → b + 2 * x + b ≡ q * b
copies_step b x p q e f = subst (λ r. b + 2 * x + b ≡ r * b) (sym e) (omega arith)

-- copies of a bit: all ones, or 0
word_value-copies : (v : ℤ → Bool) (k : ℕ) (l : ℤ) → word_value v (replicate k l) + flag (v l) ≡ 2 ^ k * flag (v l)
word_value-copies v zero l = omega arith
word_value-copies v (suc k) l = copies_step (flag (v l)) (word_value v (replicate k l)) (2 ^ k) (2 ^ suc k) (twice k) (word_value-copies v k l)

-- ---- stages

-- what a move by k does to a word of this width, and what comes of that at numbers
pub record IsMove (v : ℤ → Bool) (G : Type 0) (n w : ℕ) (move : ℕ → List ℤ → List ℤ) (f : ℕ → ℕ → ℕ) : Type 0 where
  pub scope : (m k : ℕ) (xs : List ℤ) → n ≤ m → Below m xs → Below m (move k xs)
  pub wide : (k : ℕ) (xs : List ℤ) → k ≤ w → length xs ≡ w → length (move k xs) ≡ w
  pub value : G → (k : ℕ) (xs : List ℤ) → k ≤ w → length xs ≡ w → word_value v (move k xs) ≡ f k (word_value v xs)
  pub none : (x : ℕ) → x < 2 ^ w → f 0 x ≡ x
  pub more : (a b x : ℕ) → x < 2 ^ w → f b (f a x) ≡ f (a + b) x

moved_or_not : (f : ℕ → ℕ → ℕ) (b : Bool) (k x : ℕ) → f 0 x ≡ x → cond b (f k x) x ≡ f (k * flag b) x
moved_or_not f true k x h = ap (λ j. f j x) (omega arith)
moved_or_not f false k x h = sym h ∙ ap (λ j. f j x) (omega arith)

stages_fit : (k c w : ℕ) (p q : ℕ) → q ≡ 2 * p → 0 < p → k * q ≤ w → (k ≤ w) × (2 * k * p ≤ w)
stages_fit k c w p q e some h =
    let a : k * (2 * p) ≤ w = subst (λ r. k * r ≤ w) e h in
    (grind arith, omega arith)

pub stages-builds : (v : ℤ → Bool) (G : Type 0) (first n w : ℕ) (move : ℕ → List ℤ → List ℤ) (f : ℕ → ℕ → ℕ) (k : ℕ) (cs xs : List ℤ)
    → IsMove v G first w move f → first ≤ n → 0 < n → Below n cs → Below n xs → length xs ≡ w → k * 2 ^ length cs ≤ w
    → Builds v G n (stages move k cs xs) (IsWord v G w (f (k * word_value v cs) (word_value v xs)))
unfolding stages
stages-builds v G first n w move f k [] xs is le some bc bx wide fit =
    done-builds xs (record {
      scope = bx;
      wide = wide;
      value = λ given. sym (is.none (word_value v xs) (subst (λ j. word_value v xs < 2 ^ j) wide (word_value-lt v xs))) ∙ ap (λ j. f j (word_value v xs)) (omega arith);
    })
stages-builds v G first n w move f k (c ∷ cs) xs is le some bc bx wide fit =
    let fits = stages_fit k 0 w (2 ^ length cs) (2 ^ length (c ∷ cs)) (twice (length cs)) (pow_pos (length cs)) fit in
    let moved : length (move k xs) ≡ w = is.wide k xs fits.0 wide in
    then-builds _ (choose-builds v G n c (move k xs) xs some bc.0 (is.scope n k xs le bx) bx (moved ∙ sym wide)) (λ n1 le1 ys py.
    weaker-builds (stages-builds v G first n1 w move f (2 * k) cs ys is (omega arith) (omega arith) (Below-later n n1 cs le1 bc.1) py.scope (py.wide ∙ moved) fits.1) (λ n2 le2 ls w'.
    word-same (λ given.
    let small : word_value v xs < 2 ^ w = subst (λ j. word_value v xs < 2 ^ j) wide (word_value-lt v xs) in
    let eq : word_value v ys ≡ f (k * flag (v c)) (word_value v xs) =
    py.value given ∙ ap (λ z. cond (v c) z (word_value v xs)) (is.value given k xs fits.0 wide) ∙ moved_or_not f (v c) k (word_value v xs) (is.none (word_value v xs) small) in
    ap (λ z. f (2 * k * word_value v cs) z) eq ∙ is.more (k * flag (v c)) (2 * k * word_value v cs) (word_value v xs) small ∙ ap (λ j. f j (word_value v xs)) (omega arith)) w'))

-- ---- up

times_mod : (x y m : ℕ) → x % m * y % m ≡ x * y % m
times_mod x y m =
    let whole : m * (x / m) + x % m ≡ x = div-add-mod x m in
    let parts : x % m * y + m * (x / m * y) ≡ x * y = ap (λ z. z) (omega arith) ∙ ap (λ z. z * y) whole in
    sym (add-mul-mod_self_left (x % m * y) m (x / m * y)) ∙ ap (λ z. z % m) parts

up : ℕ → ℕ → ℕ → ℕ
up w k x = x * 2 ^ k % 2 ^ w

up_move : (v : ℤ → Bool) (G : Type 0) (n w : ℕ) → 1 < n → IsTruth v G → IsMove v G n w moved_up (up w)
unfolding up
up_move v G n w some t = record {
  scope = λ m k xs le bx. Below-take m (length xs) (falses k ++ xs) (Below-append m (falses k) xs (Below-falses m k (omega arith)) bx);
  wide = λ k xs le wide. length-take (length xs) (falses k ++ xs) ∙ omega (arith, length-append (falses k) xs, length-falses k);
  value = λ given k xs le wide.
      word_value-take v (length xs) (falses k ++ xs)
      ∙ ap (λ z. z % 2 ^ length xs) (word_value-append v (falses k) xs ∙ ap (λ z. z + 2 ^ length (falses k) * word_value v xs) (word_value-falses v k (falsity_is t given)) ∙ ap (λ j. 0 + 2 ^ j * word_value v xs) (length-falses k) ∙ turn (2 ^ k) (word_value v xs))
      ∙ ap (λ j. word_value v xs * 2 ^ k % 2 ^ j) wide;
  none = λ x h. ap (λ z. z % 2 ^ w) (omega arith) ∙ mod-eq_of_lt h;
  more = λ a b x h. times_mod (x * 2 ^ a) (2 ^ b) (2 ^ w) ∙ ap (λ z. z % 2 ^ w) (assoc x (2 ^ a) (2 ^ b) ∙ ap (λ z. x * z) (sym (pow-add 2 a b)));
}
  where
    turn : (p x : ℕ) → 0 + p * x ≡ x * p
    turn p x = omega arith

    assoc : (x y z : ℕ) → x * y * z ≡ x * (y * z)
    assoc x y z = omega arith

pub shift_up-builds : (v : ℤ → Bool) (G : Type 0) (n : ℕ) (xs count : List ℤ) → 1 < n → IsTruth v G → Below n xs → Below n count → length xs ≡ 32 → length count ≡ 32
    → Builds v G n (shift_up xs count) (IsWord v G 32 (word_value v xs * 2 ^ (word_value v count % 32) % 2 ^ 32))
unfolding shift_up up
shift_up-builds v G n xs count some t bx bc wx wc =
    let five : length (take 5 count) ≡ 5 = length-take 5 count ∙ omega arith in
    weaker-builds (stages-builds v G n n 32 moved_up (up 32) 1 (take 5 count) xs (up_move v G n 32 some t) (omega arith) (omega arith) (Below-take n 5 count bc) bx wx (subst (λ j. 1 * 2 ^ j ≤ 32) (sym five) (omega arith))) (λ m le ls w.
    word-same (λ given. ap (λ j. word_value v xs * 2 ^ j % 2 ^ 32) (omega arith ∙ word_value-take v 5 count)) w)

-- ---- down

-- towards the lowest bit; what comes in at the top are copies of a bit
pub down : ℕ → Bool → ℕ → ℕ → ℕ
down w false k x = x / 2 ^ k
down w true k x = 2 ^ w - 1 - (2 ^ w - 1 - x) / 2 ^ k

complement_parts : (p q x d r e : ℕ) → p * d + r ≡ x → r < p → d + 1 + e ≡ q → e * p + (p - 1 - r) ≡ p * q - 1 - x
complement_parts p q x d r e whole lt sum =
    let m : p * q ≡ p * d + p + e * p = ap (λ z. p * z) (sym sum) ∙ omega arith in
    omega arith

complement_half : (p q x : ℕ) → 0 < p → x < p * q → (p * q - 1 - x) / p ≡ q - 1 - x / p
complement_half p q x some h =
    let whole : p * (x / p) + x % p ≡ x = div-add-mod x p in
    let lt : x % p < p = mod-lt x some in
    let below : x / p < q = quotient_below p q (x / p) (omega arith) in
    let sum : x / p + 1 + (q - 1 - x / p) ≡ q = omega arith in
    ap (λ z. z / p) (sym (complement_parts p q x (x / p) (x % p) (q - 1 - x / p) whole lt sum)) ∙ div-mul-add (q - 1 - x / p) p (p - 1 - x % p) (omega arith)
  where
    quotient_below : (p q d : ℕ) → p * d < p * q → d < q
    quotient_below p q d h = lt_of_mul-lt-mul_left p h

filled_step : (b : Bool) (w k j x c : ℕ) → j + k ≡ w → x < 2 ^ w → c + flag b ≡ 2 ^ k * flag b → x / 2 ^ k + 2 ^ j * c ≡ down w b k x
unfolding down
filled_step false w k j x c e h f = let none : c ≡ 0 = omega arith in ap (λ z. x / 2 ^ k + 2 ^ j * z) none ∙ omega arith
filled_step true w k j x c e h f =
    let power : 2 ^ w ≡ 2 ^ k * 2 ^ j = ap (λ z. 2 ^ z) (sym e) ∙ pow-add 2 j k ∙ omega arith in
    let half : (2 ^ k * 2 ^ j - 1 - x) / 2 ^ k ≡ 2 ^ j - 1 - x / 2 ^ k = complement_half (2 ^ k) (2 ^ j) x (pow_pos k) (subst (λ z. x < z) power h) in
    let ones : c + 1 ≡ 2 ^ k = omega arith in
    let product : 2 ^ j * c + 2 ^ j ≡ 2 ^ k * 2 ^ j = omega arith ∙ ap (λ z. 2 ^ j * z) ones ∙ omega arith in
    let whole : x / 2 ^ k < 2 ^ j = below_part (2 ^ k) (2 ^ j) x (pow_pos k) (subst (λ z. x < z) power h) in
    let end : x / 2 ^ k + 2 ^ j * c ≡ 2 ^ k * 2 ^ j - 1 - (2 ^ j - 1 - x / 2 ^ k) = omega arith in
    end ∙ ap (λ z. 2 ^ k * 2 ^ j - 1 - z) (sym half) ∙ ap (λ z. z - 1 - (z - 1 - x) / 2 ^ k) (sym power)
  where
    below_part : (p q x : ℕ) → 0 < p → x < p * q → x / p < q
    below_part p q x some h = let whole : p * (x / p) + x % p ≡ x = div-add-mod x p in let le : p * (x / p) < p * q = omega arith in lt_of_mul-lt-mul_left p le

down_none : (w : ℕ) (b : Bool) (x : ℕ) → x < 2 ^ w → down w b 0 x ≡ x
unfolding down
down_none w false x h = omega arith
down_none w true x h = omega arith

down_more : (w : ℕ) (b : Bool) (i j x : ℕ) → x < 2 ^ w → down w b j (down w b i x) ≡ down w b (i + j) x
unfolding down
down_more w false i j x h = shr-shr x i j
down_more w true i j x h =
    let le : (2 ^ w - 1 - x) / 2 ^ i ≤ 2 ^ w - 1 - x = div-le_self (2 ^ w - 1 - x) (2 ^ i) in
    let back : 2 ^ w - 1 - (2 ^ w - 1 - (2 ^ w - 1 - x) / 2 ^ i) ≡ (2 ^ w - 1 - x) / 2 ^ i = omega arith in
    ap (λ z. 2 ^ w - 1 - z / 2 ^ j) back ∙ ap (λ z. 2 ^ w - 1 - z) (shr-shr (2 ^ w - 1 - x) i j)

down_move : (v : ℤ → Bool) (G : Type 0) (n w : ℕ) (fill : ℤ) → IsBelow n fill → IsMove v G n w (moved_down fill) (down w (v fill))
down_move v G n w fill bf = record {
  scope = λ m k xs le bx. Below-append m (drop k xs) (replicate k fill) (Below-drop m k xs bx) (Below-replicate m k fill (IsBelow-later le bf));
  wide = λ k xs le wide. length-append (drop k xs) (replicate k fill) ∙ omega (arith, length-drop k xs, length-copies k fill);
  value = λ given k xs le wide.
      let rest : length (drop k xs) ≡ w - k = length-drop k xs ∙ ap (λ z. z - k) wide in
      word_value-append v (drop k xs) (replicate k fill)
      ∙ ap (λ z. z + 2 ^ length (drop k xs) * word_value v (replicate k fill)) (word_value-drop v k xs)
      ∙ ap (λ j. word_value v xs / 2 ^ k + 2 ^ j * word_value v (replicate k fill)) rest
      ∙ filled_step (v fill) w k (w - k) (word_value v xs) (word_value v (replicate k fill)) (omega arith) (subst (λ j. word_value v xs < 2 ^ j) wide (word_value-lt v xs)) (word_value-copies v k fill);
  none = down_none w (v fill);
  more = down_more w (v fill);
}

pub shift_down-builds : (v : ℤ → Bool) (G : Type 0) (n : ℕ) (fill : ℤ) (xs count : List ℤ) → 1 < n → IsBelow n fill → Below n xs → Below n count → length xs ≡ 32 → length count ≡ 32
    → Builds v G n (shift_down fill xs count) (IsWord v G 32 (down 32 (v fill) (word_value v count % 32) (word_value v xs)))
unfolding shift_down
shift_down-builds v G n fill xs count some bf bx bc wx wc =
    let five : length (take 5 count) ≡ 5 = length-take 5 count ∙ omega arith in
    weaker-builds (stages-builds v G n n 32 (moved_down fill) (down 32 (v fill)) 1 (take 5 count) xs (down_move v G n 32 fill bf) (omega arith) (omega arith) (Below-take n 5 count bc) bx wx (subst (λ j. 1 * 2 ^ j ≤ 32) (sym five) (omega arith))) (λ m le ls w.
    word-same (λ given. ap (λ j. down 32 (v fill) j (word_value v xs)) (omega arith ∙ word_value-take v 5 count)) w)

pub shift_unsigned-builds : (v : ℤ → Bool) (G : Type 0) (n : ℕ) (xs count : List ℤ) → 1 < n → IsTruth v G → Below n xs → Below n count → length xs ≡ 32 → length count ≡ 32
    → Builds v G n (shift_down false_literal xs count) (IsWord v G 32 (word_value v xs / 2 ^ (word_value v count % 32)))
unfolding down
shift_unsigned-builds v G n xs count some t bx bc wx wc =
    weaker-builds (shift_down-builds v G n false_literal xs count some (record { some = omega arith; below = omega arith }) bx bc wx wc) (λ m le ls w.
    word-same (λ given. ap (λ b. down 32 b (word_value v count % 32) (word_value v xs)) (falsity_is t given)) w)

signed_shift : (b : Bool) (x m k : ℕ) → SignedAs b x m → down 32 b k x ≡ cast_unsigned w32 (int_shr (cast_signed w32 x) k)
unfolding down
signed_shift false x m k is = ap (λ z. z / 2 ^ k) is.1 ∙ sym (ap (λ z. cast_unsigned w32 (int_shr z k)) is.0)
signed_shift true x m k is =
    let low : 2 ^ 32 - 1 - x ≡ is.0 = omega (arith, is.1, is.3) in
    ap (λ z. 2 ^ 32 - 1 - z / 2 ^ k) low ∙ omega arith ∙ sym (ap (λ z. cast_unsigned w32 (int_shr z k)) is.2)

pub shift_signed-builds : (v : ℤ → Bool) (G : Type 0) (n : ℕ) (xs count : List ℤ) → 1 < n → Below n xs → Below n count → length xs ≡ 32 → length count ≡ 32
    → Builds v G n (shift_down (top xs) xs count) (IsWord v G 32 (cast_unsigned w32 (int_shr (cast_signed w32 (word_value v xs)) (word_value v count % 32))))
shift_signed-builds v G n xs count some bx bc wx wc =
    weaker-builds (shift_down-builds v G n (top xs) xs count some (IsBelow-top n xs some bx) bx bc wx wc) (λ m le ls w.
    word-same (λ given. signed_shift (v (top xs)) (word_value v xs) (mag_of v xs) (word_value v count % 32) (word_signed v xs wx)) w)
