-- The digits of a number, and what a part of them writes.
use Rattle.std.proofs.Common.{◌≡◌, ◌≢◌, ℕ, ◌+◌, ◌*◌, ◌/◌, ◌%◌, ◌^◌, ◌<◌, ◌≤◌, ◌⊎◌, inl, inr, List, [], ◌∷◌, ◌++◌, length, refl, sym, ◌∙◌, ap, arith, length-append}
use Rattle.std.specs.Fmt.{decimal}
use Rattle.std.proofs.lemmas.List.{append-nil}
use Rattle.std.proofs.lemmas.Fmt.{decimal_by_steps_wide, decimal_step_wide, decimal_digit}

-- each byte is a digit
abbrev pub AreDigits : List ℕ → Type 0
AreDigits [] = Unit {0}
AreDigits (b ∷ bs) = (48 ≤ b) × (b ≤ 57) × AreDigits bs

AreDigits-push : (ds : List ℕ) (d : ℕ) → AreDigits ds → 48 ≤ d → d ≤ 57 → AreDigits (ds ++ d ∷ [])
AreDigits-push [] d all low high = (low, high, tt)
AreDigits-push (b ∷ bs) d all low high = (all.0, all.1, AreDigits-push bs d all.2 low high)

pub digits : (n : ℕ) → n < 10 ^ 64 → AreDigits (decimal n)
digits n small = decimal_by_steps_wide (λ m ds. AreDigits ds) (λ m h. (omega arith, omega arith, tt)) (λ m ds h all. AreDigits-push ds (48 + m % 10) all (omega arith) (omega arith)) n small

-- the digits up to a line feed
pub closed : (ds e more : List ℕ) → AreDigits e → ds ++ 10 ∷ more ≡ e ++ 10 ∷ [] → (ds ≡ e) × (more ≡ [])
closed [] [] more all same = (refl, cc)
closed [] (x ∷ xs) more all same = let first : 10 ≡ x = cc in absurd (omega (arith, all.0, first))
closed (d ∷ ds) [] more all same = let tail : ds ++ 10 ∷ more ≡ [] = cc in absurd (omega (arith, ap length tail, length-append ds (10 ∷ more)))
closed (d ∷ ds) (x ∷ xs) more all same =
    let first : d ≡ x = cc in
    let tail : ds ++ 10 ∷ more ≡ xs ++ 10 ∷ [] = cc in
    let rest = closed ds xs more all.2 tail in
    (ap (λ z. z ∷ ds) first ∙ ap (λ zs. x ∷ zs) rest.0, rest.1)

nil_front : (a b : List ℕ) → a ++ b ≡ [] → a ≡ []
nil_front [] b is = refl
nil_front (y ∷ ys) b is = cc

pub nil_back : (a b : List ℕ) → a ++ b ≡ [] → b ≡ []
nil_back [] b is = is
nil_back (y ∷ ys) b is = cc

-- bytes without a line feed at their end begin the digits
pub opened : (b e more : List ℕ) → ((before : List ℕ) → b ≢ before ++ 10 ∷ []) → b ++ more ≡ e ++ 10 ∷ [] → (rest : List ℕ) × (b ++ rest ≡ e)
opened [] e more bare same = (e, refl)
opened (x ∷ xs) [] more bare same =
    let first : x ≡ 10 = cc in
    let tail : xs ++ more ≡ [] = cc in
    absurd (bare [] (ap (λ z. z ∷ xs) first ∙ ap (λ zs. 10 ∷ zs) (nil_front xs more tail)))
opened (x ∷ xs) (y ∷ ys) more bare same =
    let first : x ≡ y = cc in
    let tail : xs ++ more ≡ ys ++ 10 ∷ [] = cc in
    let rest = opened xs ys more (λ before is. bare (x ∷ before) (ap (λ zs. x ∷ zs) is)) tail in
    (rest.0, ap (λ z. z ∷ (xs ++ rest.0)) first ∙ ap (λ zs. y ∷ zs) rest.1)

-- ---- the front of a number's digits

-- they are a number: the same one, or one of which it has ten times or more
pub record Front (n : ℕ) (bytes : List ℕ) : Type 0 where
  pub k : ℕ
  pub is : bytes ≡ decimal k
  pub cases : (k ≡ n) ⊎ ((1 ≤ k) × (10 * k ≤ n))

-- a part of a list is the whole of it, or of what stands before its last element
parts : (bytes rest ds : List ℕ) (d : ℕ) → bytes ++ rest ≡ ds ++ d ∷ [] → (rest ≡ []) ⊎ ((r : List ℕ) × (bytes ++ r ≡ ds))
parts [] rest ds d same = inr (ds, refl)
parts (b ∷ bs) rest [] d same = let tail : bs ++ rest ≡ [] = cc in inl (nil_back bs rest tail)
parts (b ∷ bs) rest (x ∷ xs) d same =
    let first : b ≡ x = cc in
    let tail : bs ++ rest ≡ xs ++ d ∷ [] = cc in
    by_parts first (parts bs rest xs d tail)
  where
    by_parts : b ≡ x → (rest ≡ []) ⊎ ((r : List ℕ) × (bs ++ r ≡ xs)) → (rest ≡ []) ⊎ ((r : List ℕ) × ((b ∷ bs) ++ r ≡ x ∷ xs))
    by_parts first (inl none) = inl none
    by_parts first (inr some) = inr (some.0, ap (λ z. z ∷ (bs ++ some.0)) first ∙ ap (λ zs. x ∷ zs) some.1)

record Fronts (n : ℕ) (ds : List ℕ) : Type 0 where
  is : n < 10 ^ 64 → ds ≡ decimal n
  fronts : n < 10 ^ 64 → (bytes rest : List ℕ) → 0 < length bytes → bytes ++ rest ≡ ds → Front n bytes

whole : (n : ℕ) (ds bytes rest : List ℕ) → ds ≡ decimal n → rest ≡ [] → bytes ++ rest ≡ ds → Front n bytes
whole n ds bytes rest is none same = record { k = n; is = sym (append-nil bytes) ∙ ap (λ r. bytes ++ r) (sym none) ∙ same ∙ is; cases = inl refl }

one_digit : (n : ℕ) → n < 10 → Fronts n ((48 + n) ∷ [])
one_digit n h = record {
  is = λ small. sym (decimal_digit n h);
  fronts = λ small bytes rest some same. by_parts bytes rest some same (parts bytes rest [] (48 + n) same);
}
  where
    by_parts : (bytes rest : List ℕ) → 0 < length bytes → bytes ++ rest ≡ (48 + n) ∷ [] → (rest ≡ []) ⊎ ((r : List ℕ) × (bytes ++ r ≡ [])) → Front n bytes
    by_parts bytes rest some same (inl none) = whole n ((48 + n) ∷ []) bytes rest (sym (decimal_digit n h)) none same
    by_parts bytes rest some same (inr part) = absurd (omega (arith, some, ap length (nil_front bytes part.0 part.1)))

ten_times : (n k : ℕ) → 10 ≤ n → (k ≡ n / 10) ⊎ ((1 ≤ k) × (10 * k ≤ n / 10)) → (1 ≤ k) × (10 * k ≤ n)
ten_times n k h (inl same) = (omega arith, omega arith)
ten_times n k h (inr more) = (more.0, omega (arith, more.1))

next_digit : (n : ℕ) (ds : List ℕ) → 10 ≤ n → Fronts (n / 10) ds → Fronts n (ds ++ (48 + n % 10) ∷ [])
next_digit n ds h front = record {
  is = λ small. is small;
  fronts = λ small bytes rest some same. by_parts small bytes rest some same (parts bytes rest ds (48 + n % 10) same);
}
  where
    is : n < 10 ^ 64 → ds ++ (48 + n % 10) ∷ [] ≡ decimal n
    is small = ap (λ d. d ++ (48 + n % 10) ∷ []) (front.is (omega (arith, small))) ∙ sym (decimal_step_wide n h small)

    by_parts : n < 10 ^ 64 → (bytes rest : List ℕ) → 0 < length bytes → bytes ++ rest ≡ ds ++ (48 + n % 10) ∷ [] → (rest ≡ []) ⊎ ((r : List ℕ) × (bytes ++ r ≡ ds)) → Front n bytes
    by_parts small bytes rest some same (inl none) = whole n (ds ++ (48 + n % 10) ∷ []) bytes rest (is small) none same
    by_parts small bytes rest some same (inr part) =
        let before = front.fronts (omega (arith, small)) bytes part.0 some part.1 in
        record { k = before.k; is = before.is; cases = inr (ten_times n before.k h before.cases) }

pub front_of : (n : ℕ) (bytes rest : List ℕ) → n < 10 ^ 64 → 0 < length bytes → bytes ++ rest ≡ decimal n → Front n bytes
front_of n bytes rest small some same = (decimal_by_steps_wide Fronts one_digit next_digit n small).fronts small bytes rest some same

-- a further 0 makes it ten times
pub with_zero : (k : ℕ) → 1 ≤ k → 10 * k < 10 ^ 64 → decimal (10 * k) ≡ decimal k ++ 48 ∷ []
with_zero k some small =
    let tenth : 10 * k / 10 ≡ k = omega arith in
    let last : 10 * k % 10 ≡ 0 = omega arith in
    decimal_step_wide (10 * k) (omega (arith, some)) small ∙ ap (λ m. decimal m ++ (48 + 10 * k % 10) ∷ []) tenth ∙ ap (λ m. decimal k ++ (48 + m) ∷ []) last
