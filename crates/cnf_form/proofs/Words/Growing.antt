-- Which numbers begin with the digits of another, and which words may still grow.
use Rattle.std.proofs.Common.{◌≡◌, ◌≢◌, ℕ, ℤ, pos, negsuc, suc, zero, ◌+◌, ◌*◌, ◌/◌, ◌%◌, ◌^◌, ◌<◌, ◌≤◌, List, [], ◌∷◌, ◌++◌, length, get_or, unsigned_abs, refl, sym, ◌∙◌, ap, subst, arith, append_assoc, length-append, ◌⊎◌, inl, inr}
use Rattle.std.specs.Fmt.{decimal, signed_decimal}
use Rattle.std.specs.Char.{digit_value}
use Rattle.std.specs.Str.Parse.{AllDigits, digits_value, digits_value_after}
use Rattle.std.proofs.Math.Nat.{pow-suc, one-le-pow, mul_assoc, mul-le-mul_left, mul-le-mul_right}
use Rattle.std.proofs.lemmas.List.{append-nil, get_or_append_left}
use Rattle.std.proofs.lemmas.Str.Parse.{digit_at}
use Rattle.std.proofs.lemmas.Fmt.{digits_decimal, digits_value-decimal, decimal_nonempty, decimal_by_steps, decimal_step, decimal_digit, first_decimal}
use Rattle.cnf_form.specs.Literals.{most}
use Rattle.cnf_form.specs.Reading.{IsUnnamed, IsNew, Grows, LeadsToNew}
use Rattle.cnf_form.proofs.Words.Decimals.{own, zero_alone, decimal_of, no_digit}
use Rattle.plain_laws.proofs.Numbers.{shift_decimal}

AllDigits-left : (xs ys : List ℕ) → AllDigits 10 (xs ++ ys) → AllDigits 10 xs
AllDigits-left [] ys all = tt
AllDigits-left (x ∷ xs) ys all = (all.0, AllDigits-left xs ys all.1)

AllDigits-right : (xs ys : List ℕ) → AllDigits 10 (xs ++ ys) → AllDigits 10 ys
AllDigits-right [] ys all = all
AllDigits-right (x ∷ xs) ys all = AllDigits-right xs ys all.1

value-append : (n : ℕ) (xs ys : List ℕ) → digits_value_after 10 n (xs ++ ys) ≡ digits_value_after 10 (digits_value_after 10 n xs) ys
value-append n [] ys = refl
value-append n (x ∷ xs) ys = value-append (n * 10 + digit_value x) xs ys

shift_out : (n k : ℕ) → n * 10 ^ suc k ≡ (n * 10 ^ k) * 10
shift_out n k = ap (λ p. n * p) (pow-suc 10 k) ∙ sym (mul_assoc n (10 ^ k) 10)

low_step : (n d k value : ℕ) → (n * 10 + d) * 10 ^ k ≤ value → n * 10 ^ suc k ≤ value
low_step n d k value low =
    let less : (n * 10) * 10 ^ k ≤ (n * 10 + d) * 10 ^ k = mul-le-mul_right (10 ^ k) (omega arith) in
    omega (arith, shift_decimal n k)

high_step : (n d k value : ℕ) → d < 10 → value < (n * 10 + d + 1) * 10 ^ k → value < (n + 1) * 10 ^ suc k
high_step n d k value digit high =
    let less : (n * 10 + d + 1) * 10 ^ k ≤ ((n + 1) * 10) * 10 ^ k = mul-le-mul_right (10 ^ k) (omega arith) in
    omega (arith, shift_decimal (n + 1) k)

-- further digits keep a number in its row
value_low : (n : ℕ) (ds : List ℕ) → AllDigits 10 ds → n * 10 ^ length ds ≤ digits_value_after 10 n ds
value_low n [] all = omega arith
value_low n (d ∷ ds) all = low_step n (digit_value d) (length ds) (digits_value_after 10 (n * 10 + digit_value d) ds) (value_low (n * 10 + digit_value d) ds all.1)

value_high : (n : ℕ) (ds : List ℕ) → AllDigits 10 ds → digits_value_after 10 n ds < (n + 1) * 10 ^ length ds
value_high n [] all = omega arith
value_high n (d ∷ ds) all = high_step n (digit_value d) (length ds) (digits_value_after 10 (n * 10 + digit_value d) ds) all.0 (value_high (n * 10 + digit_value d) ds all.1)

-- a number whose digits begin with those of another
pub in_row : (n v : ℕ) (more : List ℕ) → n < 2 ^ 64 → v < 2 ^ 64 → decimal n ++ more ≡ decimal v → (n * 10 ^ length more ≤ v) × (v < (n + 1) * 10 ^ length more)
in_row n v more small_n small_v same =
    let all = subst (AllDigits 10) (sym same) (digits_decimal own v small_v) in
    let digits = AllDigits-right (decimal n) more all in
    let value : digits_value_after 10 n more ≡ v = ap (λ k. digits_value_after 10 k more) (sym (digits_value-decimal own n small_n)) ∙ sym (value-append 0 (decimal n) more) ∙ ap (digits_value 10) same ∙ digits_value-decimal own v small_v in
    (subst (λ k. n * 10 ^ length more ≤ k) value (value_low n more digits), subst (λ k. k < (n + 1) * 10 ^ length more) value (value_high n more digits))

-- and back: a number in the row has these digits in front
pub from_row : (k n v : ℕ) → 0 < n → v < 2 ^ 64 → n * 10 ^ k ≤ v → v < (n + 1) * 10 ^ k → (more : List ℕ) × (decimal v ≡ decimal n ++ more)
from_row zero n v some small from below =
    let same : v ≡ n = omega arith in
    ([], ap decimal same ∙ sym (append-nil (decimal n)))
from_row (suc k) n v some small from below =
    let one = one-le-pow k 10 (omega arith) in
    let positive : n * 1 ≤ n * 10 ^ k = mul-le-mul_left n one in
    let low : (n * 10 ^ k) * 10 ≤ v = omega (arith, shift_out n k) in
    let high : v < ((n + 1) * 10 ^ k) * 10 = omega (arith, shift_out (n + 1) k) in
    let front : n * 10 ^ k ≤ v / 10 = omega arith in
    let back : v / 10 < (n + 1) * 10 ^ k = omega arith in
    let rest : (more : List ℕ) × (decimal (v / 10) ≡ decimal n ++ more) = from_row k n (v / 10) some (omega arith) front back in
    (rest.0 ++ (48 + v % 10) ∷ [], decimal_step v (omega arith) small ∙ ap (λ ds. ds ++ (48 + v % 10) ∷ []) rest.1 ∙ append_assoc (decimal n) rest.0 ((48 + v % 10) ∷ []))

-- each number stands in a row of powers of ten
pub some_row : (v : ℕ) → v < 2 ^ 64 → 0 < v → (k : ℕ) × (1 * 10 ^ k ≤ v) × (v < 10 * 10 ^ k)
some_row v small = decimal_by_steps (λ n _. 0 < n → (k : ℕ) × (1 * 10 ^ k ≤ n) × (n < 10 * 10 ^ k))
    (λ n h some. (0, omega arith, omega arith))
    (λ n ds h before some.
    let row = before (omega arith) in
    (suc row.0, omega (arith, row.1, shift_out 1 row.0), omega (arith, row.2, shift_out 10 row.0)))
    v small

-- ---- the front of a number

pub number_front : (bytes more : List ℕ) (n : ℕ) → 0 < length bytes → n ≤ 2 ^ 32 → bytes ++ more ≡ decimal n → (m : ℕ) × (m ≤ n) × (bytes ≡ decimal m)
number_front bytes more n some small same =
    let all = subst (AllDigits 10) (sym same) (digits_decimal own n (omega arith)) in
    let digits = AllDigits-left bytes more all in
    let value : digits_value_after 10 (digits_value 10 bytes) more ≡ n = sym (value-append 0 bytes more) ∙ ap (digits_value 10) same ∙ digits_value-decimal own n (omega arith) in
    let low = value_low (digits_value 10 bytes) more (AllDigits-right bytes more all) in
    let one = one-le-pow (length more) 10 (omega arith) in
    let less : digits_value 10 bytes * 1 ≤ digits_value 10 bytes * 10 ^ length more = mul-le-mul_left (digits_value 10 bytes) one in
    let plain : ¬ ((1 < length bytes) × (get_or bytes 0 0 ≡ 48)) = λ padded.
    omega (arith, padded.0, length-append bytes more, ap length same, zero_alone n (omega arith) (ap (λ ds. get_or ds 0 0) (sym same) ∙ get_or_append_left bytes more 0 0 some ∙ padded.1)) in
    (digits_value 10 bytes, omega arith, decimal_of bytes digits some plain (omega arith))

-- a number does not begin with a minus
pub no_minus : (n : ℕ) (more bytes : List ℕ) → n < 2 ^ 64 → decimal n ++ more ≢ 45 ∷ bytes
no_minus n more bytes small same = by_digits (decimal n) (digits_decimal own n small) (decimal_nonempty n small) same
  where
    by_digits : (ds : List ℕ) → AllDigits 10 ds → 0 < length ds → ds ++ more ≢ 45 ∷ bytes
    by_digits [] all some same = omega (arith, some)
    by_digits (d ∷ ds) all some same =
        let first : d ≡ 45 = cc in
        let here = digit_at (d ∷ ds) 0 all (omega arith) in
        omega (arith, here.0)

-- ---- which words may grow

pub small_number : (variables : ℕ) (literals : List ℤ) (number : ℤ) → (number ≡ pos 0) ⊎ IsNew variables literals number → unsigned_abs number ≤ most
small_number variables literals number (inl is) = rw is (omega arith)
small_number variables literals number (inr new) = new.literal.1

-- a 0 goes on as it is
pub zero_grows : (variables count : ℕ) (clauses : List (List ℤ)) (literals : List ℤ) (word : List ℕ) → length clauses < count → word ≡ signed_decimal (pos 0) → Grows variables count clauses literals word
zero_grows variables count clauses literals word room is = record { more = []; number = pos 0; goes_on = record { room = room; written = append-nil word ∙ is; fits = inl refl } }

-- a minus grows where some variable is new
pub minus_grows : (variables count : ℕ) (clauses : List (List ℤ)) (literals : List ℤ) → length clauses < count → variables ≤ most → LeadsToNew variables literals 1 10 → Grows variables count clauses literals (45 ∷ [])
minus_grows variables count clauses literals room few leads = by_variable leads.variable (let one = one-le-pow leads.digits 10 (omega arith) in omega (arith, leads.from)) leads.up_to leads.unnamed
  where
    by_variable : (v : ℕ) → 0 < v → v ≤ variables → IsUnnamed literals v → Grows variables count clauses literals (45 ∷ [])
    by_variable zero some up unnamed = absurd (omega (arith, some))
    by_variable (suc n) some up unnamed = record {
      more = decimal (suc n);
      number = negsuc n;
      goes_on = record { room = room; written = refl; fits = inr (record { literal = (omega arith, omega arith); up_to = up; unnamed = unnamed }) };
    }

pub minus_leads : (variables count : ℕ) (clauses : List (List ℤ)) (literals : List ℤ) → variables ≤ most → Grows variables count clauses literals (45 ∷ []) → LeadsToNew variables literals 1 10
minus_leads variables count clauses literals few grows = by_number grows.number grows.goes_on.written grows.goes_on.fits
  where
    by_number : (number : ℤ) → 45 ∷ grows.more ≡ signed_decimal number → (number ≡ pos 0) ⊎ IsNew variables literals number → LeadsToNew variables literals 1 10
    by_number (pos n) written fits = absurd (no_digit n grows.more (let small = small_number variables literals (pos n) fits in omega arith) written)
    by_number (negsuc n) written (inl is) = cc
    by_number (negsuc n) written (inr new) =
        let row = some_row (suc n) (omega (arith, new.literal.1)) (omega arith) in
        record { digits = row.0; variable = suc n; from = row.1; below = row.2; up_to = new.up_to; unnamed = new.unnamed }

-- a number grows where it leads to a new variable
pub number_grows : (variables count : ℕ) (clauses : List (List ℤ)) (literals : List ℤ) (word : List ℕ) (read : ℤ) → length clauses < count → variables ≤ most → word ≡ signed_decimal read → 0 < unsigned_abs read
    → LeadsToNew variables literals (unsigned_abs read) (unsigned_abs read + 1) → Grows variables count clauses literals word
number_grows variables count clauses literals word (pos n) room few is some leads =
    let up = leads.up_to in
    let row = from_row leads.digits n leads.variable some (omega arith) leads.from leads.below in
    let one = one-le-pow leads.digits 10 (omega arith) in
    let less : n * 1 ≤ n * 10 ^ leads.digits = mul-le-mul_left n one in
    record {
      more = row.0;
      number = pos leads.variable;
      goes_on = record { room = room; written = ap (λ w. w ++ row.0) is ∙ sym row.1; fits = inr (record { literal = (omega (arith, leads.from), omega arith); up_to = up; unnamed = leads.unnamed }) };
    }
number_grows variables count clauses literals word (negsuc m) room few is some leads = by_variable leads.variable leads.from leads.below leads.up_to leads.unnamed
  where
    by_variable : (v : ℕ) → suc m * 10 ^ leads.digits ≤ v → v < (suc m + 1) * 10 ^ leads.digits → v ≤ variables → IsUnnamed literals v → Grows variables count clauses literals word
    by_variable zero from below up unnamed =
        let one = one-le-pow leads.digits 10 (omega arith) in
        let less : suc m * 1 ≤ suc m * 10 ^ leads.digits = mul-le-mul_left (suc m) one in
        absurd (omega (arith, from))
    by_variable (suc v) from below up unnamed =
        let row = from_row leads.digits (suc m) (suc v) (omega arith) (omega arith) from below in
        record {
          more = row.0;
          number = negsuc v;
          goes_on = record { room = room; written = ap (λ w. w ++ row.0) is ∙ ap (λ ds. 45 ∷ ds) (sym row.1); fits = inr (record { literal = (omega arith, omega arith); up_to = up; unnamed = unnamed }) };
        }

leads_by_row : (variables : ℕ) (literals : List ℤ) (n v : ℕ) (more : List ℕ) → n ≤ most → v ≤ most → decimal n ++ more ≡ decimal v → v ≤ variables → IsUnnamed literals v → LeadsToNew variables literals n (n + 1)
leads_by_row variables literals n v more small small_v same up unnamed =
    let row = in_row n v more (omega arith) (omega arith) same in
    record { digits = length more; variable = v; from = row.0; below = row.1; up_to = up; unnamed = unnamed }

pub number_leads : (variables count : ℕ) (clauses : List (List ℤ)) (literals : List ℤ) (word : List ℕ) (read : ℤ) → unsigned_abs read ≤ most → word ≡ signed_decimal read → 0 < unsigned_abs read
    → Grows variables count clauses literals word → LeadsToNew variables literals (unsigned_abs read) (unsigned_abs read + 1)
number_leads variables count clauses literals word (pos n) small is some grows = by_number grows.number (ap (λ w. w ++ grows.more) (sym is) ∙ grows.goes_on.written) grows.goes_on.fits
  where
    by_number : (number : ℤ) → decimal n ++ grows.more ≡ signed_decimal number → (number ≡ pos 0) ⊎ IsNew variables literals number → LeadsToNew variables literals n (n + 1)
    by_number (pos v) written (inl zero_is) =
        let none : v ≡ 0 = cc in
        let row = in_row n v grows.more (omega arith) (omega arith) written in
        let one = one-le-pow (length grows.more) 10 (omega arith) in
        let less : n * 1 ≤ n * 10 ^ length grows.more = mul-le-mul_left n one in
        absurd (omega (arith, row.0))
    by_number (pos v) written (inr new) = leads_by_row variables literals n v grows.more small new.literal.1 written new.up_to new.unnamed
    by_number (negsuc v) written fits = absurd (no_minus n grows.more (decimal (suc v)) (omega arith) written)
number_leads variables count clauses literals word (negsuc m) small is some grows = by_number grows.number (ap (λ w. w ++ grows.more) (sym is) ∙ grows.goes_on.written) grows.goes_on.fits
  where
    by_number : (number : ℤ) → 45 ∷ (decimal (suc m) ++ grows.more) ≡ signed_decimal number → (number ≡ pos 0) ⊎ IsNew variables literals number → LeadsToNew variables literals (suc m) (suc m + 1)
    by_number (pos v) written fits = absurd (no_digit v (decimal (suc m) ++ grows.more) (let few = small_number variables literals (pos v) fits in omega arith) written)
    by_number (negsuc v) written (inl is_zero) = cc
    by_number (negsuc v) written (inr new) =
        let tail : decimal (suc m) ++ grows.more ≡ decimal (suc v) = cc in
        leads_by_row variables literals (suc m) (suc v) grows.more small new.literal.1 tail new.up_to new.unnamed

-- what is neither a minus nor an integer does not grow
pub stray : (variables count : ℕ) (clauses : List (List ℤ)) (literals : List ℤ) (word : List ℕ) → 0 < length word → word ≢ 45 ∷ [] → ((z : ℤ) → unsigned_abs z ≤ most → word ≢ signed_decimal z) → ¬ Grows variables count clauses literals word
stray variables count clauses literals word some no_sign none grows = by_number grows.number (small_number variables literals grows.number grows.goes_on.fits) grows.goes_on.written
  where
    behind : (w : List ℕ) (n : ℕ) → n < most → word ≡ 45 ∷ w → w ++ grows.more ≡ decimal (suc n) → ⊥
    behind [] n small is same = no_sign is
    behind (b ∷ bs) n small is same = by_front (number_front (b ∷ bs) grows.more (suc n) (omega arith) (omega arith) same)
      where
        by_value : (m : ℕ) → m ≤ suc n → b ∷ bs ≡ decimal m → ⊥
        by_value zero less front =
            let first : get_or (decimal (suc n)) 0 0 ≡ 48 = ap (λ ds. get_or ds 0 0) (sym same) ∙ ap (λ ds. get_or ds 0 0) (front ∙ decimal_digit 0 (omega arith)) in
            omega (arith, first_decimal (suc n) (omega arith) (omega arith))
        by_value (suc m) less front = none (negsuc m) (omega arith) (is ∙ ap (λ ds. 45 ∷ ds) front)

        by_front : (m : ℕ) × (m ≤ suc n) × (b ∷ bs ≡ decimal m) → ⊥
        by_front front = by_value front.0 front.1 front.2

    by_word : (w : List ℕ) (n : ℕ) → n < most → word ≡ w → 0 < length w → w ++ grows.more ≡ 45 ∷ decimal (suc n) → ⊥
    by_word [] n small is some same = omega (arith, some)
    by_word (b ∷ bs) n small is some same =
        let first : b ≡ 45 = cc in
        let rest : bs ++ grows.more ≡ decimal (suc n) = cc in
        behind bs n small (is ∙ ap (λ c. c ∷ bs) first) rest

    by_number : (number : ℤ) → unsigned_abs number ≤ most → word ++ grows.more ≡ signed_decimal number → ⊥
    by_number (pos n) small written = let front = number_front word grows.more n some (omega (arith, small)) written in none (pos front.0) (omega (arith, front.1)) front.2
    by_number (negsuc n) small written = by_word word n (omega arith) refl some written

pub some_abs : (z : ℤ) → z ≢ pos 0 → 0 < unsigned_abs z
some_abs (pos zero) some = absurd (some refl)
some_abs (pos (suc n)) some = omega arith
some_abs (negsuc n) some = omega arith
