-- Which bytes write a number.
use Rattle.std.proofs.Common.{◌≡◌, ◌≢◌, ℕ, ℤ, pos, negsuc, zero, suc, ◌+◌, ◌^◌, ◌<◌, ◌≤◌, List, [], ◌∷◌, length, get_or, take, drop, ◌-◌, unsigned_abs, sym, ◌∙◌, ap, subst, arith}
use Rattle.std.specs.Fmt.{decimal, signed_decimal}
use Rattle.std.specs.Str.Parse.{AllDigits, digits_value}
use Rattle.std.proofs.lemmas.Str.Parse.{IsNumeralModel, numerals_by_value, tells_digits, digit_at}
use Rattle.std.proofs.lemmas.List.{take_all}
use Rattle.cnf_form.specs.Literals.{most}
use Rattle.std.proofs.lemmas.Fmt.{decimal_injective, digits_decimal, decimal-digits_value, decimal_digit, first_decimal}

pub own : IsNumeralModel (AllDigits 10) (digits_value 10)
own = numerals_by_value (AllDigits 10) tells_digits

-- a leading zero stands before no digit
pub zero_alone : (n : ℕ) → n < 2 ^ 64 → get_or (decimal n) 0 0 ≡ 48 → length (decimal n) ≡ 1
zero_alone zero small first = ap length (decimal_digit 0 (omega arith))
zero_alone (suc n) small first = absurd (omega (arith, first_decimal (suc n) (omega arith) small))

-- digits without a leading zero are those of their value
pub decimal_of : (ds : List ℕ) → AllDigits 10 ds → 0 < length ds → ¬ ((1 < length ds) × (get_or ds 0 0 ≡ 48)) → digits_value 10 ds < 2 ^ 64 → ds ≡ decimal (digits_value 10 ds)
decimal_of ds all some plain small = sym (decimal-digits_value own ds all some (λ first. by_length first) small)
  where
    by_length : get_or ds 0 0 ≡ 48 → length ds ≡ 1
    by_length first = let two : ¬ (1 < length ds) = λ h. plain (h, first) in omega arith

-- a minus and the bytes behind it
pub minus_split : (bytes : List ℕ) → 1 ≤ length bytes → get_or bytes 0 0 ≡ 45 → bytes ≡ 45 ∷ take (length bytes - 1) (drop 1 bytes)
minus_split [] some first = absurd (omega (arith, some))
minus_split (b ∷ bs) some first = let all = take_all (length bs + 1 - 1) bs (omega arith) in grind arith

-- no digit is a minus
pub no_digit : (n : ℕ) (bytes : List ℕ) → n < 2 ^ 64 → 45 ∷ bytes ≢ decimal n
no_digit n bytes small same =
    let all = subst (AllDigits 10) (sym same) (digits_decimal own n small) in
    let here = digit_at (45 ∷ bytes) 0 all (omega arith) in
    omega (arith, here.0)

pub no_integer_behind_minus : (digits : List ℕ) → ((n : ℕ) → n ≤ most → digits ≢ decimal n) → (z : ℤ) → unsigned_abs z ≤ most → 45 ∷ digits ≢ signed_decimal z
no_integer_behind_minus digits none (pos n) small same = no_digit n digits (omega arith) same
no_integer_behind_minus digits none (negsuc n) small same = let tail : digits ≡ decimal (suc n) = cc in none (suc n) (omega arith) tail

pub no_minus_zero : (digits : List ℕ) → digits ≡ decimal 0 → (z : ℤ) → unsigned_abs z ≤ most → 45 ∷ digits ≢ signed_decimal z
no_minus_zero digits is (pos n) small same = no_digit n digits (omega arith) same
no_minus_zero digits is (negsuc n) small same =
    let tail : digits ≡ decimal (suc n) = cc in
    absurd (omega (arith, decimal_injective (suc n) 0 (omega arith) (omega arith) (sym tail ∙ is)))

pub no_integer : (bytes : List ℕ) → get_or bytes 0 0 ≢ 45 → ((n : ℕ) → n ≤ most → bytes ≢ decimal n) → (z : ℤ) → unsigned_abs z ≤ most → bytes ≢ signed_decimal z
no_integer bytes plain none (pos n) small same = none n small same
no_integer bytes plain none (negsuc n) small same = plain (ap (λ bs. get_or bs 0 0) same)
