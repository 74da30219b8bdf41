-- Where the text of a number ends.
use Rattle.std.proofs.Common.{◌≡◌, ◌<◌, ◌+◌, ℕ, suc, true, false, cond, List, [], ◌∷◌, ◌++◌, length, ℤ, pos, negsuc, ◌⊎◌, refl, ap, ◌∙◌, arith, inl, inr, decimal}
use Rattle.std.specs.Fmt.{signed_decimal}
use Rattle.std.specs.Char.{digit_value}
use Rattle.std.specs.List.{prefix_len}
use Rattle.std.specs.Str.Parse.{AllDigits, digits_value}
use Rattle.std.proofs.lemmas.Str.Parse.{IsNumeralModel, numerals_by_value, tells_digits, digit_from_value}
use Rattle.std.proofs.lemmas.Fmt.{digits_decimal}
use Rattle.c_input.specs.InputTexts.{led_numbers}
use Rattle.c_input.specs.Reading.{is_entry_byte, IsSmall, IsApart, Suits}

own : IsNumeralModel (AllDigits 10) (digits_value 10)
own = numerals_by_value (AllDigits 10) tells_digits

-- all of them go on
abbrev AllGoOn : List ℕ → Type 0
AllGoOn [] = Unit {0}
AllGoOn (c ∷ cs) = (is_entry_byte c ≡ true) × AllGoOn cs

digit_goes_on : (c : ℕ) → digit_value c < 10 → is_entry_byte c ≡ true
digit_goes_on c small = let within = digit_from_value c small in grind arith

digits_go_on : (cs : List ℕ) → AllDigits 10 cs → AllGoOn cs
digits_go_on [] h = tt
digits_go_on (c ∷ cs) h = (digit_goes_on c h.0, digits_go_on cs h.1)

number_goes_on : (z : ℤ) → IsSmall z → AllGoOn (signed_decimal z)
number_goes_on (pos n) small = digits_go_on (decimal n) (digits_decimal own n (omega arith))
number_goes_on (negsuc n) small = (refl, digits_go_on (decimal (suc n)) (digits_decimal own (suc n) (omega arith)))

stops_at : (c : ℕ) → (c ≡ 32) ⊎ (c ≡ 44) → is_entry_byte c ≡ false
stops_at c (inl e) = ap is_entry_byte e
stops_at c (inr e) = ap is_entry_byte e

apart_stops : (more : List ℕ) → IsApart more → prefix_len is_entry_byte more ≡ 0
apart_stops [] h = refl
apart_stops (c ∷ cs) h = ap (λ b. cond b (1 + prefix_len is_entry_byte cs) 0) (stops_at c h)

ends : (cs more : List ℕ) → AllGoOn cs → IsApart more → prefix_len is_entry_byte (cs ++ more) ≡ length cs
ends [] more h apart = apart_stops more apart
ends (c ∷ cs) more h apart =
    ap (λ b. cond b (1 + prefix_len is_entry_byte (cs ++ more)) 0) h.0 ∙ ap (λ n. 1 + n) (ends cs more h.1 apart) ∙ omega arith

pub number_ends : (z : ℤ) (more : List ℕ) → IsSmall z → IsApart more → prefix_len is_entry_byte (signed_decimal z ++ more) ≡ length (signed_decimal z)
number_ends z more small apart = ends (signed_decimal z) more (number_goes_on z small) apart

-- what follows a number stands apart from it
pub led_apart : (ls : List (List ℕ)) (zs : List ℤ) → Suits ls zs → IsApart (led_numbers ls zs)
led_apart [] [] h = tt
led_apart [] (z ∷ zs) h = absurd h
led_apart (l ∷ ls) [] h = absurd h
led_apart ([] ∷ ls) (z ∷ zs) h = absurd h.0
led_apart ((c ∷ cs) ∷ ls) (z ∷ zs) h = h.0
