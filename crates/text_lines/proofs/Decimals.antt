-- The digits of numbers of 128 bits and more.
use Rattle.std.proofs.Common.{◌≡◌, ℕ, ◌^◌, ◌<◌, List, sym, ◌∙◌, ap, subst, arith}
use Rattle.std.specs.Fmt.{decimal}
use Rattle.std.specs.Str.{IsUtf8}
use Rattle.std.specs.Str.Parse.{digits_value}
use Rattle.std.proofs.lemmas.Fmt.{decimal_is_IsNumeral_wide, IsAscii-decimal_wide}
use Rattle.std.proofs.lemmas.Str.{IsUtf8-from_ascii}

pub wide : (n : ℕ) → n < 2 ^ 128 → n < 10 ^ 64
wide n small = omega (arith, small)

-- numbers with the same digits are the same
pub one_number : (m n : ℕ) → m < 10 ^ 64 → n < 10 ^ 64 → decimal m ≡ decimal n → m ≡ n
one_number m n small_m small_n same = sym ((decimal_is_IsNumeral_wide m small_m).1) ∙ ap (digits_value 10) same ∙ (decimal_is_IsNumeral_wide n small_n).1

pub is_text : (bytes : List ℕ) (n : ℕ) → n < 2 ^ 128 → bytes ≡ decimal n → IsUtf8 bytes
is_text bytes n small is = subst IsUtf8 (sym is) (IsUtf8-from_ascii (decimal n) (IsAscii-decimal_wide n (wide n small)))
