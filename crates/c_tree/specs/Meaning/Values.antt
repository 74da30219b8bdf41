-- Values: numbers of type `int` or `unsigned`, their ranges, conversions and words (C11 6.2.5, 6.3.1.3, 6.3.1.8).
-- This project's own: the width of 32 bits, two's complement, and the conversion to `int`.
use Rattle.std.specs.Prelude.{
  ℕ,
  ◌^◌,
  Bool,
  true,
  false,
  not,
  ◌==◌,
  nat_lt,
  if◌then◌else◌,
  List,
  [],
  ◌∷◌,
  ℤ,
  pos,
  negsuc,
  unsigned_abs,
}
use lib.Signed.{mag}
use Rattle.std.specs.Int.{cast_signed, cast_unsigned, w32}
use Rattle.c_tree.specs.declared.tree.Ty.{Ty}
use Rattle.c_tree.specs.declared.tree.Ty.TheVariants as ty
use Rattle.c_tree.specs.declared.value.Value.{Value}
use Rattle.c_tree.specs.declared.value.Value.TheVariants.{Int, Unsigned}

-- ---- types and ranges

abbrev pub ty_of : Value → Ty
ty_of (Int z) = ty.Int
ty_of (Unsigned n) = ty.Unsigned

-- the common type of two operands: `unsigned` if one of them is, else `int` (6.3.1.8)
abbrev pub common : Ty → Ty → Ty
common ty.Int b = b
common ty.Unsigned b = ty.Unsigned

-- whether a number lies in the range of a type: -2^31 to 2^31 - 1, or 0 to 2^32 - 1; `mag` takes `pos n` and
-- `negsuc n`, which is -n - 1, to n
abbrev pub is_of : Ty → ℤ → Bool
is_of ty.Int z = nat_lt (mag z) (2 ^ 31)
is_of ty.Unsigned (pos n) = nat_lt n (2 ^ 32)
is_of ty.Unsigned (negsuc n) = false

-- whether a value lies in the range of its type
abbrev pub is_value : Value → Bool
is_value (Int z) = is_of ty.Int z
is_value (Unsigned n) = is_of ty.Unsigned (pos n)

-- a number of a type's range, as a value of it
abbrev pub of_int : Ty → ℤ → Value
of_int ty.Int z = Int z
of_int ty.Unsigned z = Unsigned (unsigned_abs z)

abbrev pub zero_of : Ty → Value
zero_of ty.Int = Int (pos 0)
zero_of ty.Unsigned = Unsigned 0

-- ---- words

-- the 32 two's complement bits of a value, as a number: it modulo 2^32
abbrev pub word : Value → ℕ
word (Int z) = cast_unsigned w32 z
word (Unsigned n) = n

-- the value of a type that has these bits
abbrev pub of_word : Ty → ℕ → Value
of_word ty.Int n = Int (cast_signed w32 n)
of_word ty.Unsigned n = Unsigned n

-- ---- conversion

-- a value as a number of `int`: itself where it fits, and else less 2^32 (this project's own; 6.3.1.3 leaves it open)
abbrev pub signed_number : Value → ℤ
signed_number (Int z) = z
signed_number (Unsigned n) = cast_signed w32 n

-- conversion to a type; to `unsigned` it is modulo 2^32 (6.3.1.3)
abbrev pub convert : Ty → Value → Value
convert ty.Int v = Int (signed_number v)
convert ty.Unsigned v = Unsigned (word v)

abbrev pub converted_values : Ty → List Value → List Value
converted_values t [] = []
converted_values t (v ∷ vs) = convert t v ∷ converted_values t vs

-- ---- truth

-- a condition holds where it is not 0 (6.8.4.1, 6.8.5)
abbrev pub is_nonzero : Value → Bool
is_nonzero (Int (pos n)) = not (n == 0)
is_nonzero (Int (negsuc n)) = true
is_nonzero (Unsigned n) = not (n == 0)

-- a truth value is the `int` 1 or 0 (6.5.3.3, 6.5.8, 6.5.9, 6.5.13, 6.5.14)
abbrev pub truth : Bool → Value
truth b = Int (if b then pos 1 else pos 0)
