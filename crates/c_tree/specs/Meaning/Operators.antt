-- The operators on values (C11 6.5.3.3, 6.5.5 to 6.5.14); a result of none is undefined.
use Rattle.std.specs.Prelude.{
  ℕ,
  zero,
  suc,
  ◌+◌,
  ◌-◌,
  ◌*◌,
  ◌/◌,
  ◌%◌,
  ◌^◌,
  Bool,
  not,
  ◌&&◌,
  ◌==◌,
  nat_lt,
  nat_le,
  if◌then◌else◌,
  Option,
  Some,
  None,
  option_and_then,
  ℤ,
  pos,
  negsuc,
  ◌+ℤ◌,
  ◌-ℤ◌,
  ◌*ℤ◌,
  int_lt,
  int_le,
  int_div,
  int_rem,
  bit_and,
  bit_or,
  bit_xor,
  true,
  false,
}
use Rattle.std.specs.Int.{cast_unsigned, w32, int_shr}
use Rattle.c_tree.specs.declared.tree.Ty.TheVariants as ty
use Rattle.c_tree.specs.declared.tree.UnOp.{UnOp}
use Rattle.c_tree.specs.declared.tree.UnOp.TheVariants as un
use Rattle.c_tree.specs.declared.tree.BinOp.{BinOp}
use Rattle.c_tree.specs.declared.tree.BinOp.TheVariants as bin
use Rattle.c_tree.specs.declared.value.Value.{Value}
use Rattle.c_tree.specs.declared.value.Value.TheVariants.{Int, Unsigned}
use Rattle.c_tree.specs.Meaning.Values.{is_of, ty_of, common, word, of_word, zero_of, is_nonzero, truth}

-- ---- results

-- an `int`, undefined out of range (6.5 paragraph 5)
abbrev pub int : ℤ → Option Value
int z = if is_of ty.Int z then Some (Int z) else None

-- an `unsigned`, modulo 2^32 (6.2.5 paragraph 9)
abbrev pub wrapped_unsigned : ℕ → Option Value
wrapped_unsigned n = Some (Unsigned (n % 2 ^ 32))

-- ---- operands in their common type

-- one operator on two numbers of `int`, another on two of `unsigned`: the operands are converted to their common type
abbrev pub in_common : (ℤ → ℤ → Option Value) → (ℕ → ℕ → Option Value) → Value → Value → Option Value
in_common f g (Int x) (Int y) = f x y
in_common f g (Int x) (Unsigned n) = g (cast_unsigned w32 x) n
in_common f g (Unsigned m) (Int y) = g m (cast_unsigned w32 y)
in_common f g (Unsigned m) (Unsigned n) = g m n

-- ---- division (6.5.5): truncated toward zero, undefined for the divisor 0 and for -2^31 by -1, the remainder too

abbrev pub int_same : ℤ → ℤ → Bool
int_same x y = int_le x y && int_le y x

abbrev pub int_quotient : ℤ → ℤ → Option Value
int_quotient x y = if int_same y (pos 0) then None else int (int_div x y)

abbrev pub only_after : Option Value → Value → Option Value
only_after None v = None
only_after (Some q) v = Some v

abbrev pub int_remainder : ℤ → ℤ → Option Value
int_remainder x y = only_after (int_quotient x y) (Int (int_rem x y))

abbrev pub quotient : ℕ → ℕ → Option Value
quotient m zero = None
quotient m (suc n) = Some (Unsigned (m / suc n))

abbrev pub remainder : ℕ → ℕ → Option Value
remainder m zero = None
remainder m (suc n) = Some (Unsigned (m % suc n))

-- ---- shifts (6.5.7): the result has the left operand's type

-- a shift's count is from 0 to 31
abbrev pub shift_count : Value → Option ℕ
shift_count (Int (pos n)) = if nat_lt n 32 then Some n else None
shift_count (Int (negsuc n)) = None
shift_count (Unsigned n) = if nat_lt n 32 then Some n else None

-- an `int` is not negative, and its product is in range
abbrev pub shifted_left : Value → ℕ → Option Value
shifted_left (Int (pos m)) k = int (pos (m * 2 ^ k))
shifted_left (Int (negsuc m)) k = None
shifted_left (Unsigned m) k = wrapped_unsigned (m * 2 ^ k)

-- the floor of the quotient by the power of two (of a negative `int` this project's own)
abbrev pub shifted_right : Value → ℕ → Option Value
shifted_right (Int z) k = Some (Int (int_shr z k))
shifted_right (Unsigned m) k = Some (Unsigned (m / 2 ^ k))

-- ---- relations and bits

-- `int` 0 or 1 (6.5.8, 6.5.9)
abbrev pub comparison_value : (ℤ → ℤ → Bool) → (ℕ → ℕ → Bool) → Value → Value → Option Value
comparison_value f g = in_common (λ x y. Some (truth (f x y))) (λ m n. Some (truth (g m n)))

-- on the 32 bits of both, in the common type (6.5.10 to 6.5.12; two's complement is this project's own)
abbrev pub bits : (ℕ → ℕ → ℕ) → Value → Value → Option Value
bits f a b = Some (of_word (common (ty_of a) (ty_of b)) (f (word a) (word b)))

-- ---- the operators

-- two operands that are both evaluated; `&&` and `||` are in `operation_value`
abbrev pub binary : BinOp → Value → Value → Option Value
binary bin.Mul a b = in_common (λ x y. int (x *ℤ y)) (λ m n. wrapped_unsigned (m * n)) a b
binary bin.Div a b = in_common int_quotient quotient a b
binary bin.Rem a b = in_common int_remainder remainder a b
binary bin.Add a b = in_common (λ x y. int (x +ℤ y)) (λ m n. wrapped_unsigned (m + n)) a b
binary bin.Sub a b = in_common (λ x y. int (x -ℤ y)) (λ m n. wrapped_unsigned (m + 2 ^ 32 - n)) a b
binary bin.Shl a b = option_and_then (shifted_left a) (shift_count b)
binary bin.Shr a b = option_and_then (shifted_right a) (shift_count b)
binary bin.Lt a b = comparison_value int_lt nat_lt a b
binary bin.Gt a b = comparison_value (λ x y. int_lt y x) (λ m n. nat_lt n m) a b
binary bin.Le a b = comparison_value int_le nat_le a b
binary bin.Ge a b = comparison_value (λ x y. int_le y x) (λ m n. nat_le n m) a b
binary bin.Eq a b = comparison_value int_same (λ m n. m == n) a b
binary bin.Ne a b = comparison_value (λ x y. not (int_same x y)) (λ m n. not (m == n)) a b
binary bin.And a b = bits bit_and a b
binary bin.Xor a b = bits bit_xor a b
binary bin.Or a b = bits bit_or a b
binary bin.Both a b = None
binary bin.Either a b = None

-- `+ - ~ !` (6.5.3.3); `-e` is `0 - e` in the type of e
abbrev pub unary : UnOp → Value → Option Value
unary un.Plus a = Some a
unary un.Minus a = binary bin.Sub (zero_of (ty_of a)) a
unary un.Flip a = Some (of_word (ty_of a) (2 ^ 32 - 1 - word a))
unary un.Not a = Some (truth (not (is_nonzero a)))

-- `&&` (6.5.13): the right operand counts only where the left is not 0
abbrev pub both : Option Value → Option Value → Option Value
both None b = None
both (Some a) b = if is_nonzero a then option_and_then (λ v. Some (truth (is_nonzero v))) b else Some (truth false)

-- `||` (6.5.14): the right operand counts only where the left is 0
abbrev pub either : Option Value → Option Value → Option Value
either None b = None
either (Some a) b = if is_nonzero a then Some (truth true) else option_and_then (λ v. Some (truth (is_nonzero v))) b

abbrev pub two : (Value → Value → Option Value) → Option Value → Option Value → Option Value
two f None b = None
two f (Some x) None = None
two f (Some x) (Some y) = f x y

-- a binary operator on operands of which each may be undefined
abbrev pub operation_value : BinOp → Option Value → Option Value → Option Value
operation_value bin.Both a b = both a b
operation_value bin.Either a b = either a b
operation_value op a b = two (binary op) a b
