-- What a token is by its bytes.
use Rattle.std.specs.Prelude.{
  ℕ,
  ◌-◌,
  ◌^◌,
  ◌==◌,
  nat_lt,
  Bool,
  true,
  false,
  not,
  ◌&&◌,
  ◌||◌,
  if◌then◌else◌,
  List,
  [],
  ◌∷◌,
  length,
  take,
  drop,
  Option,
  Some,
  None,
  codes,
  bytes_eq,
}
use Rattle.std.specs.List.{list_all, list_any}
use Rattle.std.specs.Char.{digit_value}
use Rattle.std.specs.Str.{byte}
use Rattle.std.specs.Str.Parse.{digits_value}
use Rattle.c_tree.specs.declared.token.Kind.{Kind}
use Rattle.c_tree.specs.declared.token.Kind.TheVariants.{Word, Name, Number, Mark}
use Rattle.c_tree.specs.Tokens.Characters.{begins_with, is_digit, is_nondigit, is_name_byte, is_exponent, is_sign}

abbrev pub is_among : List (List ℕ) → List ℕ → Bool
is_among table bytes = list_any (λ entry. bytes_eq entry bytes) table

-- the keywords (C11 6.4.1)
unfoldable pub keywords : List (List ℕ)
keywords =
    codes "auto" ∷ codes "break" ∷ codes "case" ∷ codes "char" ∷ codes "const" ∷ codes "continue" ∷ codes "default"
    ∷ codes "do" ∷ codes "double" ∷ codes "else" ∷ codes "enum" ∷ codes "extern" ∷ codes "float" ∷ codes "for"
    ∷ codes "goto" ∷ codes "if" ∷ codes "inline" ∷ codes "int" ∷ codes "long" ∷ codes "register" ∷ codes "restrict"
    ∷ codes "return" ∷ codes "short" ∷ codes "signed" ∷ codes "sizeof" ∷ codes "static" ∷ codes "struct"
    ∷ codes "switch" ∷ codes "typedef" ∷ codes "union" ∷ codes "unsigned" ∷ codes "void" ∷ codes "volatile"
    ∷ codes "while" ∷ codes "_Alignas" ∷ codes "_Alignof" ∷ codes "_Atomic" ∷ codes "_Bool" ∷ codes "_Complex"
    ∷ codes "_Generic" ∷ codes "_Imaginary" ∷ codes "_Noreturn" ∷ codes "_Static_assert" ∷ codes "_Thread_local" ∷ []

-- the punctuators of the profile (6.4.6), a longer one before a shorter one
unfoldable pub marks : List (List ℕ)
marks =
    codes "<<=" ∷ codes ">>="
    ∷ codes "++" ∷ codes "--" ∷ codes "<<" ∷ codes ">>" ∷ codes "<=" ∷ codes ">=" ∷ codes "==" ∷ codes "!="
    ∷ codes "&&" ∷ codes "||" ∷ codes "+=" ∷ codes "-=" ∷ codes "*=" ∷ codes "/=" ∷ codes "%=" ∷ codes "&="
    ∷ codes "|=" ∷ codes "^="
    ∷ codes "(" ∷ codes ")" ∷ codes "[" ∷ codes "]" ∷ codes "{" ∷ codes "}" ∷ codes ";" ∷ codes "," ∷ codes "="
    ∷ codes "+" ∷ codes "-" ∷ codes "*" ∷ codes "/" ∷ codes "%" ∷ codes "&" ∷ codes "|" ∷ codes "^" ∷ codes "~"
    ∷ codes "!" ∷ codes "<" ∷ codes ">" ∷ codes "?" ∷ codes ":" ∷ []

-- the spelling of an identifier, which keywords have too (6.4.2.1)
unfoldable pub is_name : List ℕ → Bool
is_name [] = false
is_name (c ∷ cs) = is_nondigit c && list_all is_name_byte cs

-- the bytes go on a number whose last byte so far is `last`
unfoldable pub continues_number : ℕ → List ℕ → Bool
continues_number last [] = true
continues_number last (c ∷ cs) = (is_name_byte c || (c == byte ".") || (is_sign c && is_exponent last))
    && continues_number c cs

-- a preprocessing number that begins with a digit (6.4.8)
unfoldable pub is_number_run : List ℕ → Bool
is_number_run [] = false
is_number_run (c ∷ cs) = is_digit c && continues_number c cs

-- the bytes could constitute a token (6.4 paragraph 4)
unfoldable pub could_be_token : List ℕ → Bool
could_be_token bytes = is_name bytes || is_number_run bytes || is_among marks bytes

-- ---- integer constants (6.4.4.1)

unfoldable pub is_suffix : ℕ → Bool
is_suffix c = (c == byte "u") || (c == byte "U")

-- the last byte is a suffix
unfoldable pub is_suffixed : List ℕ → Bool
is_suffixed run = list_any is_suffix (drop (length run - 1) run)

unfoldable pub without_suffix : List ℕ → List ℕ
without_suffix run = if is_suffixed run then take (length run - 1) run else run

-- `0x` or `0X` stands first
unfoldable pub is_hexadecimal : List ℕ → Bool
is_hexadecimal bytes = begins_with bytes (codes "0x") || begins_with bytes (codes "0X")

-- a `0` that stands first alone is octal
unfoldable pub base_of : List ℕ → ℕ
base_of bytes = if is_hexadecimal bytes then 16 else if begins_with bytes (codes "0") then 8 else 10

unfoldable pub digits_of : List ℕ → List ℕ
digits_of bytes = if is_hexadecimal bytes then drop 2 bytes else bytes

-- one digit of the base or more
unfoldable pub is_numeral : ℕ → List ℕ → Bool
is_numeral base digits = nat_lt 0 (length digits) && list_all (λ c. nat_lt (digit_value c) base) digits

-- The type is the first of a list that holds the value: of `int` for a decimal constant, of `int` and `unsigned` for
-- an octal or a hexadecimal one, of `unsigned` for one with a suffix.
unfoldable pub number_kind : Bool → ℕ → ℕ → Option Kind
number_kind suffixed base value =
    if not suffixed && nat_lt value (2 ^ 31) then Some (Number false value)
    else if (suffixed || not (base == 10)) && nat_lt value (2 ^ 32) then Some (Number true value)
    else None

-- the constant without its suffix, and its type
unfoldable pub constant_in : Bool → List ℕ → Option Kind
constant_in suffixed bytes =
    if is_numeral (base_of bytes) (digits_of bytes) then number_kind suffixed (base_of bytes)
    (digits_value (base_of bytes) (digits_of bytes))
    else None

-- the constant that a number run is
unfoldable pub constant_of : List ℕ → Option Kind
constant_of run = constant_in (is_suffixed run) (without_suffix run)

-- what a token with these bytes is
unfoldable pub kind_of : List ℕ → Option Kind
kind_of bytes =
    if is_number_run bytes then constant_of bytes
    else if is_among keywords bytes then Some Word
    else if is_name bytes then Some Name
    else if is_among marks bytes then Some Mark
    else None
