-- Which tokens a text is, place by place. `here` is what stands from a place on, and `before` what stands in front of
-- it.
use Rattle.std.specs.Prelude.{
  ◌≡◌,
  ℕ,
  ◌+◌,
  ◌<◌,
  ◌≤◌,
  nat_le,
  Bool,
  true,
  false,
  not,
  ◌&&◌,
  ◌||◌,
  List,
  [],
  ◌∷◌,
  length,
  take,
  drop,
  codes,
  bytes_eq,
  count_by,
  take_while,
  Some,
}
use Rattle.std.specs.List.{list_all, prefix_len, before_first, after_last}
use Rattle.std.specs.Str.Parse.{digits_value}
use Rattle.c_tree.specs.declared.token.Kind.{Kind}
use Rattle.c_tree.specs.declared.token.Kind.TheVariants.{Bound}
use Rattle.c_tree.specs.declared.token.Token.{Token}
use Rattle.c_tree.specs.Tokens.Characters.{
  begins,
  begins_with,
  is_blank,
  is_space_or_tab,
  is_line_feed,
  is_carriage_return,
  is_digit,
  is_name_byte,
}
use Rattle.c_tree.specs.Tokens.TokenKinds.{could_be_token, kind_of}

-- ---- tokens

-- the first n bytes are the longest sequence that could constitute a token (C11 6.4 paragraph 4)
pub record IsLongest (here : List ℕ) (n : ℕ) : Type 0 where
  pub within : n ≤ length here
  pub could_be : could_be_token (take n here) ≡ true
  pub longest : (m : ℕ) → n < m → m ≤ length here → could_be_token (take m here) ≡ false

-- ---- comments (6.4.9)

unfoldable pub opens_block_comment : List ℕ → Bool
opens_block_comment here = begins_with here (codes "/*")

unfoldable pub opens_line_comment : List ℕ → Bool
opens_line_comment here = begins_with here (codes "//")

-- the bytes have `*/` at this place
unfoldable pub closes_at : List ℕ → ℕ → Bool
closes_at bytes k = begins_with (drop k bytes) (codes "*/")

-- `/*`, and all up to and with the first `*/` behind it
pub record IsBlockComment (here : List ℕ) (n : ℕ) : Type 0 where
  pub opens : opens_block_comment here ≡ true
  pub inside : ℕ
  pub closes : closes_at (drop 2 here) inside ≡ true
  pub first : (k : ℕ) → k < inside → closes_at (drop 2 here) k ≡ false
  pub size : n ≡ inside + 4

-- what stands up to the end of the line
unfoldable pub line_of : List ℕ → List ℕ
line_of here = before_first is_line_feed here

-- `//`, and all up to the end of the line
pub record IsLineComment (here : List ℕ) (n : ℕ) : Type 0 where
  pub opens : opens_line_comment here ≡ true
  pub size : n ≡ length (line_of here)

-- ---- lines of `#`

-- a `#` with only spaces and tabs before it on its line
unfoldable pub opens_directive : List ℕ → List ℕ → Bool
opens_directive before here = begins_with here (codes "#") && list_all is_space_or_tab (after_last is_line_feed before)

-- what stands behind the `#` on its line
unfoldable pub directive_of : List ℕ → List ℕ
directive_of here = line_of (drop 1 here)

unfoldable pub after_spaces : List ℕ → List ℕ
after_spaces bytes = drop (prefix_len is_space_or_tab bytes) bytes

-- the word behind spaces and tabs, empty where another byte stands there, and what stands behind it
unfoldable pub word_of : List ℕ → List ℕ
word_of bytes = take_while is_name_byte (after_spaces bytes)

unfoldable pub after_word : List ℕ → List ℕ
after_word bytes = drop (prefix_len is_name_byte (after_spaces bytes)) (after_spaces bytes)

-- nothing, or a digit and anything
unfoldable pub is_marker : List ℕ → Bool
is_marker [] = true
is_marker (c ∷ cs) = is_digit c

unfoldable pub is_pragma : List ℕ → Bool
is_pragma line = bytes_eq (word_of line) (codes "pragma")

unfoldable pub is_loopbound : List ℕ → Bool
is_loopbound line = is_pragma line && bytes_eq (word_of (after_word line)) (codes "loopbound")

-- nothing, a line marker, or a pragma that is none of `loopbound`
unfoldable pub is_skipped : List ℕ → Bool
is_skipped line = is_marker (after_spaces line) || (is_pragma line && not (is_loopbound line))

-- what stands behind the words `pragma` and `loopbound`
unfoldable pub operand_of : List ℕ → List ℕ
operand_of line = after_spaces (after_word (after_word line))

-- the digits of an operand, and what stands behind them
unfoldable pub operand_digits : List ℕ → List ℕ
operand_digits operand = take_while is_digit operand

unfoldable pub operand_rest : List ℕ → List ℕ
operand_rest operand = drop (prefix_len is_digit operand) operand

-- spaces, tabs and at most one carriage return
unfoldable pub is_line_end : List ℕ → Bool
is_line_end rest = list_all (λ c. is_space_or_tab c || is_carriage_return c) rest
    && nat_le (count_by is_carriage_return rest) 1

-- a number of 1 to 10 digits, and the end of the line
unfoldable pub is_bound_operand : List ℕ → Bool
is_bound_operand operand = nat_le 1 (length (operand_digits operand)) && nat_le (length (operand_digits operand)) 10
    && is_line_end (operand_rest operand)

unfoldable pub is_bound_line : List ℕ → Bool
is_bound_line line = is_loopbound line && is_bound_operand (operand_of line)

-- ---- a place

-- the first n bytes separate tokens
pub data Separates (before here : List ℕ) (n : ℕ) : Type 0 where
  blank : begins is_blank here ≡ true → n ≡ 1 → Separates before here n
  block_comment : IsBlockComment here n → Separates before here n
  line_comment : IsLineComment here n → Separates before here n
  skipped_line : opens_directive before here ≡ true → is_skipped (directive_of here) ≡ true → n ≡ 1
      + length (directive_of here) → Separates before here n

-- the first n bytes are a name, a keyword, a number or a mark
pub record IsSpelledToken (here : List ℕ) (kind : Kind) (n : ℕ) : Type 0 where
  pub no_block_comment : opens_block_comment here ≡ false
  pub no_line_comment : opens_line_comment here ≡ false
  pub longest : IsLongest here n
  pub kind_is : kind_of (take n here) ≡ Some kind

-- the first n bytes are a line of `#` with a loop bound, up to its last digit
pub record IsBoundToken (before here : List ℕ) (kind : Kind) (n : ℕ) : Type 0 where
  pub opens : opens_directive before here ≡ true
  pub line : is_bound_line (directive_of here) ≡ true
  pub kind_is : kind ≡ Bound (digits_value 10 (operand_digits (operand_of (directive_of here))))
  pub size : n + length (operand_rest (operand_of (directive_of here))) ≡ 1 + length (directive_of here)

-- the first n bytes are a token
pub data IsToken (before here : List ℕ) (kind : Kind) (n : ℕ) : Type 0 where
  spelled : IsSpelledToken here kind n → IsToken before here kind n
  bound : IsBoundToken before here kind n → IsToken before here kind n

-- ---- a text

-- From one place of the text to another stand these tokens and what separates them.
pub data Reaches (text : List ℕ) (to : ℕ) : ℕ → List Token → Type 0 where
  nothing : {from : ℕ} {tokens : List Token} → from ≡ to → tokens ≡ [] → Reaches text to from tokens
  gap : {from : ℕ} {tokens : List Token} (n : ℕ) → Separates (take from text) (drop from text) n
      → Reaches text to (from + n) tokens → Reaches text to from tokens
  token : {from : ℕ} {tokens : List Token} (kind : Kind) (n : ℕ) (rest : List Token) → IsToken (take from text)
      (drop from text) kind n → Reaches text to (from + n) rest
      → tokens ≡ record { kind = kind; from = from; to = from + n } ∷ rest → Reaches text to from tokens

-- the text is these tokens and what separates them
abbrev pub Lexes : List ℕ → List Token → Type 0
Lexes text tokens = Reaches text (length text) 0 tokens
