-- Reading from the left: what was read and the tokens after it, or the fault.
use Rattle.std.specs.Prelude.{
  ℕ,
  zero,
  suc,
  Bool,
  true,
  false,
  not,
  if◌then◌else◌,
  List,
  [],
  ◌∷◌,
  ◌++◌,
  length,
  Option,
  Some,
  None,
  Result,
  Ok,
  Err,
}
use Rattle.c_tree.specs.declared.tree.Ty.{Ty}
use Rattle.c_tree.specs.declared.tree.Ty.TheVariants as ty
use Rattle.c_tree.specs.declared.unit.Spot.{Spot}
use Rattle.c_tree.specs.declared.unit.RawBound.{RawBound}
use Rattle.c_tree.specs.declared.unit.RawExpr.{RawExpr}
use Rattle.c_tree.specs.declared.symbol.Symbol.{Symbol}
use Rattle.c_tree.specs.declared.symbol.Symbol.TheVariants as s
use Rattle.c_tree.specs.Tokens.Symbols.{Lexeme, spot}
use Rattle.parse_laws.specs.declared.fault.ReadingFault.{ReadingFault}
use Rattle.parse_laws.specs.declared.fault.ReadingFault.TheVariants.{Syntax, Depth}
use Rattle.parse_laws.specs.Lexeme.{constant_expr, raw_bound}
use Rattle.parse_laws.specs.Same.{is_same_symbol}

abbrev pub Outcome : Type 0 → Type 0
Outcome A = Result (A × List Lexeme) ReadingFault

abbrev pub Parser : Type 0 → Type 0
Parser A = List Lexeme → Outcome A

abbrev pub and_then : {A B : Type 0} → Outcome A → (A → Parser B) → Outcome B
and_then (Ok p) f = f p.0 p.1
and_then (Err x) f = Err x

infixl 10 ◌>>=◌
abbrev pub ◌>>=◌ : {A B : Type 0} → Parser A → (A → Parser B) → Parser B
p >>= f = λ ts. and_then (p ts) f

infixl 10 ◌>>◌
abbrev pub ◌>>◌ : {A B : Type 0} → Parser A → Parser B → Parser B
p >> q = p >>= (λ _. q)

abbrev pub pure : {A : Type 0} → A → Parser A
pure a = λ ts. Ok (a, ts)

abbrev pub refuse : {A : Type 0} → Parser A
refuse = λ ts. Err (Syntax (length ts))

abbrev pub too_deep : {A : Type 0} → Parser A
too_deep = λ ts. Err (Depth (length ts))

-- ---- the next token

abbrev pub first : List Lexeme → Option Symbol
first [] = None
first (t ∷ ts) = Some t.symbol

abbrev pub head_lexeme : List Lexeme → Lexeme
head_lexeme [] = record { symbol = s.Other; bytes = []; ty = ty.Int; value = 0; at = 0 }
head_lexeme (t ∷ ts) = t

abbrev pub tail : List Lexeme → List Lexeme
tail [] = []
tail (t ∷ ts) = ts

abbrev pub is_symbol : Symbol → Option Symbol → Bool
is_symbol wanted None = false
is_symbol wanted (Some found) = is_same_symbol found wanted

unfoldable pub sees : Symbol → List Lexeme → Bool
sees wanted ts = is_symbol wanted (first ts)

-- the token after the next one
unfoldable pub sees_second : Symbol → List Lexeme → Bool
sees_second wanted ts = is_symbol wanted (first (tail ts))

-- a token that is the symbol, seen by `view`
unfoldable pub symbol_phrase : {A : Type 0} → Symbol → (Lexeme → A) → Parser A
symbol_phrase wanted view = λ ts. if sees wanted ts then Ok (view (head_lexeme ts), tail ts) else refuse ts

-- the symbol, and its place
abbrev pub expect : Symbol → Parser ℕ
expect wanted = symbol_phrase wanted (λ t. t.at)

abbrev pub name : Parser Spot
name = symbol_phrase s.Name spot

abbrev pub number_phrase : Parser RawExpr
number_phrase = symbol_phrase s.Number constant_expr

abbrev pub bound : Parser RawBound
bound = symbol_phrase s.Bound raw_bound

-- a word that may be missing: whether it is there
unfoldable pub optional_word : Symbol → Parser Bool
optional_word word = λ ts. if sees word ts then Ok (true, tail ts) else Ok (false, ts)

-- ---- types

abbrev pub is_type : Option Symbol → Bool
is_type (Some s.Int) = true
is_type (Some s.Signed) = true
is_type (Some s.Unsigned) = true
is_type _ = false

unfoldable pub begins_type : List Lexeme → Bool
begins_type ts = is_type (first ts)

-- a word of a type, after which an `int` may stand
unfoldable pub with_int : Symbol → Ty → Parser Ty
with_int word to = do
  expect word
  optional_word s.Int
  pure to

abbrev pub type_by : Option Symbol → Parser Ty
type_by (Some s.Int) = do
  expect s.Int
  pure ty.Int
type_by (Some s.Signed) = with_int s.Signed ty.Int
type_by (Some s.Unsigned) = with_int s.Unsigned ty.Unsigned
type_by _ = refuse

unfoldable pub type_name : Parser Ty
type_name = λ ts. type_by (first ts) ts

-- ---- one or more phrases with a comma between any two

-- whether a further phrase comes: after a comma
unfoldable pub another : List Lexeme → Bool
another ts = sees s.Comma ts

-- the same in a list that may end with a comma, before its `}`
unfoldable pub another_value : List Lexeme → Bool
another_value ts = if sees s.Comma ts then not (sees_second s.RightBrace ts) else false

-- at most so many phrases. `goes_on` is `another`; in the list of an array it is `another_value`, which leaves the last
-- comma unread, so that `optional_word s.Comma` and then `expect s.RightBrace` follow
unfoldable pub separated_phrases : {A : Type 0} → (List Lexeme → Bool) → Parser A → ℕ → Parser (List A)
separated_phrases goes_on phrase zero = refuse
separated_phrases goes_on phrase (suc n) = phrase >>= (λ a ts. if goes_on ts
    then (do expect s.Comma; more ← separated_phrases goes_on phrase n; pure (a ∷ more)) ts else Ok (a ∷ [], ts))

-- the rest of the phrases, after the phrases `front`
unfoldable pub separated_on : {A : Type 0} → (List Lexeme → Bool) → Parser A → ℕ → List A → Parser (List A)
separated_on goes_on phrase n front ts = and_then (separated_phrases goes_on phrase n ts)
    (λ more u. Ok (front ++ more, u))

-- each phrase takes a token, so there are as many turns as tokens
unfoldable pub phrases : {A : Type 0} → (List Lexeme → Bool) → Parser A → Parser (List A)
phrases goes_on phrase = λ ts. separated_phrases goes_on phrase (length ts) ts
