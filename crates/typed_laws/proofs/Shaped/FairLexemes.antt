-- What the tokens of a text keep: each constant lies in the range of its type, and each `op=` has one of its operators.
use Rattle.std.proofs.Common.{◌≡◌, ℕ, ◌^◌, ◌+◌, Bool, true, false, if◌then◌else◌, List, [], ◌∷◌, Option, Some, None, refl, sym, subst}
use Rattle.std.specs.Prelude.{not, ◌&&◌, ◌||◌, ◌==◌, nat_lt, IsTrue, pos, drop, take}
use Rattle.std.specs.Str.Parse.{digits_value}
use Rattle.c_tree.specs.declared.token.Kind.{Kind}
use Rattle.c_tree.specs.declared.token.Kind.TheVariants as kind
use Rattle.c_tree.specs.declared.token.Token.{Token}
use Rattle.c_tree.specs.declared.tree.Ty.{Ty}
use Rattle.c_tree.specs.declared.tree.Ty.TheVariants as ty
use Rattle.c_tree.specs.declared.symbol.Symbol.{Symbol}
use Rattle.c_tree.specs.declared.symbol.Symbol.TheVariants as s
use Rattle.c_tree.specs.Tokens.TokenKinds as of
use Rattle.c_tree.specs.Tokens.TokenKinds.{keywords, is_among, is_name, is_number_run, is_numeral, is_suffixed, without_suffix, base_of, digits_of, number_kind, constant_in, constant_of, kind_of}
use Rattle.c_tree.specs.Tokens.Lexing.{IsToken, spelled, bound, Reaches, nothing, gap, token, Lexes}
use Rattle.c_tree.specs.Tokens.Symbols.{Spelled, Lexeme, keyword_symbols, mark_symbols, look_up, symbol_of, constant_type, value_of, lexeme, lexemes}
use Rattle.c_tree.specs.Tokens.Places.{spelling}
use Rattle.c_tree.specs.Meaning.Values.{is_of}
use Rattle.c_tree.specs.Keeping.WellFormed.{is_compound}
use Rattle.std.specs.Cmp.{second_so}

-- ---- constants

-- what a token by its bytes keeps: its value, which is 0 where it is no constant, lies in the range of its type
abbrev InRange : Option Kind → Type 0
InRange None = Unit {0}
InRange (Some k) = IsTrue (is_of (constant_type k) (pos (value_of k)))

choose : (b : Bool) (x y : Option Kind) → (b ≡ true → InRange x) → InRange y → InRange (if b then x else y)
choose true x y h k = h refl
choose false x y h k = k

typed_in_range : (suffixed : Bool) (base value : ℕ) → InRange (number_kind suffixed base value)
unfolding number_kind
typed_in_range suffixed base value =
    choose (not suffixed && nat_lt value (2 ^ 31)) _ _ (second_so (not suffixed) (nat_lt value (2 ^ 31)))
    (choose ((suffixed || not (base == 10)) && nat_lt value (2 ^ 32)) _ None (second_so (suffixed || not (base == 10)) (nat_lt value (2 ^ 32))) tt)

constant_in_range : (suffixed : Bool) (bytes : List ℕ) → InRange (constant_in suffixed bytes)
unfolding constant_in
constant_in_range suffixed bytes = choose (is_numeral (base_of bytes) (digits_of bytes)) _ None
    (λ h. typed_in_range suffixed (base_of bytes) (digits_value (base_of bytes) (digits_of bytes))) tt

kind_in_range : (bytes : List ℕ) → InRange (kind_of bytes)
unfolding kind_of constant_of
kind_in_range bytes =
    choose (is_number_run bytes) _ _ (λ h. constant_in_range (is_suffixed bytes) (without_suffix bytes))
    (choose (is_among keywords bytes) _ _ (λ h. refl)
    (choose (is_name bytes) _ _ (λ h. refl)
    (choose (is_among of.marks bytes) _ None (λ h. refl) tt)))

-- ---- lexemes

-- what a lexeme with this symbol keeps
abbrev pub is_fair : Symbol → Ty → ℕ → Bool
is_fair s.Number t n = is_of t (pos n)
is_fair (s.Compound o) t n = is_compound o
is_fair (s.Step o) t n = is_compound o
is_fair _ t n = true

abbrev pub IsFair : Lexeme → Type 0
IsFair l = IsTrue (is_fair l.symbol l.ty l.value)

abbrev pub AllFair : List Lexeme → Type 0
AllFair [] = Unit {0}
AllFair (l ∷ ls) = IsFair l × AllFair ls

abbrev AreFair : List Spelled → Type 0
AreFair [] = Unit {0}
AreFair (entry ∷ rest) = IsTrue (is_fair entry.1 ty.Int 0) × AreFair rest

looked_up : (b : Bool) (x y : Symbol) → IsTrue (is_fair x ty.Int 0) → IsTrue (is_fair y ty.Int 0) → IsTrue (is_fair (if b then x else y) ty.Int 0)
looked_up true x y h k = h
looked_up false x y h k = k

look_up_fair : (table : List Spelled) → AreFair table → (bytes : List ℕ) → IsTrue (is_fair (look_up table bytes) ty.Int 0)
look_up_fair [] h bytes = refl
look_up_fair (entry ∷ rest) h bytes = looked_up _ entry.1 (look_up rest bytes) h.0 (look_up_fair rest h.1 bytes)

words_fair : AreFair keyword_symbols
words_fair = search

marks_fair : AreFair mark_symbols
marks_fair = search

symbol_fair : (k : Kind) (bytes : List ℕ) → InRange (Some k) → IsTrue (is_fair (symbol_of k bytes) (constant_type k) (value_of k))
symbol_fair kind.Word bytes h = look_up_fair keyword_symbols words_fair bytes
symbol_fair kind.Name bytes h = refl
symbol_fair (kind.Number unsigned value) bytes h = h
symbol_fair kind.Mark bytes h = look_up_fair mark_symbols marks_fair bytes
symbol_fair (kind.Bound number) bytes h = refl

-- ---- texts

token_fair : (before here : List ℕ) (k : Kind) (n : ℕ) (bytes : List ℕ) → IsToken before here k n → IsTrue (is_fair (symbol_of k bytes) (constant_type k) (value_of k))
token_fair before here k n bytes (spelled is) = symbol_fair k bytes (subst InRange is.kind_is (kind_in_range (take n here)))
token_fair before here k n bytes (bound is) = subst (λ (x : Kind). IsTrue (is_fair (symbol_of x bytes) (constant_type x) (value_of x))) (sym is.kind_is) refl

reached_fair : (text : List ℕ) {to from : ℕ} {tokens : List Token} → Reaches text to from tokens → AllFair (lexemes text tokens)
unfolding lexemes lexeme
reached_fair text (nothing e none) = subst (λ (ts : List Token). AllFair (lexemes text ts)) (sym none) tt
reached_fair text (gap n separates more) = reached_fair text more
reached_fair text {from = from} (token k n rest is more e) =
    let one : Token = record { kind = k; from = from; to = from + n } in
    subst (λ (ts : List Token). AllFair (lexemes text ts)) (sym e)
    (token_fair (take from text) (drop from text) k n (spelling text one) is, reached_fair text more)

pub lexemes_fair : (text : List ℕ) (tokens : List Token) → Lexes text tokens → AllFair (lexemes text tokens)
lexemes_fair text tokens h = reached_fair text h
