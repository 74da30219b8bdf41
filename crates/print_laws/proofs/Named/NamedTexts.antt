-- What the names of a text keep: the bytes of each are a name that is no keyword.
use Rattle.std.proofs.Common.{◌≡◌, ℕ, ◌^◌, ◌+◌, ◌-◌, Bool, true, false, List, [], ◌∷◌, Option, Some, None, refl, sym, ◌∙◌, ap, subst, arith, if◌then◌else◌}
use Rattle.std.specs.Prelude.{not, ◌&&◌, ◌||◌, ◌==◌, nat_lt, drop, take}
use Rattle.std.specs.Str.Parse.{digits_value}
use Rattle.c_tree.specs.declared.token.Kind.{Kind}
use Rattle.c_tree.specs.declared.token.Kind.TheVariants as kind
use Rattle.c_tree.specs.declared.token.Token.{Token}
use Rattle.c_tree.specs.declared.symbol.Symbol.{Symbol}
use Rattle.c_tree.specs.declared.symbol.Symbol.TheVariants as s
use Rattle.c_tree.specs.Tokens.TokenKinds as of
use Rattle.c_tree.specs.Tokens.TokenKinds.{keywords, is_among, is_name, is_number_run, is_numeral, is_suffixed, without_suffix, base_of, digits_of, number_kind, constant_in, constant_of, kind_of}
use Rattle.c_tree.specs.Tokens.Lexing.{IsToken, spelled, bound, Reaches, nothing, gap, token, Lexes}
use Rattle.c_tree.specs.Tokens.Symbols.{Spelled, Lexeme, keyword_symbols, mark_symbols, look_up, symbol_of, lexeme, lexemes}
use Rattle.c_tree.specs.Tokens.Places.{spelling}
use Rattle.print_laws.proofs.Composing.ComposedExpressions.{IsIdentifier}

-- ---- kinds

-- what is of the kind of names is a name
abbrev Tells : List ℕ → Option Kind → Type 0
Tells bytes (Some kind.Name) = is_name bytes ≡ true
Tells bytes _ = Unit {0}

choose : (bytes : List ℕ) (b : Bool) (x y : Option Kind) → (b ≡ true → Tells bytes x) → Tells bytes y → Tells bytes (if b then x else y)
choose bytes true x y h k = h refl
choose bytes false x y h k = k

typed_tells : (bytes : List ℕ) (suffixed : Bool) (base value : ℕ) → Tells bytes (number_kind suffixed base value)
unfolding number_kind
typed_tells bytes suffixed base value =
    choose bytes (not suffixed && nat_lt value (2 ^ 31)) _ _ (λ h. tt)
    (choose bytes ((suffixed || not (base == 10)) && nat_lt value (2 ^ 32)) _ None (λ h. tt) tt)

constant_tells : (bytes : List ℕ) (suffixed : Bool) (run : List ℕ) → Tells bytes (constant_in suffixed run)
unfolding constant_in
constant_tells bytes suffixed run = choose bytes (is_numeral (base_of run) (digits_of run)) _ None
    (λ h. typed_tells bytes suffixed (base_of run) (digits_value (base_of run) (digits_of run))) tt

kind_tells : (bytes : List ℕ) → Tells bytes (kind_of bytes)
unfolding kind_of constant_of
kind_tells bytes =
    choose bytes (is_number_run bytes) _ _ (λ h. constant_tells bytes (is_suffixed bytes) (without_suffix bytes))
    (choose bytes (is_among keywords bytes) _ _ (λ h. tt)
    (choose bytes (is_name bytes) _ _ (λ h. h)
    (choose bytes (is_among of.marks bytes) _ None (λ h. tt) tt)))

-- ---- lexemes

-- the bytes of a lexeme with this symbol are an identifier where it is a name
abbrev Spells : Symbol → List ℕ → Type 0
Spells s.Name bytes = IsIdentifier bytes
Spells _ bytes = Unit {0}

-- the same of a lexeme, and of each of some
abbrev pub IsNamed : Lexeme → Type 0
IsNamed l = Spells l.symbol l.bytes

abbrev pub AllNamed : List Lexeme → Type 0
AllNamed [] = Unit {0}
AllNamed (l ∷ ls) = IsNamed l × AllNamed ls

-- a name of a text is an identifier
pub name_at : (l : Lexeme) → l.symbol ≡ s.Name → IsNamed l → IsIdentifier l.bytes
name_at l e h = subst (λ (x : Symbol). Spells x l.bytes) e h

-- the entries of a table are no names
abbrev AreOthers : List Spelled → List ℕ → Type 0
AreOthers [] bytes = Unit {0}
AreOthers (entry ∷ rest) bytes = Spells entry.1 bytes × AreOthers rest bytes

looked_up : (b : Bool) (x y : Symbol) (bytes : List ℕ) → Spells x bytes → Spells y bytes → Spells (if b then x else y) bytes
looked_up true x y bytes h k = h
looked_up false x y bytes h k = k

look_up_spells : (table : List Spelled) (bytes : List ℕ) → AreOthers table bytes → Spells (look_up table bytes) bytes
look_up_spells [] bytes h = tt
look_up_spells (entry ∷ rest) bytes h = looked_up _ entry.1 (look_up rest bytes) bytes h.0 (look_up_spells rest bytes h.1)

words_others : (bytes : List ℕ) → AreOthers keyword_symbols bytes
words_others bytes = search

marks_others : (bytes : List ℕ) → AreOthers mark_symbols bytes
marks_others bytes = search

symbol_spells : (k : Kind) (bytes : List ℕ) → kind_of bytes ≡ Some k → Spells (symbol_of k bytes) bytes
symbol_spells kind.Word bytes is = look_up_spells keyword_symbols bytes (words_others bytes)
symbol_spells kind.Name bytes is = record { name = subst (Tells bytes) is (kind_tells bytes); kind_is = is }
symbol_spells (kind.Number unsigned value) bytes is = tt
symbol_spells kind.Mark bytes is = look_up_spells mark_symbols bytes (marks_others bytes)
symbol_spells (kind.Bound number) bytes is = tt

-- ---- texts

token_spells : (before here : List ℕ) (k : Kind) (n : ℕ) (bytes : List ℕ) → bytes ≡ take n here → IsToken before here k n → Spells (symbol_of k bytes) bytes
token_spells before here k n bytes same (spelled is) = symbol_spells k bytes (ap kind_of same ∙ is.kind_is)
token_spells before here k n bytes same (bound is) = subst (λ (x : Kind). Spells (symbol_of x bytes) bytes) (sym is.kind_is) tt

spelling_is : (text : List ℕ) (k : Kind) (from n : ℕ) → spelling text (record { kind = k; from = from; to = from + n }) ≡ take n (drop from text)
spelling_is text k from n =
    let size : from + n - from ≡ n = omega arith in ap (λ m. take m (drop from text)) size

reached_named : (text : List ℕ) {to from : ℕ} {tokens : List Token} → Reaches text to from tokens → AllNamed (lexemes text tokens)
unfolding lexemes lexeme
reached_named text (nothing e none) = subst (λ (ts : List Token). AllNamed (lexemes text ts)) (sym none) tt
reached_named text (gap n separates more) = reached_named text more
reached_named text {from = from} (token k n rest is more e) =
    let one : Token = record { kind = k; from = from; to = from + n } in
    subst (λ (ts : List Token). AllNamed (lexemes text ts)) (sym e)
    (token_spells (take from text) (drop from text) k n (spelling text one) (spelling_is text k from n) is, reached_named text more)

-- each name of a text is an identifier
pub lexemes_named : (text : List ℕ) (tokens : List Token) → Lexes text tokens → AllNamed (lexemes text tokens)
lexemes_named text tokens h = reached_named text h
