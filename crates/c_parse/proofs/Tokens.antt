-- The tokens of a text, one at a time.
use Rattle.std.proofs.Common.{◌≡◌, ℕ, ◌<◌, suc, List, [], ◌∷◌, drop, get_or, length, refl, ap, sym, ◌∙◌, arith}
use Rattle.c_tree.specs.declared.token.Token.{Token}
use Rattle.c_tree.specs.Tokens.Symbols.{Lexeme, lexeme, lexemes}
use Rattle.parse_laws.specs.Parser.{head_lexeme, tail}

pub lexemes-none : (text : List ℕ) (ts : List Token) → length ts < 1 → lexemes text ts ≡ []
unfolding lexemes
lexemes-none text [] h = refl
lexemes-none text (t ∷ ts) h = absurd (omega arith)

pub lexemes-cons : (text : List ℕ) (ts : List Token) (d : Token) → 0 < length ts → lexemes text ts ≡ lexeme text (get_or ts 0 d) ∷ lexemes text (drop 1 ts)
unfolding lexemes
lexemes-cons text [] d h = absurd (omega arith)
lexemes-cons text (t ∷ ts) d h = refl

pub length-lexemes : (text : List ℕ) (ts : List Token) → length (lexemes text ts) ≡ length ts
unfolding lexemes
length-lexemes text [] = refl
length-lexemes text (t ∷ ts) = ap (λ n. suc n) (length-lexemes text ts)

pub head_lexeme-lexemes : (text : List ℕ) (ts : List Token) (ls : List Lexeme) (d : Token) → 0 < length ls → lexemes text ts ≡ ls → head_lexeme ls ≡ lexeme text (get_or ts 0 d)
head_lexeme-lexemes text ts ls d h is =
    let some : 0 < length ts = omega (arith, length-lexemes text ts, ap length is) in ap head_lexeme (sym is ∙ lexemes-cons text ts d some)

pub lexemes-tail : (text : List ℕ) (ts : List Token) (ls : List Lexeme) → lexemes text ts ≡ ls → lexemes text (drop 1 ts) ≡ tail ls
unfolding lexemes
lexemes-tail text [] ls is = ap tail is
lexemes-tail text (t ∷ ts) ls is = ap tail is

pub lexemes-second : (text : List ℕ) (ts : List Token) (d : Token) → 1 < length ts → tail (lexemes text ts) ≡ lexeme text (get_or ts 1 d) ∷ lexemes text (drop 2 ts)
unfolding lexemes
lexemes-second text [] d h = absurd (omega arith)
lexemes-second text (t ∷ []) d h = absurd (omega arith)
lexemes-second text (t ∷ u ∷ ts) d h = refl

pub lexemes-no_second : (text : List ℕ) (ts : List Token) → length ts < 2 → tail (lexemes text ts) ≡ []
unfolding lexemes
lexemes-no_second text [] h = refl
lexemes-no_second text (t ∷ []) h = refl
lexemes-no_second text (t ∷ u ∷ ts) h = absurd (omega arith)

pub ruleset front = (lexemes-none, lexemes-cons, length-lexemes, lexemes-second, lexemes-no_second)
