-- The tokens of a text in pieces, read together with it, are the pieces.
use Rattle.std.proofs.Common.{◌≡◌, ℕ, ◌+◌, ◌-◌, List, [], ◌∷◌, ◌++◌, length, take, refl, ◌∙◌, ap, arith}
use Rattle.std.proofs.Math.Seq.{take-append_seam}
use Rattle.c_tree.specs.declared.token.Kind.{Kind}
use Rattle.c_tree.specs.declared.token.Kind.TheVariants.{Bound}
use Rattle.c_tree.specs.declared.token.Token.{Token}
use Rattle.c_tree.specs.Tokens.Places.{spelling}
use Rattle.c_tree.specs.Tokens.Symbols.{symbol_of, constant_type, value_of, lexeme, lexemes}
use Rattle.c_tree.specs.Tokens.Symbols as symbols
use Rattle.print_laws.proofs.Composing.Composed.{Piece, Gap, Lexeme, Pragma, piece_text, text_of, tokens_of, At, at_piece}
use Rattle.print_laws.proofs.Spelled.SpelledAgain.{lexeme_at, lexemes_of}

abbrev token_at : ℕ → Kind → List ℕ → Token
token_at at k w = record { kind = k; from = at; to = at + length w }

spelling_is : (text before w rest : List ℕ) (from : ℕ) (k : Kind) → At text before w rest from → spelling text (token_at from k w) ≡ w
spelling_is text before w rest from k at =
    let size : from + length w - from ≡ length w = omega arith in
    (λ i. take (size i) (at.here i)) ∙ take-append_seam w rest

lexeme_is : (text before w rest : List ℕ) (from : ℕ) (k : Kind) → At text before w rest from → lexeme text (token_at from k w) ≡ lexeme_at from k w
unfolding lexeme
lexeme_is text before w rest from k at =
    ap (λ (bytes : List ℕ). lexeme_of bytes) (spelling_is text before w rest from k at)
  where
    lexeme_of : List ℕ → symbols.Lexeme
    lexeme_of bytes = record { symbol = symbol_of k bytes; bytes = bytes; ty = constant_type k; value = value_of k; at = from }

pub lexemes_are : (text before : List ℕ) (from : ℕ) (ps : List Piece) → text ≡ before ++ text_of ps → from ≡ length before → lexemes text (tokens_of from ps) ≡ lexemes_of from ps
unfolding lexemes
lexemes_are text before from [] is place = refl
lexemes_are text before from (Gap c ∷ ps) is place =
    let at = at_piece text before (c ∷ []) (text_of ps) from is place in
    lexemes_are text (before ++ c ∷ []) (from + 1) ps at.text_is at.next_from
lexemes_are text before from (Lexeme k w ∷ ps) is place =
    let at = at_piece text before w (text_of ps) from is place in
    λ i. lexeme_is text before w (text_of ps) from k at i ∷ lexemes_are text (before ++ w) (from + length w) ps at.text_is at.next_from i
lexemes_are text before from (Pragma n ∷ ps) is place =
    let w : List ℕ = piece_text (Pragma n) in
    let at = at_piece text before w (text_of ps) from is place in
    λ i. lexeme_is text before w (text_of ps) from (Bound n) at i ∷ lexemes_are text (before ++ w) (from + length w) ps at.text_is at.next_from i
