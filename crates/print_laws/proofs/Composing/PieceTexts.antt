-- Pieces that put their text before that of the pieces behind them.
use Rattle.std.proofs.Common.{◌≡◌, ℕ, zero, suc, List, [], ◌∷◌, ◌++◌, refl, ◌∙◌, ap}
use Rattle.std.specs.Prelude.{codes}
use Rattle.print_laws.specs.PrintedStatements.{margin, line}
use Rattle.print_laws.proofs.Composing.Pieces.{before2}
use Rattle.print_laws.proofs.Composing.Composed.{Piece, Gap, piece_text, text_of}
use Rattle.print_laws.proofs.Composing.ComposedStatements.{margin_pieces, between}

-- the pieces put this text before that of others
pub record Puts (inner : List Piece → List Piece) (text : List ℕ) : Type 0 where
  pub before : (rest : List Piece) → text_of (inner rest) ≡ text ++ text_of rest

pub puts_nothing : Puts (λ rest. rest) []
puts_nothing = record { before = λ rest. refl }

pub puts_piece : (x : Piece) → Puts (λ rest. x ∷ rest) (piece_text x)
puts_piece x = record { before = λ rest. refl }

-- one behind another
pub both : {first second : List Piece → List Piece} {a b : List ℕ} → Puts first a → Puts second b → Puts (λ rest. first (second rest)) (a ++ b)
both {first} {second} {a} {b} one two =
    record { before = λ rest. one.before (second rest) ∙ ap (λ t. a ++ t) (two.before rest) ∙ before2 a b (text_of rest) }

-- the same under another name
pub puts_as : {inner : List Piece → List Piece} {a b : List ℕ} → a ≡ b → Puts inner a → Puts inner b
puts_as is one = record { before = λ rest. one.before rest ∙ ap (λ t. t ++ text_of rest) is }

-- ---- lines

margin_before : (k : ℕ) (rest : List Piece) → text_of (margin_pieces k rest) ≡ margin k ++ text_of rest
unfolding margin_pieces margin
margin_before zero rest = refl
margin_before (suc k) rest = margin_before k (Gap 32 ∷ Gap 32 ∷ Gap 32 ∷ Gap 32 ∷ rest) ∙ before2 (margin k) (codes "    ") (text_of rest)

pub margin_text : (k : ℕ) → Puts (margin_pieces k) (margin k)
margin_text k = record { before = margin_before k }

-- pieces between a margin and the end of the line
pub line_text : (k : ℕ) {inner : List Piece → List Piece} {t : List ℕ} → Puts inner t → Puts (λ rest. margin_pieces k (inner (Gap 10 ∷ rest))) (line k t)
unfolding line
line_text k is = both (both (margin_text k) is) (puts_piece (Gap 10))

-- ---- marks with blanks

pub between_text : (bytes : List ℕ) → Puts (between bytes) (codes " " ++ bytes ++ codes " ")
between_text bytes = record { before = λ rest. ap (λ t. 32 ∷ t) (before2 bytes (codes " ") (text_of rest)) }
