-- What stands at a place of a text.
use Rattle.std.specs.Prelude.{◌≡◌, ℕ, false, List, take, drop, Option, Some, None, Result, MatchResult}
use Rattle.c_tree.specs.declared.token.Token.{Token}
use Rattle.c_tree.specs.Tokens.Characters.{begins, is_blank}
use Rattle.c_tree.specs.Tokens.Lexing.{Separates, IsToken, opens_block_comment, opens_line_comment, opens_directive}
use Rattle.c_token.specs.declared.piece.Piece.{Piece}
use Rattle.c_token.specs.declared.piece.Piece.TheVariants.{Gap, Lexeme}
use Rattle.c_token.specs.declared.piece.Flaw.{Flaw}
use Rattle.c_token.specs.declared.piece.Flaw.TheVariants.{Byte, Comment, Number, Directive}
use Rattle.c_token.specs.declared.fault.TokenFault.{TokenFault}
use Rattle.c_token.specs.declared.fault.TokenFault.TheVariants as faults
use Rattle.c_lexemes.specs.Unread.{IsOpenComment, IsBadNumber}
use Rattle.c_token.specs.Faults.{IsStrayByte, IsBadDirective}

-- what is true where a piece is found
abbrev pub IsPiece : List ℕ → List ℕ → Piece → Type 0
IsPiece before here (Gap n) = Separates before here n
IsPiece before here (Lexeme kind n) = IsToken before here kind n

-- what is true where a flaw is found
abbrev pub IsFlaw : List ℕ → List ℕ → Flaw → Type 0
IsFlaw before here Byte = IsStrayByte before here
IsFlaw before here Comment = IsOpenComment here
IsFlaw before here Number = IsBadNumber here
IsFlaw before here Directive = IsBadDirective before here

-- what stands at a place: a piece, or a flaw
abbrev pub Stands : List ℕ → List ℕ → Result Piece Flaw → Type 0
Stands before here r = MatchResult r (IsPiece before here) (IsFlaw before here)

-- neither a blank, nor a comment, nor a line of `#`
pub record IsOther (before here : List ℕ) : Type 0 where
  pub no_blank : begins is_blank here ≡ false
  pub no_block_comment : opens_block_comment here ≡ false
  pub no_line_comment : opens_line_comment here ≡ false
  pub no_directive : opens_directive before here ≡ false

-- how many bytes a piece takes
abbrev pub size_of : Piece → ℕ
size_of (Gap n) = n
size_of (Lexeme kind n) = n

-- the token that a piece between two places is
abbrev pub token_of : Piece → ℕ → ℕ → Option Token
token_of (Gap n) from to = None
token_of (Lexeme kind n) from to = Some (record { kind = kind; from = from; to = to })

-- the fault that a flaw is at a place
abbrev pub token_fault : Flaw → ℕ → TokenFault
token_fault Byte at = faults.Byte at
token_fault Comment at = faults.Comment at
token_fault Number at = faults.Number at
token_fault Directive at = faults.Directive at

-- the fault is that of a flaw at this place of the text
pub record StopsHere (text : List ℕ) (at : ℕ) (fault : TokenFault) : Type 0 where
  pub flaw : Flaw
  pub is : fault ≡ token_fault flaw at
  pub stands : IsFlaw (take at text) (drop at text) flaw
